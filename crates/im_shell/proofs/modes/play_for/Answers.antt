use Rattle.std.proofs.Common.{◌≡◌}
use Rattle.im_shell.proofs.ModeLemmas.{OnErr-asked, OnErr-part}
use Rattle.im_shell.proofs.modes.play_for.Goals as goal

pub returns-in-Run-clause-ok : goal.returns-in-Run-clause-ok
returns-in-Run-clause-ok g c = rw c.in-Run.is c.play_script.ensures.ok

pub returns-in-Run-clause-err : goal.returns-in-Run-clause-err
returns-in-Run-clause-err g c = rw c.in-Run.is (OnErr-part _ _ _ c.play_script.ensures.err)

pub returns-in-Gen-clause-ok : goal.returns-in-Gen-clause-ok
returns-in-Gen-clause-ok g c = rw c.in-Gen.is c.play_script-in-Gen.ensures.ok

pub returns-in-Gen-clause-err : goal.returns-in-Gen-clause-err
returns-in-Gen-clause-err g c = rw c.in-Gen.is (OnErr-part _ _ _ c.play_script-in-Gen.ensures.err)

pub returns-in-Race-clause-ok : goal.returns-in-Race-clause-ok
returns-in-Race-clause-ok g c = rw c.in-Race.is c.race_script.ensures.ok

pub returns-in-Race-clause-err : goal.returns-in-Race-clause-err
returns-in-Race-clause-err g c =
    OnErr-asked (c.race_script.new.sink ≡ c.args.sink.now) _ c.args.asked.mode c.args.asked c.args.script.now _ _ c.args.steps.now
    c.race_script.new.steps
    c.in-Race.is
    c.race_script.ensures.err
