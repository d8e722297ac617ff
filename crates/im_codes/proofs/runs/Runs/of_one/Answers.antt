use Rattle.std.proofs.Common.{List, arith}
use Rattle.im_codes.specs.declared.run.Run.{Run}
use Rattle.im_codes.proofs.RunLemmas.{IsOneRun, one-run}
use Rattle.im_codes.proofs.runs.Runs.of_one.Goals as goal
use Rattle.im_codes.proofs.runs.Runs.of_one.Goals.{In_ok-push}

is_one : (c : In_ok-push) → IsOneRun c.args.code c.args.len c.push.new.self.items
is_one c =
    one-run c.args.code c.args.len _ c.in_ok-runs.runs.items c.push.new.self.items c.in_ok-runs.ensures.items c.in_ok-push.ensures.items
    (omega (arith, c.requires.few)) c.requires.some

pub invariant_of-result : goal.invariant_of-result
invariant_of-result c =
    let one = is_one (goal.at.invariant_of-result c).In_ok-push in
    (one.are, one.long, c.requires.few)

pub returns : goal.returns
returns c = (is_one (goal.at.returns c).In_ok-push).codes
