use Rattle.std.proofs.Common.{[], ◌∷◌, arith}
use Rattle.std.proofs.lemmas.List.{length-append}
use Rattle.im_race.proofs.SetUpLemmas.{pass-added, session-added}
use Rattle.im_race.proofs.jobs.session_jobs.Goals as goal

pub loop-session-preserved : goal.loop-session-preserved
loop-session-preserved c =
    let kept = c.loop-session.invariant in
    let number = kept.who in
    let long = length-append c.loop-session.yielded (c.in-Some.session ∷ []) in
    let added = c.in_ok-add_session.ensures in
    record {
      who = omega (arith, number, long);
      jobs = session-added c.args.first.now c.loop-session.first c.args.lines.now c.loop-session.who c.loop-session.yielded c.in-Some.session
          c.loop-session.jobs.items c.add_session.new.jobs.items kept.jobs kept.pass added.jobs kept.who;
      pass = pass-added c.args.first.now c.loop-session.first c.add_session.new.first c.loop-session.jobs.items c.add_session.new.jobs.items kept.pass
          added.pass;
      given = added.given;
    }
