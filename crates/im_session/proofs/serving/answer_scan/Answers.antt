use Rattle.std.proofs.Common.{ℕ, List}
use Rattle.im_plan.specs.Plan.{Plan}
use Rattle.im_replies.specs.declared.served.Served.{Served}
use Rattle.im_session.specs.inner.Scans.{Stops}
use Rattle.im_session.proofs.ServingLemmas.{err-always}
use Rattle.im_session.proofs.serving.answer_scan.Goals as goal
use Rattle.im_statements.specs.Outcomes.{Outcome}
use Rattle.im_statements.specs.Scans.{serve_from}

pub returns-in_err-records-clause-err : goal.returns-in_err-records-clause-err
returns-in_err-records-clause-err g c =
    let stops : (k : ℕ) (on : List Served → Plan Outcome)
    → Stops c.args.context.now.who k (g.H.Reach.known c.args.reach.now)
    (serve_from c.args.cursor.now.view c.args.cursor.now.bound.filter c.args.cursor.now.next on)
    (g.H.Reach.known c.gather.new.reach) =
    λ k on. record { later = on c.in_ok-gathered.gathered.marks.items; comes = c.in_ok-gathered.ensures.marks k on } in
    err-always _ _ (λ error. stops)
