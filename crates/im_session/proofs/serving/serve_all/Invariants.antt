use Rattle.std.proofs.Common.{◌≤◌, ◌+◌, ◌-◌, ℕ, List}
use Rattle.im_plan.specs.Plan.{Plan}
use Rattle.im_replies.specs.declared.served.Served.{Served}
use Rattle.im_session.specs.inner.Pins.{HasPins}
use Rattle.im_session.specs.inner.Scans.{Comes, Went}
use Rattle.im_session.specs.Reads.{AreRead, reads_of}
use Rattle.im_session.proofs.serving.serve_all.Given as goal
use Rattle.im_statements.specs.Outcomes.{Outcome}
use Rattle.im_statements.specs.Scans.{serve, serve_from}

-- the extents so far were pinned, the line goes on with those that are left, and those so far were read once each, as their marks tell
abbrev pub invariant-loop-extent : goal.invariant-loop-extent
invariant-loop-extent g l = record {
  went : Went (g.H.Reach.known l.fn.reach) (g.H.Reach.known l.reach);
  pins : HasPins l.wanted l.cursor.bound l.cursor.view (g.H.Reach.known l.fn.reach).log l.cursor.next l.extent l.all.pins.items;
  comes : (k : ℕ) (on : List Served → Plan Outcome)
      → Comes l.context.who k (g.H.Reach.known l.fn.reach) (serve_from l.cursor.view l.cursor.bound.filter l.cursor.next on) (g.H.Reach.known l.reach)
      (serve l.cursor.view l.cursor.bound.filter (l.cursor.view.extents - l.extent) l.extent l.all.marks.items on);
  read : AreRead l.context.who l.cursor.number l.cursor.view l.cursor.next l.extent l.fn.steps l.steps
      (g.H.Reach.known l.fn.reach).log (g.H.Reach.known l.reach).log;
  rows : l.steps ≤ l.fn.steps + reads_of l.cursor.view l.all.marks.items;
}
