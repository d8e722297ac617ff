use Rattle.std.proofs.Common.{filter}
use Rattle.im_group.specs.Partials.{keeps}
use Rattle.im_group.specs.inner.Chosen.{with_rows, AreLeft}
use Rattle.im_group.specs.inner.Holding.{asked_by, own}
use Rattle.im_group.proofs.chosen.take_run.Given as goal

-- the rows from the next word on come to the whole
abbrev pub invariant-loop-place : goal.invariant-loop-place
invariant-loop-place l =
    AreLeft (keeps l.asking.filter) l.asking.groups (asked_by l.asking) l.rows l.place (own l.groups.entries)
    (with_rows l.asking.groups (asked_by l.asking) (own l.fn.groups.entries) (filter (keeps l.asking.filter) l.rows))
