use Rattle.std.proofs.Common.{◌≡◌, ◌++◌}
use Rattle.im_statements.specs.Writes.{changes_to}
use Rattle.im_session.proofs.changes.changes_to.Given as goal

-- the changes so far and those that are left are all of them
abbrev pub invariant-loop-rid : goal.invariant-loop-rid
invariant-loop-rid l =
    l.changes.items ++ changes_to l.table l.rewriting l.rid-iterator.rest.items ≡ changes_to l.table l.rewriting l.fn.rows.items
