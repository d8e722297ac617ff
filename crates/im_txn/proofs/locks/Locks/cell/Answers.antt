use Rattle.std.proofs.Common.{ℕ, Option, ap, ◌∙◌}
use Rattle.std.specs.Option.{unwrap_or}
use Rattle.im_tables.proofs.ForCallers.{unwrap_or-found_at}
use Rattle.im_txn.specs.LockCells.{Locks, lock_of}
use Rattle.im_txn.proofs.locks.Locks.cell.Goals as goal

pub returns : goal.returns
returns c =
    c.unwrap_or.ensures
    ∙ (ap (λ (found : Option ℕ). unwrap_or found 0) (c.copied.ensures ∙ c.get.ensures)
    ∙ (unwrap_or-found_at 0 c.self.inside.cells c.args.table c.args.rid ∙ ap (λ (all : Locks). lock_of all c.args.table c.args.rid) c.self.view_is))
