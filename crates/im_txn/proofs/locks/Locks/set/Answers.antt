use Rattle.std.proofs.Common.{◌≡◌, None, sym, ap, ◌∙◌}
use Rattle.std.specs.Option.{option_copied_mut}
use Rattle.im_tables.specs.Table.{found_at, with_cell}
use Rattle.im_tables.proofs.ForCallers.{with_cell-none}
use Rattle.im_txn.proofs.locks.Locks.set.Goals.{in-Some, in_default}
use Rattle.im_txn.proofs.locks.Locks.set.Goals as goal

pub returns : goal.returns
returns c =
    let is = ap (with_cell c.args.table c.args.rid c.args.value) c.self.view_is in
    elim c.match-get_mut.branch [
      | in-Some w ↦ ap (λ inside. inside.cells) w.self-inside-is ∙ is
      | in_default w ↦
          let none : found_at c.self.inside.cells c.args.table c.args.rid ≡ None = sym c.get_mut.ensures.value
          ∙ ap option_copied_mut w.in_default.is in
          ap (λ inside. inside.cells) w.self-inside-is ∙ (sym
          (with_cell-none c.self.inside.cells c.args.table c.args.rid c.args.value none) ∙ is)
    ]
