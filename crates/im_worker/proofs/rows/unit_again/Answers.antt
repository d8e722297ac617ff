use Rattle.std.proofs.Common.{ℕ, List, Option, ◌∙◌, ap, sym, subst}
use Rattle.im_history.specs.Rows.{Row}
use Rattle.im_unit.specs.Holding.{AreShort, HaveWidth}
use Rattle.im_unit.specs.Rebuilt.{fetched_rows}
use Rattle.im_worker.proofs.rows.unit_again.Goals as goal

pub rebuild-requires-clause-width : goal.rebuild-requires-clause-width
rebuild-requires-clause-width c =
    subst (λ (columns : ℕ). HaveWidth columns (fetched_rows c.as_slice.result.now)) (sym c.requires.columns)
    (subst (λ (fetched : List (ℕ × Option Row)). HaveWidth c.args.task.now.columns (fetched_rows fetched))
    (sym (c.as_slice.ensures.value ∙ c.in_ok-lent.ensures)) c.requires.taken.0)

pub rebuild-requires-clause-short : goal.rebuild-requires-clause-short
rebuild-requires-clause-short c =
    subst (λ (fetched : List (ℕ × Option Row)). AreShort (fetched_rows fetched))
    (sym (c.as_slice.ensures.value ∙ c.in_ok-lent.ensures)) c.requires.taken.1
