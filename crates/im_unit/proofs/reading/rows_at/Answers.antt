use Rattle.std.proofs.Common.{◌≡◌, ℕ, length, map, sym, ap, ◌∙◌, arith}
use Rattle.std.specs.Arc.{arc_value}
use Rattle.std.proofs.lemmas.List.{length-map}
use Rattle.std.proofs.lemmas.Result.{IfOk-weaker}
use Rattle.im_values.specs.Stretches.{cut}
use Rattle.im_unit.specs.inner.Kept.{lent_values, rows_across}
use Rattle.im_unit.proofs.ReadLemmas.{block-more}
use Rattle.im_unit.proofs.PieceLemmas.{lent-rows}
use Rattle.im_unit.proofs.reading.rows_at.Goals as goal

pub loop-k-preserved : goal.loop-k-preserved
loop-k-preserved c =
    let piece = c.lend_piece.new.piece.items in
    let values = c.loop-k.values in
    let longer = c.push_lent.new.values in
    let width = length c.args.columns.now in
    let wide : length (map lent_values piece) ≡ width =
    length-map piece lent_values ∙ (c.lend_piece.ensures.many ∙ length-map c.args.columns.now arc_value) in
    let both = block-more (map lent_values piece) c.loop-k.k width values.items longer.items wide (sym values.ok.0 ∙ c.loop-k.invariant.many)
    c.loop-k.invariant.rows c.in_ok-push_lent.ensures.items in
    record { rows = both.0; many = longer.ok.0 ∙ both.1; room = omega (arith, c.loop-k.invariant.room, c.push_lent.ensures.capacity) }

pub returns-clause-rows : goal.returns-clause-rows
returns-clause-rows c =
    let columns = map arc_value c.args.columns.now in
    let piece = c.lend_piece.new.piece.items in
    let width = length c.args.columns.now in
    let items = c.loop-k.values.items in
    let end : c.loop-k.k ≡ c.args.count = omega (arith, c.loop-k-test.false, c.loop-k.auto.k-end) in
    IfOk-weaker c.rows_of_block.result _ _
    (λ rows is.
    is
    ∙ (ap (λ (n : ℕ). cut n width items) (sym end)
    ∙ (c.loop-k.invariant.rows
    ∙ (ap (rows_across (map lent_values piece)) end ∙ lent-rows columns c.args.first c.args.count piece c.lend_piece.ensures c.requires.few_rows))))
    c.rows_of_block.ensures
