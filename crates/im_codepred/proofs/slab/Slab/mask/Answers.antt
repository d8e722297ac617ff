use Rattle.std.proofs.Common.{◌<◌, Bool, List, map, sym, subst, ap, ◌∙◌}
use Rattle.std.specs.Arc.{arc_value}
use Rattle.im_values.specs.declared.content.Content.{Content as Value}
use Rattle.im_syntax.specs.BoundFits.{HasColumn, value_at}
use Rattle.im_codepred.specs.declared.slab.Slab.{Slab}
use Rattle.im_codepred.specs.Asked.{is_met}
use Rattle.im_codepred.specs.inner.Slabs.{count_of, passing, AreAligned, OfEach}
use Rattle.im_codepred.proofs.SelectionLemmas.{ask-columns, ask-run, each-row}
use Rattle.im_codepred.proofs.slab.Slab.mask.Goals as goal

pub rows_mask-requires-clause-inside : goal.rows_mask-requires-clause-inside
rows_mask-requires-clause-inside c =
    let P : Slab → Type 0 = OfEach (λ row. HasColumn row c.args.column) in
    each-row (λ row. HasColumn row c.args.column) c.in-Run.rows.now (subst P c.in-Run.is c.requires.inside)

pub returns-in_ok-column_mask-in-Columns : goal.returns-in_ok-column_mask-in-Columns
returns-in_ok-column_mask-in-Columns c =
    let p = is_met c.args.wanted c.args.asked.now in
    let P : Slab → Type 0 = OfEach (λ row. HasColumn row c.args.column) in
    let inside = subst P c.in-Columns.is c.requires.inside in
    let long = subst AreAligned c.in-Columns.is c.requires.whole.aligned in
    let Q : Slab → Type 0 = λ slab. 0 < count_of slab in
    let some = subst Q c.in-Columns.is c.requires.whole.some in
    c.in_ok-column_mask-in-Columns.ensures
    ∙ (ask-columns p (map arc_value c.in-Columns.columns.now) c.args.column c.in-Columns.field-1 (inside 0 some) long
    ∙ ap (passing (λ row. p (value_at row c.args.column))) (sym c.in-Columns.is))

pub returns-in_ok-rows_mask-in-Run : goal.returns-in_ok-rows_mask-in-Run
returns-in_ok-rows_mask-in-Run c =
    let q : List Value → Bool = λ row. is_met c.args.wanted c.args.asked.now (value_at row c.args.column) in
    c.in_ok-rows_mask-in-Run.ensures ∙ (ask-run q c.in-Run.rows.now ∙ ap (passing q) (sym c.in-Run.is))
