use Rattle.std.proofs.Common.{◌≡◌, ◌∙◌, true, false, sym, ap, List}
use Rattle.im_values.specs.declared.schema.Column.{Column}
use Rattle.im_values.specs.Fits.{fits}
use Rattle.im_names.proofs.EvenLemmas.{all_goes, all_stops}
use Rattle.im_names.proofs.even.all_fit.Goals as goal

pub returns-then-not-tuple_fits : goal.returns-then-not-tuple_fits
returns-then-not-tuple_fits c =
    let fit = c.tuple_fits.ensures ∙ ap (λ (cs : List Column). fits c.values.result.now cs) c.columns.ensures.columns in
    let fails : fits c.values.result.now c.args.schema.now ≡ false = sym fit ∙ (let t = c.if-not-tuple_fits.true in cc) in
    all_stops (λ row. fits row c.args.schema.now) c.args.tuples.now c.loop-at.at c.values.result.now c.values.ensures fails c.loop-at.invariant

pub loop-at-preserved : goal.loop-at-preserved
loop-at-preserved c =
    let fit = c.tuple_fits.ensures ∙ ap (λ (cs : List Column). fits c.values.result.now cs) c.columns.ensures.columns in
    let holds : fits c.values.result.now c.args.schema.now ≡ true = sym fit ∙ (let t = c.if-not-tuple_fits.false in cc) in
    all_goes (λ row. fits row c.args.schema.now) c.args.tuples.now c.loop-at.at c.values.result.now c.values.ensures holds c.loop-at.invariant
