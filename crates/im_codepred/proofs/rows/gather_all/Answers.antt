use Rattle.std.proofs.Common.{◌+◌, ◌<◌, length, take, drop, get_or, ap, sym, ◌∙◌, arith, length-take}
use Rattle.std.proofs.lemmas.List.Sums.{fold_more}
use Rattle.im_values.specs.declared.content.Content.TheVariants.{Null}
use Rattle.im_codepred.specs.inner.Slabs.{column_of}
use Rattle.im_codepred.specs.inner.Tallying.{with_value}
use Rattle.im_codepred.proofs.FoundLemmas.{gathered-grows}
use Rattle.im_codepred.proofs.GatherLemmas.{column-left, reads-rest}
use Rattle.im_codepred.proofs.rows.gather_all.Goals as goal

pub take-requires : goal.take-requires
take-requires c =
    let rest = drop c.args.first (column_of c.args.rows.now c.args.column) in
    let grown = gathered-grows c.args.gathered.now (take c.loop-i.i rest) in
    let same = ap (λ t. t.values) c.loop-i.invariant in
    omega (arith, grown.1, same, length-take c.loop-i.i rest, c.requires.few, c.requires.rows, c.requires.within, c.loop-i-test.true)

pub loop-i-preserved : goal.loop-i-preserved
loop-i-preserved c =
    let rest = drop c.args.first (column_of c.args.rows.now c.args.column) in
    let inside : c.args.first + c.loop-i.i < length c.args.rows.now = omega (arith, c.requires.within, c.loop-i-test.true) in
    let below = column-left c.args.rows.now c.args.column c.args.first c.loop-i.i inside in
    c.take.ensures
    ∙ (ap (λ v. with_value c.loop-i.gathered v) (c.value_in.ensures ∙ reads-rest c.args.rows.now c.args.column c.args.first c.loop-i.i inside)
    ∙ (ap (λ t. with_value t (get_or rest c.loop-i.i Null)) c.loop-i.invariant ∙ sym (fold_more with_value c.args.gathered.now rest c.loop-i.i Null below)))
