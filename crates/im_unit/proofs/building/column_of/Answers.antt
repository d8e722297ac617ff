use Rattle.std.proofs.Common.{ap, length, arith}
use Rattle.std.proofs.lemmas.List.{length-map}
use denote.Ref.{Bor}
use Rattle.im_values.specs.declared.content.Content.{Content as Value}
use Rattle.im_unit.specs.inner.Kept.{lent_wide}
use Rattle.im_unit.proofs.BuildLemmas.{short-in, few-in}
use Rattle.im_unit.proofs.building.column_of.Goals as goal

pub build_lent-requires-clause-few : goal.build_lent-requires-clause-few
build_lent-requires-clause-few c =
    let few = few-in c.args.width (lent_wide c.args.defaults.now c.args.rows.now) c.args.column c.requires.rows in
    let values = c.in_ok-values.values.items in
    rw c.as_slice-2.ensures.value (omega (arith, few, ap length c.in_ok-values.ensures, length-map values (λ (value : Bor Value). value.now)))

pub build_lent-requires-clause-short : goal.build_lent-requires-clause-short
build_lent-requires-clause-short c =
    rw (c.as_slice-2.ensures.value, c.in_ok-values.ensures) (short-in c.args.width (lent_wide c.args.defaults.now c.args.rows.now) c.args.column c.requires.rows c.requires.inside)
