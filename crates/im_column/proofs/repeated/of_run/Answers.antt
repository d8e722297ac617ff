use Rattle.std.proofs.Common.{◌∷◌, [], ◌∙◌, sym, replicate, arith}
use Rattle.std.proofs.lemmas.Int.{to_z-of_z}
use Rattle.std.proofs.lemmas.List.{length-replicate}
use mir.Syntax.{w128}
use Rattle.im_codes.proofs.ForCallers.{dictionary-is}
use Rattle.im_column.proofs.ColumnLemmas.{bounded, own-counted}
use Rattle.im_column.proofs.RepeatedLemmas.{dictionary-many, dictionary-one, nulls-none, sum-times}
use Rattle.im_column.proofs.repeated.of_run.Goals as goal

pub assembled-requires-clause-few : goal.assembled-requires-clause-few
assembled-requires-clause-few c = rw c.in_ok-counted.ensures.stands (omega (arith, length-replicate c.args.len c.args.value.now, c.requires.few))

pub assembled-requires-clause-counted : goal.assembled-requires-clause-counted
assembled-requires-clause-counted c =
    own-counted (replicate c.args.len c.args.value.now) c.in_ok-counted.counted.kept c.in_ok-counted.counted.bytes c.in_ok-counted.ensures

pub assembled-requires-clause-bounds : goal.assembled-requires-clause-bounds
assembled-requires-clause-bounds c =
    let v = c.args.value.now in
    let dict = c.in_ok-dict.dict in
    rw c.in_ok-counted.ensures.stands
    (bounded (replicate c.args.len v) dict c.in_ok-bounds.bounds 0
    (dictionary-is (v ∷ []) dict c.in_ok-dict.ensures ∙ (dictionary-one v 0 c.requires.some ∙ sym (dictionary-many v c.args.len c.requires.many c.requires.some)))
    (nulls-none v c.args.len c.requires.some) (rw c.values.ensures.values at c.in_ok-bounds.ensures))

pub assembled-requires-clause-sum : goal.assembled-requires-clause-sum
assembled-requires-clause-sum c = rw c.in_ok-counted.ensures.stands
    (to_z-of_z w128 c.sum_of_one-sum.result (record { sfits = c.sum_of_one-sum.type_inv })
    ∙ (c.sum_of_one-sum.ensures ∙ sum-times c.args.value.now c.args.len))

pub returns : goal.returns
returns c = rw c.in_ok-counted.ensures.stands at c.assembled.ensures
