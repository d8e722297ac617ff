use Rattle.std.proofs.Common.{[], ◌∙◌, sym, replicate, arith}
use Rattle.std.proofs.lemmas.List.{length-replicate}
use Rattle.im_values.specs.declared.content.Content.TheVariants.{Null}
use Rattle.im_codes.specs.Dictionary.{IsDictionaryOf}
use Rattle.im_codes.proofs.ForCallers.{dictionary-is}
use Rattle.im_column.proofs.ColumnLemmas.{bounded, own-counted}
use Rattle.im_column.proofs.RepeatedLemmas.{dictionary-nulls, nulls-all, sum-nulls}
use Rattle.im_column.proofs.repeated.of_nulls.Goals as goal

pub assembled-requires-clause-few : goal.assembled-requires-clause-few
assembled-requires-clause-few c = rw c.as_zeros-counted.ensures.stands (omega (arith, length-replicate c.args.len Null, c.requires.few))

pub assembled-requires-clause-counted : goal.assembled-requires-clause-counted
assembled-requires-clause-counted c =
    own-counted (replicate c.args.len Null) c.as_zeros-counted.result.kept c.as_zeros-counted.result.bytes c.as_zeros-counted.ensures

pub assembled-requires-clause-bounds : goal.assembled-requires-clause-bounds
assembled-requires-clause-bounds c =
    let dict = c.in_ok-dict.dict in
    let set : IsDictionaryOf [] dict = c.in_ok-dict.ensures in
    rw c.as_zeros-counted.ensures.stands
    (bounded (replicate c.args.len Null) dict c.in_ok-bounds.bounds c.args.len
    (dictionary-is [] dict set ∙ sym (dictionary-nulls c.args.len)) (nulls-all c.args.len)
    (rw c.values.ensures.values at c.in_ok-bounds.ensures))

pub assembled-requires-clause-sum : goal.assembled-requires-clause-sum
assembled-requires-clause-sum c = rw c.as_zeros-counted.ensures.stands (sum-nulls c.args.len)

pub returns : goal.returns
returns c = rw c.as_zeros-counted.ensures.stands at c.assembled.ensures
