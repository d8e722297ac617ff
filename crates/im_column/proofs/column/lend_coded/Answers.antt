use Rattle.std.proofs.Common.{sym, get_or}
use Rattle.std.proofs.lemmas.Option.{get_or_from_slice_get}
use Rattle.im_values.specs.declared.content.Content.TheVariants.{Null}
use Rattle.im_codes.specs.Dictionary.{coded}
use Rattle.im_column.proofs.LendLemmas.{lent_to-more}
use Rattle.im_column.proofs.column.lend_coded.Goals as goal

pub loop-k-preserved : goal.loop-k-preserved
loop-k-preserved c =
    let code = get_or c.args.codes.now c.loop-k.k 0 in
    let read = get_or_from_slice_get (coded c.args.dict.now) code c.value_of.result.now Null c.value_of.ensures in
    lent_to-more (λ k. get_or (coded c.args.dict.now) (get_or c.args.codes.now k 0) Null) c.loop-k.out c.loop-k.k c.value_of.result
    c.loop-k-test.true (sym read) c.loop-k.invariant
