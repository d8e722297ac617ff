use Rattle.std.proofs.Common.{get_or}
use Rattle.im_values.specs.declared.content.Content.TheVariants.{Null}
use Rattle.im_codes.specs.Dictionary.{coded}
use Rattle.im_column.proofs.LendLemmas.{AreLentTo}
use Rattle.im_column.proofs.column.lend_coded.Given as goal

abbrev pub invariant-loop-k : goal.invariant-loop-k
invariant-loop-k l = AreLentTo (λ k. get_or (coded l.dict) (get_or l.codes k 0) Null) l.k l.out
