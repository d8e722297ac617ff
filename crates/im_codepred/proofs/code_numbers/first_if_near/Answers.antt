use Rattle.std.proofs.Common.{◌≡◌, sym, subst, to_z, of_z, w64, arith}
use Rattle.std.proofs.lemmas.Int.{ints, to_z-of_z}
use Rattle.im_codepred.specs.inner.CodeNumbers.{AreFrom}
use Rattle.im_codepred.proofs.CodeNumberLemmas.{from-ends}
use Rattle.im_codepred.proofs.code_numbers.first_if_near.Goals as goal

pub returns-then-from-dict : goal.returns-then-from-dict
returns-then-from-dict c =
    subst (λ z. AreFrom c.args.dict.now z) (sym (to_z-of_z w64 c.args.first c.ranges.first))
    (from-ends c.args.dict.now c.args.first c.args.last c.requires.dictionary c.requires.ends
    (omega (arith, ints, c.if-from-dict.true, c.requires.ends.some)) (omega (arith, ints, c.ranges.last.sfits)))
