use Rattle.std.proofs.Common.{ℕ, List, sym, ap, ◌∙◌, arith}
use Rattle.im_bits.specs.Packed.{Packed, codes_in}
use Rattle.im_bits.proofs.PackedLemmas.{codes_in-zeros, words_of-zeros}
use Rattle.im_bits.proofs.bits.Bits.zeros.Goals as goal

pub invariant_of-result : goal.invariant_of-result
invariant_of-result c =
    (omega arith, c.requires, c.new.ensures.items ∙ sym (words_of-zeros (codes_in 0 c.new.result.items c.args.len)))

pub returns : goal.returns
returns c =
    let packed : List ℕ → Packed = λ (l : List ℕ). record { width = 0; codes = l } in
    ap packed (ap (λ (words : List ℕ). codes_in 0 words c.args.len) c.new.ensures.items ∙ codes_in-zeros c.args.len)
