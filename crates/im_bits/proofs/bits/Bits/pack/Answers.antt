use Rattle.std.proofs.Common.{◌≡◌, ℕ, List, length, sym, ap}
use Rattle.im_bits.specs.Packed.{Packed, words_of, codes_in}
use Rattle.im_bits.proofs.PackedLemmas.{codes_in-words_of}
use Rattle.im_bits.proofs.bits.Bits.pack.Goals as goal

pub invariant_of-result : goal.invariant_of-result
invariant_of-result c =
    let codes = c.args.codes.now in
    let back = codes_in-words_of c.args.width codes c.requires.width c.requires.fit in
    (c.requires.width, c.requires.few, rw c.in_ok-words_from.ensures (ap (words_of c.args.width) (sym back)))

pub returns : goal.returns
returns c =
    let codes = c.args.codes.now in
    let items = c.in_ok-words_from.field-0.items in
    let back : codes_in c.args.width items (length codes) ≡ codes =
    rw c.in_ok-words_from.ensures (codes_in-words_of c.args.width codes c.requires.width c.requires.fit) in
    let packed : List ℕ → Packed = λ (l : List ℕ). record { width = c.args.width; codes = l } in
    ap packed back
