use Rattle.std.proofs.Common.{◌≡◌, ◌==◌, ◌&&◌, not, false, set, cond, List, ℕ, length, ap, subst, sym, ◌∙◌}
use Rattle.std.proofs.lemmas.List.{with_items_is, length-set}
use Rattle.im_lanes.specs.Masks.{bit_in, bits_in, words_of}
use Rattle.im_lanes.proofs.MaskLemmas.{Holds, have-holds, small-whole, bit_in-whole, length-of, word-inside, get_or-put, dropped-is}
use Rattle.im_lanes.proofs.mask.Mask.clear.Goals as goal

pub clear_bit-requires-clause-inside : goal.clear_bit-requires-clause-inside
clear_bit-requires-clause-inside c = rw c.deref_mut.ensures.value (word-inside _ _ _ c.args.i c.self.view_is c.self.invariant.1 c.requires)

pub clear_bit-requires-clause-small : goal.clear_bit-requires-clause-small
clear_bit-requires-clause-small c = rw c.deref_mut.ensures.value (λ k. small-whole _ _ k c.self.invariant.1)

pub invariant_of-self : goal.invariant_of-self
invariant_of-self c =
    let words = c.self.inside.words.items in
    let is = with_items_is c.self.inside.words c.clear_bit.new.words (c.clear_bit.auto.words ∙ c.deref_mut.ensures.len) in
    let have = rw c.deref_mut.ensures.value at c.clear_bit.ensures in
    let mask = c.args.self.now in
    let size = length-of _ _ _ c.self.view_is in
    let holds : Holds c.clear_bit.new.words c.self.inside.len (set mask c.args.i false) =
    have-holds (λ k. not (k == c.args.i) && bit_in words k) words c.clear_bit.new.words c.self.inside.len (set mask c.args.i false) c.self.invariant.1 (length-set mask c.args.i false ∙ size) (c.clear_bit.auto.words ∙ ap length c.deref_mut.ensures.value) have
    (λ k h. let bit = bit_in-whole _ _ _ c.self.view_is c.self.invariant.1 k h in dropped-is (k == c.args.i) (bit_in words k) ∙ (ap (λ b. cond (k == c.args.i) false b) bit ∙ sym (get_or-put mask c.args.i k false c.requires))) in
    let P : List ℕ → Type 0 = λ ws. ws ≡ words_of (bits_in ws c.self.inside.len) in
    (c.self.invariant.0, subst P (sym is) holds.whole)

pub returns : goal.returns
returns c =
    let words = c.self.inside.words.items in
    let is = with_items_is c.self.inside.words c.clear_bit.new.words (c.clear_bit.auto.words ∙ c.deref_mut.ensures.len) in
    let have = rw c.deref_mut.ensures.value at c.clear_bit.ensures in
    let mask = c.args.self.now in
    let size = length-of _ _ _ c.self.view_is in
    let holds : Holds c.clear_bit.new.words c.self.inside.len (set mask c.args.i false) =
    have-holds (λ k. not (k == c.args.i) && bit_in words k) words c.clear_bit.new.words c.self.inside.len (set mask c.args.i false) c.self.invariant.1 (length-set mask c.args.i false ∙ size) (c.clear_bit.auto.words ∙ ap length c.deref_mut.ensures.value) have
    (λ k h. let bit = bit_in-whole _ _ _ c.self.view_is c.self.invariant.1 k h in dropped-is (k == c.args.i) (bit_in words k) ∙ (ap (λ b. cond (k == c.args.i) false b) bit ∙ sym (get_or-put mask c.args.i k false c.requires))) in
    ap (λ ws. bits_in ws c.self.inside.len) is ∙ holds.is
