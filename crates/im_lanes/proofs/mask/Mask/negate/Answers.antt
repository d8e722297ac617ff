use Rattle.std.proofs.Common.{◌≡◌, ◌&&◌, not, nat_lt, false, map, List, ℕ, length, get_or, ap, subst, sym, ◌∙◌}
use Rattle.std.proofs.lemmas.List.{with_items_is, length-map}
use Rattle.im_lanes.specs.Masks.{bit_in, bits_in, words_of}
use Rattle.im_lanes.proofs.MaskLemmas.{Holds, have-holds, small-whole, bit_in-whole, count-of, length-of, get_or-turned}
use Rattle.im_lanes.proofs.mask.Mask.negate.Goals as goal

pub not_words-requires-clause-count : goal.not_words-requires-clause-count
not_words-requires-clause-count c = ap length c.deref_mut.ensures.value ∙ count-of _ _ c.self.invariant.1

pub not_words-requires-clause-small : goal.not_words-requires-clause-small
not_words-requires-clause-small c = rw c.deref_mut.ensures.value (λ k. small-whole _ _ k c.self.invariant.1)

pub invariant_of-self : goal.invariant_of-self
invariant_of-self c =
    let words = c.self.inside.words.items in
    let is = with_items_is c.self.inside.words c.not_words.new.words (c.not_words.auto.words ∙ c.deref_mut.ensures.len) in
    let have = rw c.deref_mut.ensures.value at c.not_words.ensures in
    let mask = c.args.self.now in
    let size = length-of _ _ _ c.self.view_is in
    let holds : Holds c.not_words.new.words c.self.inside.len (map not mask) =
    have-holds (λ k. nat_lt k c.self.inside.len && not (bit_in words k)) words c.not_words.new.words c.self.inside.len (map not mask) c.self.invariant.1 (length-map mask not ∙ size) (c.not_words.auto.words ∙ ap length c.deref_mut.ensures.value) have
    (λ k h. let bit = bit_in-whole _ _ _ c.self.view_is c.self.invariant.1 k h in ap (λ b. nat_lt k c.self.inside.len && not b) bit ∙ (ap (λ n. nat_lt k n && not (get_or mask k false)) (sym size) ∙ sym (get_or-turned mask k))) in
    let P : List ℕ → Type 0 = λ ws. ws ≡ words_of (bits_in ws c.self.inside.len) in
    (c.self.invariant.0, subst P (sym is) holds.whole)

pub returns : goal.returns
returns c =
    let words = c.self.inside.words.items in
    let is = with_items_is c.self.inside.words c.not_words.new.words (c.not_words.auto.words ∙ c.deref_mut.ensures.len) in
    let have = rw c.deref_mut.ensures.value at c.not_words.ensures in
    let mask = c.args.self.now in
    let size = length-of _ _ _ c.self.view_is in
    let holds : Holds c.not_words.new.words c.self.inside.len (map not mask) =
    have-holds (λ k. nat_lt k c.self.inside.len && not (bit_in words k)) words c.not_words.new.words c.self.inside.len (map not mask) c.self.invariant.1 (length-map mask not ∙ size) (c.not_words.auto.words ∙ ap length c.deref_mut.ensures.value) have
    (λ k h. let bit = bit_in-whole _ _ _ c.self.view_is c.self.invariant.1 k h in ap (λ b. nat_lt k c.self.inside.len && not b) bit ∙ (ap (λ n. nat_lt k n && not (get_or mask k false)) (sym size) ∙ sym (get_or-turned mask k))) in
    ap (λ ws. bits_in ws c.self.inside.len) is ∙ holds.is
