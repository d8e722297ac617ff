use Rattle.std.proofs.Common.{◌≡◌, ◌&&◌, bit_and, List, ℕ, length, refl, ap, subst, sym, ◌∙◌}
use Rattle.std.specs.Int.{div_ceil}
use Rattle.std.proofs.lemmas.List.{with_items_is}
use Rattle.im_lanes.specs.Masks.{bits_in, words_of}
use Rattle.im_lanes.proofs.BitLemmas.{set-and, and-below}
use Rattle.im_lanes.proofs.MaskLemmas.{joined-holds, count-of, length-of}
use Rattle.im_lanes.proofs.mask.Mask.and_with.Goals as goal

pub and_words-requires : goal.and_words-requires
and_words-requires c =
    let long = length-of _ _ _ c.self.view_is in
    ap length c.deref_mut.ensures.value
    ∙ (count-of _ _ c.self.invariant.1 ∙ (ap (λ n. div_ceil n 64) (sym long ∙ c.requires) ∙ sym c.words.ensures.count))

pub invariant_of-self : goal.invariant_of-self
invariant_of-self c =
    let is = with_items_is c.self.inside.words c.and_words.new.words (c.and_words.auto.words ∙ c.deref_mut.ensures.len) in
    let each = rw c.deref_mut.ensures.value at c.and_words.ensures in
    let holds =
    joined-holds (λ a b. a && b) bit_and refl set-and and-below _ _ c.and_words.new.words _ _ _ c.self.view_is c.self.invariant.1 c.words.ensures.words
    c.requires (c.and_words.auto.words ∙ ap length c.deref_mut.ensures.value) each in
    let P : List ℕ → Type 0 = λ ws. ws ≡ words_of (bits_in ws c.self.inside.len) in
    (c.self.invariant.0, subst P (sym is) holds.whole)

pub returns : goal.returns
returns c =
    let is = with_items_is c.self.inside.words c.and_words.new.words (c.and_words.auto.words ∙ c.deref_mut.ensures.len) in
    let each = rw c.deref_mut.ensures.value at c.and_words.ensures in
    let holds =
    joined-holds (λ a b. a && b) bit_and refl set-and and-below _ _ c.and_words.new.words _ _ _ c.self.view_is c.self.invariant.1 c.words.ensures.words
    c.requires (c.and_words.auto.words ∙ ap length c.deref_mut.ensures.value) each in
    ap (λ ws. bits_in ws c.self.inside.len) is ∙ holds.is
