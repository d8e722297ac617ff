use Rattle.std.proofs.Common.{◌≡◌, ◌||◌, bit_or, List, ℕ, length, refl, ap, subst, sym, ◌∙◌}
use Rattle.std.specs.Int.{div_ceil}
use Rattle.std.proofs.lemmas.List.{with_items_is}
use Rattle.im_lanes.specs.Masks.{bits_in, words_of}
use Rattle.im_lanes.proofs.BitLemmas.{set-or, or-below}
use Rattle.im_lanes.proofs.MaskLemmas.{joined-holds, count-of, length-of}
use Rattle.im_lanes.proofs.mask.Mask.or_with.Goals as goal

pub or_words-requires : goal.or_words-requires
or_words-requires c =
    let long = length-of _ _ _ c.self.view_is in
    ap length c.deref_mut.ensures.value
    ∙ (count-of _ _ c.self.invariant.1 ∙ (ap (λ n. div_ceil n 64) (sym long ∙ c.requires) ∙ sym c.words.ensures.count))

pub invariant_of-self : goal.invariant_of-self
invariant_of-self c =
    let is = with_items_is c.self.inside.words c.or_words.new.words (c.or_words.auto.words ∙ c.deref_mut.ensures.len) in
    let each = rw c.deref_mut.ensures.value at c.or_words.ensures in
    let holds =
    joined-holds (λ a b. a || b) bit_or refl set-or or-below _ _ c.or_words.new.words _ _ _ c.self.view_is c.self.invariant.1 c.words.ensures.words
    c.requires (c.or_words.auto.words ∙ ap length c.deref_mut.ensures.value) each in
    let P : List ℕ → Type 0 = λ ws. ws ≡ words_of (bits_in ws c.self.inside.len) in
    (c.self.invariant.0, subst P (sym is) holds.whole)

pub returns : goal.returns
returns c =
    let is = with_items_is c.self.inside.words c.or_words.new.words (c.or_words.auto.words ∙ c.deref_mut.ensures.len) in
    let each = rw c.deref_mut.ensures.value at c.or_words.ensures in
    let holds =
    joined-holds (λ a b. a || b) bit_or refl set-or or-below _ _ c.or_words.new.words _ _ _ c.self.view_is c.self.invariant.1 c.words.ensures.words
    c.requires (c.or_words.auto.words ∙ ap length c.deref_mut.ensures.value) each in
    ap (λ ws. bits_in ws c.self.inside.len) is ∙ holds.is
