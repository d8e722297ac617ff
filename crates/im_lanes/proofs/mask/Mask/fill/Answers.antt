use Rattle.std.proofs.Common.{◌≡◌, ◌||◌, List, ℕ, length, ap, subst, sym, ◌∙◌, arith}
use Rattle.std.proofs.lemmas.Grind.{div_ceil_times}
use Rattle.std.proofs.lemmas.List.{with_items_is}
use Rattle.im_lanes.specs.Masks.{bit_in, bits_in, words_of, is_within, filled}
use Rattle.im_lanes.proofs.MaskLemmas.{Holds, have-holds, small-whole, bit_in-whole, count-of, length-of, length-filled, get_or-filled}
use Rattle.im_lanes.proofs.mask.Mask.fill.Goals as goal

pub fill_words-requires-clause-within : goal.fill_words-requires-clause-within
fill_words-requires-clause-within c =
    let count = count-of _ _ c.self.invariant.1 in
    let size = length-of _ _ _ c.self.view_is in
    let enough = (div_ceil_times c.self.inside.len 64 (omega arith)).0 in
    rw c.deref_mut.ensures.value (omega (arith, count, size, enough, c.requires.within))

pub fill_words-requires-clause-small : goal.fill_words-requires-clause-small
fill_words-requires-clause-small c = rw c.deref_mut.ensures.value (λ k. small-whole _ _ k c.self.invariant.1)

pub fill_words-requires-clause-few : goal.fill_words-requires-clause-few
fill_words-requires-clause-few c = let size = length-of _ _ _ c.self.view_is in omega (arith, size, c.requires.within, c.self.invariant.0)

pub invariant_of-self : goal.invariant_of-self
invariant_of-self c =
    let words = c.self.inside.words.items in
    let is = with_items_is c.self.inside.words c.fill_words.new.words (c.fill_words.auto.words ∙ c.deref_mut.ensures.len) in
    let have = rw c.deref_mut.ensures.value at c.fill_words.ensures in
    let mask = c.args.self.now in
    let size = length-of _ _ _ c.self.view_is in
    let holds : Holds c.fill_words.new.words c.self.inside.len (filled c.args.from c.args.end mask) =
    have-holds (λ k. is_within c.args.from c.args.end k || bit_in words k) words c.fill_words.new.words c.self.inside.len (filled c.args.from c.args.end mask) c.self.invariant.1 (length-filled c.args.from c.args.end mask c.requires.order c.requires.within ∙ size) (c.fill_words.auto.words ∙ ap length c.deref_mut.ensures.value) have
    (λ k h. let bit = bit_in-whole _ _ _ c.self.view_is c.self.invariant.1 k h in ap (λ b. is_within c.args.from c.args.end k || b) bit ∙ sym (get_or-filled c.args.from c.args.end k mask c.requires.order c.requires.within)) in
    let P : List ℕ → Type 0 = λ ws. ws ≡ words_of (bits_in ws c.self.inside.len) in
    (c.self.invariant.0, subst P (sym is) holds.whole)

pub returns : goal.returns
returns c =
    let words = c.self.inside.words.items in
    let is = with_items_is c.self.inside.words c.fill_words.new.words (c.fill_words.auto.words ∙ c.deref_mut.ensures.len) in
    let have = rw c.deref_mut.ensures.value at c.fill_words.ensures in
    let mask = c.args.self.now in
    let size = length-of _ _ _ c.self.view_is in
    let holds : Holds c.fill_words.new.words c.self.inside.len (filled c.args.from c.args.end mask) =
    have-holds (λ k. is_within c.args.from c.args.end k || bit_in words k) words c.fill_words.new.words c.self.inside.len (filled c.args.from c.args.end mask) c.self.invariant.1 (length-filled c.args.from c.args.end mask c.requires.order c.requires.within ∙ size) (c.fill_words.auto.words ∙ ap length c.deref_mut.ensures.value) have
    (λ k h. let bit = bit_in-whole _ _ _ c.self.view_is c.self.invariant.1 k h in ap (λ b. is_within c.args.from c.args.end k || b) bit ∙ sym (get_or-filled c.args.from c.args.end k mask c.requires.order c.requires.within)) in
    ap (λ ws. bits_in ws c.self.inside.len) is ∙ holds.is
