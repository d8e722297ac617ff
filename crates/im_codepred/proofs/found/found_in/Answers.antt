use Rattle.std.proofs.Common.{◌≡◌, ◌+◌, ◌*◌, ◌^◌, ◌<◌, ◌≤◌, ℕ, List, All, fold, length, take, drop, get_or, ap, sym, subst, ◌∙◌, arith, length-take}
use Rattle.std.specs.Int.{div_ceil}
use Rattle.im_codes.specs.Dictionary.{coded}
use Rattle.im_codepred.specs.inner.Tallying.{FoundOf, at_bits, taken}
use Rattle.im_codepred.proofs.BitsLemmas.{word-read, word-few, left-share, left-done, length-at_bits, at_bits-none}
use Rattle.im_codepred.proofs.CountLemmas.{share-all}
use Rattle.im_codepred.proofs.FoundLemmas.{found-grows}
use Rattle.im_codepred.proofs.found.found_in.Goals as goal
use Rattle.im_codepred.proofs.found.found_in.Goals.{then-words-place-ne0, else-words-place-ne0}

pub take_word-requires-clause-short : goal.take_word-requires-clause-short
take_word-requires-clause-short c =
    omega (arith, ap length c.share_of.ensures, length-take 64 (drop (c.loop-place.place * 64) c.args.bits.now.codes))

pub take_word-requires-clause-codes : goal.take_word-requires-clause-codes
take_word-requires-clause-codes c =
    let P : List ℕ → Type 0 = λ l. All (λ code. code < length (coded c.args.numbers.now)) l in
    subst P (sym c.share_of.ensures) (share-all (length (coded c.args.numbers.now)) (c.loop-place.place * 64) c.args.bits.now.codes c.requires.codes)

pub take_word-requires-clause-word : goal.take_word-requires-clause-word
take_word-requires-clause-word c =
    let place = c.loop-place.place in
    let inside : place < div_ceil (length c.args.mask.now) 64 = omega (arith, c.loop-place-test.true, c.words-words.ensures.count) in
    let P : List ℕ → Type 0 = λ l. get_or c.words-words.result.now place 0 < 2 ^ length l in
    subst P (sym c.share_of.ensures)
    (rw (word-read c.args.mask.now c.words-words.result.now place c.words-words.ensures.words inside)
    (word-few c.args.mask.now c.args.bits.now.codes place c.requires.long))

pub loop-place-preserved : goal.loop-place-preserved
loop-place-preserved c =
    let dict = c.args.numbers.now in
    let place = c.loop-place.place in
    let codes = c.args.bits.now.codes in
    let found = c.loop-place.found in
    let inside : place < div_ceil (length c.args.mask.now) 64 = omega (arith, c.loop-place-test.true, c.words-words.ensures.count) in
    let word = get_or c.words-words.result.now place 0 in
    let share = take 64 (drop (place * 64) codes) in
    let read = word-read c.args.mask.now c.words-words.result.now place c.words-words.ensures.words inside in
    let grows = found-grows dict found (at_bits word share) in
    let more : (new : FoundOf) → new ≡ fold (taken dict) found (at_bits word share) → new.values ≤ (place + 1) * 64 =
    λ new next. omega (
      arith,
      ap (λ (f : FoundOf). f.values) next,
      grows.high,
      length-at_bits word share,
      length-take 64 (drop (place * 64) codes),
      c.loop-place.invariant.few,
    ) in
    elim c.if-words-place-ne0.branch [
      | then-words-place-ne0 w ↦
          let next : c.if-words-place-ne0.found ≡ fold (taken dict) found (at_bits word share) =
          w.found-is ∙ (w.take_word.ensures ∙ ap (λ (l : List ℕ). fold (taken dict) found (at_bits word l)) w.share_of.ensures) in
          record {
            few = more c.if-words-place-ne0.found next;
            comes = left-share (taken dict) c.args.mask.now codes place word found _ _ c.loop-place.invariant.comes read next;
            held = rw (w.held-is, w.codes-is) w.turn_to-held.ensures.held;
          }
      | else-words-place-ne0 w ↦
          let none : word ≡ 0 = omega (arith, w.if-words-place-ne0.false) in
          let next : c.if-words-place-ne0.found ≡ fold (taken dict) found (at_bits word share) =
          w.found-is ∙ sym (ap (fold (taken dict) found) (ap (λ n. at_bits n share) none ∙ at_bits-none share)) in
          record {
            few = more c.if-words-place-ne0.found next;
            comes = left-share (taken dict) c.args.mask.now codes place word found _ _ c.loop-place.invariant.comes read next;
            held = rw (w.held-is, w.codes-is) c.loop-place.invariant.held;
          }
    ]

pub returns : goal.returns
returns c =
    left-done (taken c.args.numbers.now) c.args.mask.now c.args.bits.now.codes c.loop-place.place c.loop-place.found _
    (omega (arith, c.loop-place-test.false, c.words-words.ensures.count)) c.loop-place.invariant.comes
