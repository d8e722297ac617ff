use Rattle.std.proofs.Common.{◌≡◌, ◌+◌, ◌*◌, ◌^◌, ◌<◌, ◌≤◌, ℕ, List, All, fold, length, take, drop, zip, get_or, refl, ap, sym, subst, ◌∙◌, arith, length-take, length-drop}
use Rattle.std.specs.Int.{div_ceil}
use Rattle.im_codes.specs.Dictionary.{coded}
use Rattle.im_codepred.specs.inner.Tallying.{FoundOf, at_bits, nothing, with_code}
use Rattle.im_codepred.proofs.BitsLemmas.{word-read, word-few, left-share, left-done, length-at_bits, at_bits-none}
use Rattle.im_codepred.proofs.CountLemmas.{share-all}
use Rattle.im_codepred.proofs.KeyedLemmas.{length-zip}
use Rattle.im_codepred.proofs.PairLemmas.{founds-grow, nothing-found, share-zip}
use Rattle.im_codepred.proofs.found_by_key.find_all.Goals as goal
use Rattle.im_codepred.proofs.found_by_key.find_all.Goals.{then-words-place-ne0, else-words-place-ne0}

pub find_word-requires-clause-short : goal.find_word-requires-clause-short
find_word-requires-clause-short c =
    omega (arith, ap length c.share_of.ensures, length-take 64 (drop (c.loop-place.place * 64) c.args.keys.now.codes))

pub find_word-requires-clause-long : goal.find_word-requires-clause-long
find_word-requires-clause-long c =
    let first = c.loop-place.place * 64 in
    let keys = c.args.keys.now.codes in
    let codes = c.args.codes.now.codes in
    omega (
      arith,
      ap length c.share_of.ensures,
      ap length c.share_of-then-words-place-ne0.ensures,
      length-take 64 (drop first keys),
      length-drop first keys,
      length-take 64 (drop first codes),
      length-drop first codes,
      c.requires.keys,
      c.requires.long,
    )

pub find_word-requires-clause-below : goal.find_word-requires-clause-below
find_word-requires-clause-below c =
    let P : List ℕ → Type 0 = λ l. All (λ code. code < length c.loop-place.founds) l in
    subst P (sym c.share_of.ensures)
    (share-all (length c.loop-place.founds) (c.loop-place.place * 64) c.args.keys.now.codes
    (λ k d h. omega (arith, c.requires.below k d h, c.loop-place.auto.founds)))

pub find_word-requires-clause-codes : goal.find_word-requires-clause-codes
find_word-requires-clause-codes c =
    let P : List ℕ → Type 0 = λ l. All (λ code. code < length (coded c.args.numbers.now)) l in
    subst P (sym c.share_of-then-words-place-ne0.ensures) (share-all (length (coded c.args.numbers.now)) (c.loop-place.place * 64) c.args.codes.now.codes c.requires.codes)

pub find_word-requires-clause-word : goal.find_word-requires-clause-word
find_word-requires-clause-word c =
    let place = c.loop-place.place in
    let first = place * 64 in
    let keys = c.args.keys.now.codes in
    let codes = c.args.codes.now.codes in
    let inside : place < div_ceil (length c.args.mask.now) 64 = omega (arith, c.loop-place-test.true, c.words-words.ensures.count) in
    let whole = length-zip keys codes (omega (arith, c.requires.keys, c.requires.long)) in
    let fits : length (take 64 (drop first keys)) ≤ length (take 64 (drop first codes)) =
    omega (
      arith,
      length-take 64 (drop first keys),
      length-drop first keys,
      length-take 64 (drop first codes),
      length-drop first codes,
      c.requires.keys,
      c.requires.long,
    ) in
    let size = length-zip (take 64 (drop first keys)) (take 64 (drop first codes)) fits in
    let P : ℕ → Type 0 = λ n. get_or c.words-words.result.now place 0 < 2 ^ n in
    subst P (sym (ap length c.share_of.ensures ∙ (sym size ∙ ap length (share-zip keys codes first))))
    (rw (word-read c.args.mask.now c.words-words.result.now place c.words-words.ensures.words inside)
    (word-few c.args.mask.now (zip keys codes) place (sym (whole ∙ c.requires.keys))))

pub loop-place-init : goal.loop-place-init
loop-place-init c = record {
  few = λ key. nothing-found c.args.founds.now key c.requires.none;
  comes = refl;
  keys = λ some. absurd (omega (arith, some));
  codes = λ some. absurd (omega (arith, some));
}

pub loop-place-preserved : goal.loop-place-preserved
loop-place-preserved c =
    let place = c.loop-place.place in
    let first = place * 64 in
    let keys = c.args.keys.now.codes in
    let codes = c.args.codes.now.codes in
    let pairs = zip keys codes in
    let founds = c.loop-place.founds in
    let step = with_code c.args.ends c.args.numbers.now in
    let inside : place < div_ceil (length c.args.mask.now) 64 = omega (arith, c.loop-place-test.true, c.words-words.ensures.count) in
    let word = get_or c.words-words.result.now place 0 in
    let share = take 64 (drop first pairs) in
    let read = word-read c.args.mask.now c.words-words.result.now place c.words-words.ensures.words inside in
    let more : (new : List FoundOf) → new ≡ fold step founds (at_bits word share) → (key : ℕ) → (get_or new key nothing).values ≤ (place + 1) * 64 =
    λ new next key. omega (
      arith,
      ap (λ (l : List FoundOf). (get_or l key nothing).values) next,
      (founds-grow c.args.ends c.args.numbers.now founds (at_bits word share) key).1,
      length-at_bits word share,
      length-take 64 (drop first pairs),
      c.loop-place.invariant.few key,
    ) in
    elim c.if-words-place-ne0.branch [
      | then-words-place-ne0 w ↦
          let same : w.turn_to.result ≡ w.turn_to-held.result = omega (arith, w.turn_to.ensures.block, w.turn_to-held.ensures.block) in
          let next : c.if-words-place-ne0.founds ≡ fold step founds (at_bits word share) =
          w.founds-is ∙ (w.find_word.ensures
          ∙ (ap (λ (l : List ℕ). fold step founds (at_bits word (zip l w.share_of-then-words-place-ne0.result.now))) w.share_of.ensures
          ∙ (ap (λ (l : List ℕ). fold step founds (at_bits word (zip (take 64 (drop first keys)) l))) w.share_of-then-words-place-ne0.ensures
          ∙ ap (λ (l : List (ℕ × ℕ)). fold step founds (at_bits word l)) (share-zip keys codes first)))) in
          record {
            few = more c.if-words-place-ne0.founds next;
            comes = left-share step c.args.mask.now pairs place word founds _ _ c.loop-place.invariant.comes read next;
            keys = rw (w.held-is, w.some_keys-is, ← same) w.turn_to.ensures.held;
            codes = rw (w.held-is, w.some_codes-is) w.turn_to-held.ensures.held;
          }
      | else-words-place-ne0 w ↦
          let none : word ≡ 0 = omega (arith, w.if-words-place-ne0.false) in
          let next : c.if-words-place-ne0.founds ≡ fold step founds (at_bits word share) =
          w.founds-is ∙ sym (ap (fold step founds) (ap (λ n. at_bits n share) none ∙ at_bits-none share)) in
          record {
            few = more c.if-words-place-ne0.founds next;
            comes = left-share step c.args.mask.now pairs place word founds _ _ c.loop-place.invariant.comes read next;
            keys = rw (w.held-is, w.some_keys-is) c.loop-place.invariant.keys;
            codes = rw (w.held-is, w.some_codes-is) c.loop-place.invariant.codes;
          }
    ]

pub returns : goal.returns
returns c =
    left-done (with_code c.args.ends c.args.numbers.now) c.args.mask.now (zip c.args.keys.now.codes c.args.codes.now.codes) c.loop-place.place c.loop-place.founds _
    (omega (arith, c.loop-place-test.false, c.words-words.ensures.count)) c.loop-place.invariant.comes
