use Rattle.std.proofs.Common.{◌≡◌, ◌+◌, ◌*◌, ◌^◌, ◌<◌, ◌≤◌, ℕ, List, All, fold, length, take, drop, get_or, refl, ap, sym, subst, ◌∙◌, arith, length-take}
use Rattle.std.specs.Int.{div_ceil}
use Rattle.im_codepred.specs.inner.Tallying.{at_bits, one_more}
use Rattle.im_codepred.proofs.BitsLemmas.{word-read, word-few, left-share, left-done, length-at_bits, at_bits-none}
use Rattle.im_codepred.proofs.CountLemmas.{counts-grow, none-counted, share-all}
use Rattle.im_codepred.proofs.counts.count_all.Goals as goal
use Rattle.im_codepred.proofs.counts.count_all.Goals.{then-words-place-ne0, else-words-place-ne0}

pub count_word-requires-clause-short : goal.count_word-requires-clause-short
count_word-requires-clause-short c =
    omega (arith, ap length c.share_of.ensures, length-take 64 (drop (c.loop-place.place * 64) c.args.bits.now.codes))

pub count_word-requires-clause-codes : goal.count_word-requires-clause-codes
count_word-requires-clause-codes c =
    let P : List ℕ → Type 0 = λ l. All (λ code. code < length c.loop-place.counts) l in
    subst P (sym c.share_of.ensures)
    (share-all (length c.loop-place.counts) (c.loop-place.place * 64) c.args.bits.now.codes
    (λ k d h. omega (arith, c.requires.codes k d h, c.loop-place.auto.counts)))

pub count_word-requires-clause-word : goal.count_word-requires-clause-word
count_word-requires-clause-word c =
    let place = c.loop-place.place in
    let inside : place < div_ceil (length c.args.mask.now) 64 = omega (arith, c.loop-place-test.true, c.words-words.ensures.count) in
    let P : List ℕ → Type 0 = λ l. get_or c.words-words.result.now place 0 < 2 ^ length l in
    subst P (sym c.share_of.ensures)
    (rw (word-read c.args.mask.now c.words-words.result.now place c.words-words.ensures.words inside)
    (word-few c.args.mask.now c.args.bits.now.codes place c.requires.long))

pub loop-place-init : goal.loop-place-init
loop-place-init c =
    record { few = λ code. none-counted c.args.counts.now code c.requires.none; comes = refl; held = λ some. absurd (omega (arith, some)) }

pub loop-place-preserved : goal.loop-place-preserved
loop-place-preserved c =
    let place = c.loop-place.place in
    let codes = c.args.bits.now.codes in
    let counts = c.loop-place.counts in
    let inside : place < div_ceil (length c.args.mask.now) 64 = omega (arith, c.loop-place-test.true, c.words-words.ensures.count) in
    let word = get_or c.words-words.result.now place 0 in
    let share = take 64 (drop (place * 64) codes) in
    let read = word-read c.args.mask.now c.words-words.result.now place c.words-words.ensures.words inside in
    let more : (new : List ℕ) → new ≡ fold one_more counts (at_bits word share) → (code : ℕ) → get_or new code 0 ≤ (place + 1) * 64 =
    λ new next code. omega (
      arith,
      ap (λ (l : List ℕ). get_or l code 0) next,
      (counts-grow counts (at_bits word share) code).1,
      length-at_bits word share,
      length-take 64 (drop (place * 64) codes),
      c.loop-place.invariant.few code,
    ) in
    elim c.if-words-place-ne0.branch [
      | then-words-place-ne0 w ↦
          let next : c.if-words-place-ne0.counts ≡ fold one_more counts (at_bits word share) =
          w.counts-is ∙ (w.count_word.ensures ∙ ap (λ (l : List ℕ). fold one_more counts (at_bits word l)) w.share_of.ensures) in
          record {
            few = more c.if-words-place-ne0.counts next;
            comes = left-share one_more c.args.mask.now codes place word counts _ _ c.loop-place.invariant.comes read next;
            held = rw (w.held-is, w.codes-is) w.turn_to-held.ensures.held;
          }
      | else-words-place-ne0 w ↦
          let none : word ≡ 0 = omega (arith, w.if-words-place-ne0.false) in
          let next : c.if-words-place-ne0.counts ≡ fold one_more counts (at_bits word share) =
          w.counts-is ∙ sym (ap (fold one_more counts) (ap (λ n. at_bits n share) none ∙ at_bits-none share)) in
          record {
            few = more c.if-words-place-ne0.counts next;
            comes = left-share one_more c.args.mask.now codes place word counts _ _ c.loop-place.invariant.comes read next;
            held = rw (w.held-is, w.codes-is) c.loop-place.invariant.held;
          }
    ]

pub returns : goal.returns
returns c =
    left-done one_more c.args.mask.now c.args.bits.now.codes c.loop-place.place c.loop-place.counts _
    (omega (arith, c.loop-place-test.false, c.words-words.ensures.count)) c.loop-place.invariant.comes
