use Rattle.std.proofs.Common.{◌≡◌, ◌<◌, ◌^◌, ◌*◌, List, Bool, ℕ, map, length, get_or, ap, arith, refl, sym, subst, ◌∙◌}
use Rattle.std.specs.List.{AllByRecursion}
use Rattle.std.specs.Int.{div_ceil}
use Rattle.im_values.specs.declared.content.Content.{Content as Value}
use Rattle.im_lanes.specs.Masks.{word_of}
use Rattle.im_group.specs.declared.asked.Asked.{Asked}
use Rattle.im_group.specs.Partials.{keeps}
use Rattle.im_group.specs.inner.Chosen.{at_bits, share_of, with_rows, CanTakeEach, HasSeen}
use Rattle.im_group.specs.inner.Holding.{asked_by, own}
use Rattle.im_group.proofs.ChosenLaws.{have-seen, word-read, word-few, word-room, word-next, words-done}
use Rattle.im_group.proofs.chosen.take_run.Goals as goal

pub take_word-requires-clause-seen : goal.take_word-requires-clause-seen
take_word-requires-clause-seen c =
    let columns = c.items.ensures ∙ ap (λ b. b.groups) c.bound.ensures in
    rw (columns, c.asked.ensures) (have-seen c.args.asking.now c.args.rows.now c.requires.fits)

pub take_word-requires-clause-word : goal.take_word-requires-clause-word
take_word-requires-clause-word c =
    let test = keeps c.args.asking.now.filter in
    let rows = c.args.rows.now in
    let place = c.loop-place.place in
    let inside : place < div_ceil (length c.args.mask.now) 64 = omega (arith, c.loop-place-test.true, c.words-words.ensures.count) in
    rw (word-read test rows c.args.mask.now c.words-words.result.now place _ c.requires.mask c.words-words.ensures.words inside refl)
    (word-few test (share_of rows (place * 64)))

pub take_word-requires-clause-few : goal.take_word-requires-clause-few
take_word-requires-clause-few c =
    let test = keeps c.args.asking.now.filter in
    let rows = c.args.rows.now in
    let place = c.loop-place.place in
    let columns = c.items.ensures ∙ ap (λ b. b.groups) c.bound.ensures in
    let inside : place < div_ceil (length c.args.mask.now) 64 = omega (arith, c.loop-place-test.true, c.words-words.ensures.count) in
    let word = word-read test rows c.args.mask.now c.words-words.result.now place _ c.requires.mask c.words-words.ensures.words inside refl in
    rw (columns, c.asked.ensures)
    (word-room c.args.asking.now.groups (asked_by c.args.asking.now) test rows place (own c.loop-place.groups.entries) _ c.loop-place.invariant _ word)

pub loop-place-preserved : goal.loop-place-preserved
loop-place-preserved c =
    let test = keeps c.args.asking.now.filter in
    let rows = c.args.rows.now in
    let place = c.loop-place.place in
    let columns = c.items.ensures ∙ ap (λ b. b.groups) c.bound.ensures in
    let inside : place < div_ceil (length c.args.mask.now) 64 = omega (arith, c.loop-place-test.true, c.words-words.ensures.count) in
    let word = word-read test rows c.args.mask.now c.words-words.result.now place _ c.requires.mask c.words-words.ensures.words inside refl in
    let share = share_of rows (place * 64) in
    word-next c.args.asking.now.groups (asked_by c.args.asking.now) test rows place (own c.loop-place.groups.entries) _ c.loop-place.invariant _
    (own c.take_word.new.groups.entries) word
    (c.in_ok-take_word.ensures ∙ (λ i. with_rows (columns i) (c.asked.ensures i) (own c.loop-place.groups.entries) (at_bits (get_or c.words-words.result.now place 0) share)))
