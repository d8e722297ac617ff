use Rattle.std.proofs.Common.{◌*◌, ◌<◌, length, take, drop, zip, get_or, refl, ap, arith, length-take, sym, ◌∙◌}
use Rattle.std.specs.Int.{div_ceil}
use Rattle.im_codepred.specs.inner.Tallying.{at_bits, no_totals, with_pair}
use Rattle.im_codepred.proofs.BitsLemmas.{word-read, word-few, left-share, left-done, length-at_bits}
use Rattle.im_codepred.proofs.KeyedLemmas.{groups-grow, none-grouped, length-zip}
use Rattle.im_codepred.proofs.keyed.group_all.Goals as goal

pub group_share-requires-clause-word : goal.group_share-requires-clause-word
group_share-requires-clause-word c =
    let place = c.loop-place.place in
    let pairs = zip c.args.keys.now.codes c.args.column.now in
    let size = length-zip c.args.keys.now.codes c.args.column.now (omega (arith, c.requires.keys, c.requires.column)) in
    let inside : place < div_ceil (length c.args.mask.now) 64 = omega (arith, c.loop-place-test.true, c.words-words.ensures.count) in
    rw (word-read c.args.mask.now c.words-words.result.now place c.words-words.ensures.words inside)
    (word-few c.args.mask.now pairs place (sym (size ∙ c.requires.keys)))

pub loop-place-init : goal.loop-place-init
loop-place-init c = record { few = λ key. none-grouped c.args.groups.now key c.requires.none; comes = refl }

pub loop-place-preserved : goal.loop-place-preserved
loop-place-preserved c =
    let place = c.loop-place.place in
    let pairs = zip c.args.keys.now.codes c.args.column.now in
    let inside : place < div_ceil (length c.args.mask.now) 64 = omega (arith, c.loop-place-test.true, c.words-words.ensures.count) in
    let word = get_or c.words-words.result.now place 0 in
    let share = take 64 (drop (place * 64) pairs) in
    record {
      few = λ key. omega (
        arith,
        ap (λ l. (get_or l key no_totals).values) c.group_share.ensures,
        (groups-grow c.loop-place.groups (at_bits word share) key).1,
        length-at_bits word share,
        length-take 64 (drop (place * 64) pairs),
        c.loop-place.invariant.few key,
      );
      comes = left-share with_pair c.args.mask.now pairs place word c.loop-place.groups _ _ c.loop-place.invariant.comes
          (word-read c.args.mask.now c.words-words.result.now place c.words-words.ensures.words inside) c.group_share.ensures;
    }

pub returns : goal.returns
returns c =
    left-done with_pair c.args.mask.now (zip c.args.keys.now.codes c.args.column.now) c.loop-place.place c.loop-place.groups _
    (omega (arith, c.loop-place-test.false, c.words-words.ensures.count)) c.loop-place.invariant.comes
