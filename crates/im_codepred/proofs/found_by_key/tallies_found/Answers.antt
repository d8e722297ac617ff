use Rattle.std.proofs.Common.{◌+◌, ◌<◌, List, length, map, take, subst, sym, arith}
use Rattle.std.proofs.lemmas.List.{length-map}
use Rattle.im_codepred.specs.declared.tally.Tally.{Tally}
use Rattle.im_codepred.specs.inner.Tallying.{totals_of, ShowEach}
use Rattle.im_codepred.proofs.KeyedLemmas.{show-more}
use Rattle.im_codepred.proofs.PairLemmas.{total-read}
use Rattle.im_codepred.proofs.found_by_key.tallies_found.Goals as goal

pub loop-found-preserved : goal.loop-found-preserved
loop-found-preserved c =
    let f = totals_of c.args.dict.now in
    let founds = c.args.founds.now in
    let i = c.loop-found.found-index in
    let found = c.found-item.result in
    let inside : i < length (map f founds) = omega (arith, c.loop-found-test.true, length-map founds f) in
    let read = total-read c.args.dict.now founds i found c.loop-found-test.true c.found-item.is in
    let P : List Tally → Type 0 = λ l. ShowEach (take (i + 1) (map f founds)) l in
    subst P (sym {A = List Tally} c.in_ok-push.ensures.items)
    (show-more (map f founds) i (f found) c.loop-found.tallies.items c.tally.result inside read c.tally.ensures c.loop-found.invariant)
