use Rattle.std.proofs.Common.{ℕ, ◌+◌, ◌/◌, ◌%◌, ◌^◌, get_or, subst, sym, refl, arith, div-add-mod'}
use Rattle.im_scan.proofs.NextLemmas.{IsFound, clear-on, found-next, next-is, none-left, word-read}
use Rattle.im_scan.proofs.kept.next_chosen.Goals as goal

pub returns-then-rest-ne0 : goal.returns-then-rest-ne0
returns-then-rest-ne0 c =
    let at = c.loop-at.at in
    let mask = c.args.mask.now in
    let word = get_or c.words-words.result.now (at / 64) 0 in
    let is = word-read mask c.words-words.result.now at c.words-words.ensures.words (omega (arith, c.loop-at-test.true, c.requires)) in
    next-is mask c.args.from at (at + c.from.result) c.args.end c.then_some.result c.then_some.ensures c.loop-at.invariant.low (omega arith)
    c.loop-at.invariant.clear
    (subst (λ (z : ℕ). IsFound mask at (at + z)) (sym c.from.ensures) (found-next mask at word (word / 2 ^ (at % 64)) is refl c.if-rest-ne0.true))

pub loop-at-preserved : goal.loop-at-preserved
loop-at-preserved c =
    let at = c.loop-at.at in
    let mask = c.args.mask.now in
    let word = get_or c.words-words.result.now (at / 64) 0 in
    let is = word-read mask c.words-words.result.now at c.words-words.ensures.words (omega (arith, c.loop-at-test.true, c.requires)) in
    record {
      low = omega (arith, c.loop-at.invariant.low, div-add-mod' at 64);
      clear = clear-on mask c.args.from at _ c.loop-at.invariant.clear (none-left mask at word is c.if-rest-ne0.false);
    }
