use Rattle.std.proofs.Common.{◌≡◌, List, ◌+◌, length, subst, arith}
use Rattle.im_values.specs.declared.content.Content.{Content as Value}
use Rattle.im_codes.specs.Dictionary.{coded}
use Rattle.im_codepred.specs.Tallies.{chosen, AreCounts}
use Rattle.im_codepred.proofs.CountLemmas.{counts-shown}
use Rattle.im_codepred.proofs.counts.counts_by_code.Goals as goal

pub returns-in_ok-counted_in-in-Coded : goal.returns-in_ok-counted_in-in-Coded
returns-in_ok-counted_in-in-Coded c =
    let dict = c.in-Coded.dict.now in
    let kept = c.in-Coded.ensures.1 in
    let counts = c.in_ok-counted_in-in-Coded.field-0.items in
    let most : c.len.result + 1 ≡ length (coded dict) = omega (arith, c.len.ensures.len) in
    let P : List Value → Type 0 = λ d. AreCounts (chosen c.args.mask.now c.args.keys.now) (coded d) counts in
    subst P kept.is_dictionary
    (counts-shown dict c.args.keys.now c.args.mask.now c.in-Coded.bits.now.codes counts (c.len.result + 1) c.len.ensures.dictionary most
    c.in_ok-counted_in-in-Coded.ensures kept.are_codes)
