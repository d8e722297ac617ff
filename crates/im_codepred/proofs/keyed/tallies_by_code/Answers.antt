use Rattle.std.proofs.Common.{◌≡◌, List, ◌+◌, length, subst, refl, arith}
use Rattle.im_values.specs.declared.content.Content.{Content as Value}
use Rattle.im_codes.specs.Dictionary.{coded}
use Rattle.im_codepred.specs.Tallies.{AreTallies}
use Rattle.im_codepred.proofs.KeyedLemmas.{groups-shown}
use Rattle.im_codepred.proofs.keyed.tallies_by_code.Goals as goal

pub returns-in_ok-keyed_tallies-in-Coded : goal.returns-in_ok-keyed_tallies-in-Coded
returns-in_ok-keyed_tallies-in-Coded c =
    let dict = c.in-Coded.dict.now in
    let kept = c.in-Coded.ensures.1 in
    let tallies = c.in_ok-keyed_tallies-in-Coded.field-0.items in
    let most : c.len.result + 1 ≡ length (coded dict) = omega (arith, c.len.ensures.len) in
    let P : List Value → Type 0 = λ d. AreTallies c.args.ends c.args.mask.now c.args.keys.now c.args.column.now (coded d) tallies in
    subst P kept.is_dictionary
    (groups-shown c.args.ends dict c.args.keys.now c.args.column.now c.args.mask.now c.in-Coded.bits.now.codes _ tallies (c.len.result + 1) c.len.ensures.dictionary most
    refl c.in_ok-keyed_tallies-in-Coded.ensures kept.are_codes)
