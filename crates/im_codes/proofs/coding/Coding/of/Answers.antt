use Rattle.im_codes.specs.Dictionary.{lent, coded, IsDictionaryOf, AreCodesOf}
use Rattle.im_codes.proofs.NumberingLemmas.{dictionary-seen, stand-through}
use Rattle.im_codes.proofs.coding.Coding.of.Goals as goal

pub returns-clause-dictionary : goal.returns-clause-dictionary
returns-clause-dictionary c =
    let found = c.in_ok-found.found in
    let set : IsDictionaryOf (lent found.seen.items) c.in_ok-dict.dict = rw c.as_slice.ensures.value at c.in_ok-dict.ensures in
    rw c.dict.view_is (dictionary-seen (lent c.args.values.now) (lent found.seen.items) c.in_ok-dict.dict found.numbers.items c.in_ok-found.ensures set)

pub returns-clause-codes : goal.returns-clause-codes
returns-clause-codes c =
    let found = c.in_ok-found.found in
    let codes : AreCodesOf (lent found.seen.items) c.in_ok-dict.dict c.in_ok-codes.codes.items = rw c.as_slice-2.ensures.value at c.in_ok-codes.ensures in
    rw (c.dict.view_is, c.in_ok-through.ensures, c.as_slice-3.ensures.value, c.as_slice-4.ensures.value)
    (stand-through (lent c.args.values.now) (lent found.seen.items) (coded c.in_ok-dict.dict) found.numbers.items c.in_ok-codes.codes.items
    c.in_ok-found.ensures.stand codes)
