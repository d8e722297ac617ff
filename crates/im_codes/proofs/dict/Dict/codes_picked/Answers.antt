use Rattle.std.proofs.Common.{◌++◌, map, get_or, ap, ◌∙◌, arith}
use Rattle.im_codes.specs.Dictionary.{AreCodesOf, lent, coded, values_at}
use Rattle.im_codes.proofs.PickLemmas.{picked-codes, dictionary-used}
use Rattle.im_codes.proofs.dict.Dict.codes_picked.Goals as goal
use Rattle.im_codes.proofs.dict.Dict.codes_picked.Goals.{In_ok-picked}

-- the codes that were picked stand for the values at the places
picked : (c : In_ok-picked) → AreCodesOf (values_at (values_at (coded c.args.self.now) c.args.codes.items ++ lent c.args.fresh.now) c.args.places.now)
    c.args.self.now c.in_ok-picked.picked.items
picked c =
    picked-codes c.args.self.now c.args.codes.items c.in-Some.stock.items c.args.places.now c.in_ok-picked.picked.items c.args.fresh.now
    (rw c.in-Some.is at c.in_ok-stock.ensures) c.requires.places
    (c.in_ok-picked.ensures ∙ ap (λ l. map (λ n. get_or l n 0) c.args.places.now) c.as_slice.ensures.value)

pub uses_all-requires-clause-codes : goal.uses_all-requires-clause-codes
uses_all-requires-clause-codes c =
    let is = picked (goal.at.uses_all-requires-clause-codes c).In_ok-picked in
    rw c.as_slice-2.ensures.value (λ k d inside. omega (arith, is.inside k d inside, c.len.ensures.len))

pub returns-clause-codes : goal.returns-clause-codes
returns-clause-codes c = picked (goal.at.returns-clause-codes c).In_ok-picked

pub returns-clause-dictionary : goal.returns-clause-dictionary
returns-clause-dictionary c =
    let values = values_at (values_at (coded c.args.self.now) c.args.codes.items ++ lent c.args.fresh.now) c.args.places.now in
    let codes = c.in_ok-picked.picked.items in
    dictionary-used values c.args.self.now codes c.len.ensures.dictionary (picked (goal.at.returns-clause-dictionary c).In_ok-picked)
    (rw (c.as_slice-2.ensures.value, c.len.ensures.len) at (rw c.if-not-branch.false at c.in_ok-uses_all.ensures))
