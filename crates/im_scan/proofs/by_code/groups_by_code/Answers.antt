use Rattle.std.proofs.Common.{◌≡◌, ◌∙◌, ◌+◌, ◌<◌, ◌==◌, ℕ, true, false, List, [], ◌∷◌, get_or, length, take, ap, sym, refl, arith}
use Rattle.std.proofs.lemmas.Bool.Decides.{nat_tests}
use Rattle.std.proofs.lemmas.List.{map-append, take_all}
use Rattle.im_values.specs.declared.content.Content.{Content as Value}
use Rattle.im_values.specs.declared.content.Content.TheVariants.{Null}
use Rattle.im_codes.specs.Dictionary.{coded}
use Rattle.im_group.specs.MadeGroups.{group_of, groups_in}
use Rattle.im_scan.specs.inner.ByCode.{groups_for}
use Rattle.im_scan.proofs.ByCodeLemmas.{groups-passed, groups-put}
use Rattle.im_scan.proofs.SummedLemmas.{some-inj}
use Rattle.im_scan.proofs.by_code.groups_by_code.Goals as goal
use Rattle.im_scan.proofs.by_code.groups_by_code.Goals.{then-rows-ne0+in_ok-group+in-Some+in_ok-push-in-Some, else-rows-ne0}

pub loop-code-preserved : goal.loop-code-preserved
loop-code-preserved c of come =
    let dict = coded c.args.dict.now in
    let counts = c.args.counts.now in
    let code = c.loop-code.code in
    let n = get_or counts code 0 in
    let within : code < length counts = omega (arith, c.loop-code-test.true, c.len-code-end.ensures.len, c.requires.counts) in
    let long : length counts ≡ length dict = omega (arith, c.requires.counts) in
    let here : code < length c.args.dict.now + 1 = omega (arith, within, c.requires.counts) in
    elim c.if-rows-ne0.branch [
      | then-rows-ne0+in_ok-group+in-Some+in_ok-push-in-Some w ↦
          let some : (n == 0) ≡ false = grind (arith, nat_tests, w.if-rows-ne0.true) in
          groups-put of c.args.asked.now dict counts code n (groups_in c.loop-code.groups.items) (groups_in c.if-rows-ne0.groups.items)
          (group_of w.in-Some.group) within long refl some (c.loop-code.invariant of come)
          (w.in_ok-group.ensures w.in-Some.group w.in-Some.is (of (get_or dict code Null)) (come code here))
          (ap (λ v. groups_in v.items) w.groups-is
          ∙ (ap groups_in w.in_ok-push-in-Some.ensures.items ∙ map-append group_of c.loop-code.groups.items (w.in-Some.group ∷ [])))
      | else-rows-ne0 w ↦
          let none : (n == 0) ≡ true = grind (arith, nat_tests, w.if-rows-ne0.false) in
          ap (λ v. groups_in v.items) w.groups-is
          ∙ groups-passed of c.args.asked.now dict counts code n (groups_in c.loop-code.groups.items) within long refl none (c.loop-code.invariant of come)
    ]

pub returns : goal.returns
returns c found is of come =
    let dict = coded c.args.dict.now in
    let counts = c.args.counts.now in
    ap (λ v. groups_in v.items) (sym (some-inj is))
    ∙ (c.loop-code.invariant of come
    ∙ (ap (λ (l : List Value). groups_for of c.args.asked.now l (take c.loop-code.code counts))
    (take_all c.loop-code.code dict (omega (arith, c.loop-code-test.false, c.len-code-end.ensures.len)))
    ∙ ap (λ (l : List ℕ). groups_for of c.args.asked.now dict l)
    (take_all c.loop-code.code counts (omega (arith, c.loop-code-test.false, c.len-code-end.ensures.len, c.requires.counts)))))
