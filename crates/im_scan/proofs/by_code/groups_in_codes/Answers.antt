use Rattle.std.proofs.Common.{◌≡◌, ◌∙◌, ◌+◌, ℕ, List, All, length, map, ap, sym, subst, arith}
use Rattle.std.specs.List.{AllByRecursion}
use Rattle.std.proofs.lemmas.List.{length-map}
use Rattle.std.proofs.lemmas.List.Elements.{All-from_recursion}
use Rattle.std.proofs.lemmas.Result.{IfOk-weaker}
use Rattle.im_values.specs.declared.content.Content.{Content as Value}
use Rattle.im_values.specs.Sizes.{dictionary}
use Rattle.im_codes.specs.Dictionary.{coded}
use Rattle.im_codepred.specs.Tallies.{AreCounts, chosen, chosen_with}
use Rattle.im_group.specs.declared.asked.Asked.{Asked}
use Rattle.im_unit.specs.Holding.{present_rows, values_in}
use Rattle.im_scan.specs.inner.ByCode.{AreAllTallies, groups_for}
use Rattle.im_scan.proofs.ByCodeLemmas.{all-long, all-size, all-unmapped, come-to}
use Rattle.im_scan.proofs.CodedLemmas.{counts-are}
use Rattle.im_scan.proofs.by_code.groups_in_codes.Goals as goal

pub groups_by_code-requires-clause-size : goal.groups_by_code-requires-clause-size
groups_by_code-requires-clause-size c =
    ap length c.as_slice-3.ensures.value
    ∙ (sym (length-map c.in-Some.all.items (λ tallies. tallies.items))
    ∙ all-size _ _ _ _ c.args.asked.now _ (c.in_ok-all.ensures c.in-Some.all c.in-Some.is))

pub groups_by_code-requires-clause-within : goal.groups_by_code-requires-clause-within
groups_by_code-requires-clause-within c =
    subst (All (λ v. length v.items ≡ length c.args.dict.now + 1)) (sym c.as_slice-3.ensures.value)
    (All-from_recursion (λ v. length v.items ≡ length c.args.dict.now + 1) c.in-Some.all.items
    (all-unmapped (λ t. length t ≡ length c.args.dict.now + 1) (λ v. v.items) c.in-Some.all.items
    (subst (λ (n : ℕ). AllByRecursion (λ t. length t ≡ n) (map (λ tallies. tallies.items) c.in-Some.all.items))
    (omega (arith, ap length c.requires.dict))
    (all-long _ _ _ _ c.args.asked.now _ (c.in_ok-all.ensures c.in-Some.all c.in-Some.is)))))

pub row_counts-requires-clause-tallies : goal.row_counts-requires-clause-tallies
row_counts-requires-clause-tallies c =
    let spots = c.args.spots.now in
    let keys = c.args.keys.now in
    let held = present_rows c.args.unit.now.rows in
    subst (λ xs. AreAllTallies spots keys held (coded (dictionary keys)) c.args.asked.now (map (λ tallies. tallies.items) xs)) (sym c.as_slice.ensures.value)
    (c.in_ok-all.ensures c.in-Some.all c.in-Some.is)

pub returns : goal.returns
returns c =
    let spots = c.args.spots.now in
    let keys = c.args.keys.now in
    let held = present_rows c.args.unit.now.rows in
    let dict = c.args.dict.now in
    let asked = c.args.asked.now in
    let of : Value → Asked → List Value = λ value a. chosen_with value spots keys (values_in a.column held) in
    let are : AreAllTallies spots keys held (coded dict) asked (map (λ tallies. tallies.items) c.as_slice-3.result.now) =
    subst (λ vs. AreAllTallies spots keys held (coded vs) asked (map (λ tallies. tallies.items) c.as_slice-3.result.now)) (sym c.requires.dict)
    (subst (λ xs. AreAllTallies spots keys held (coded (dictionary keys)) asked (map (λ tallies. tallies.items) xs)) (sym c.as_slice-3.ensures.value)
    (c.in_ok-all.ensures c.in-Some.all c.in-Some.is)) in
    let counted : AreCounts (chosen spots keys) (coded dict) c.in-Some-2.counts.items =
    subst (λ vs. AreCounts (chosen spots keys) (coded vs) c.in-Some-2.counts.items) (sym c.requires.dict)
    (c.in_ok-counts.ensures c.in-Some-2.counts c.in-Some-2.is) in
    IfOk-weaker c.groups_by_code.result _ _
    (λ found some groups is. record {
      values = coded dict;
      all = c.requires.codes;
      made =
          some groups is of (λ code within. come-to spots keys held (coded dict) asked _ code are (omega (arith, within)))
          ∙ ap (λ (l : List ℕ). groups_for of asked (coded dict) l)
          (c.as_slice-2.ensures.value ∙ counts-are (chosen spots keys) (coded dict) c.in-Some-2.counts.items counted);
    })
    c.groups_by_code.ensures
