use Rattle.std.proofs.Common.{◌≡◌, ◌<◌, ℕ, false, List, length, map, get_or, refl, sym, ap, subst, ◌∙◌, arith}
use Rattle.std.proofs.lemmas.Bool.Decides.{nat_tests}
use Rattle.im_values.specs.Sizes.{dictionary}
use Rattle.im_codes.specs.Dictionary.{coded}
use Rattle.im_codepred.specs.Tallies.{AreCounts, chosen}
use Rattle.im_group.specs.declared.asked.Asked.{Asked}
use Rattle.im_unit.specs.Holding.{present_rows, values_in}
use Rattle.im_scan.specs.inner.Summed.{wants_ends}
use Rattle.im_scan.proofs.CountedLemmas.{counts-of-values, first-tallies}
use Rattle.im_scan.proofs.SummedLemmas.{column-long, some-inj}
use Rattle.im_scan.proofs.by_code.row_counts.Goals as goal

pub returns : goal.returns
returns c found is =
    let spots = c.args.spots.now in
    let keys = c.args.keys.now in
    let rows = c.args.unit.now.rows in
    let values = coded (dictionary keys) in
    let asked = c.args.asked.now in
    let all = c.args.all.now in
    let first : Asked = record { column = 0; least = false; greatest = false } in
    let column = values_in (get_or asked 0 first).column (present_rows rows) in
    let tallies = (get_or all 0 c.index-all-0.result).items in
    let some : 0 < length asked = grind (arith, nat_tests, c.is_empty.ensures, c.if-is_empty.false) in
    let many : 0 < length all = grind (arith, nat_tests, c.is_empty-else-is_empty.ensures, c.if-is_empty-2.false) in
    let are = first-tallies (λ v. v.items) spots keys (present_rows rows) values asked all first c.index-all-0.result c.requires.tallies some many in
    let long : length keys ≡ length column = c.requires.keys ∙ sym (column-long (get_or asked 0 first).column rows column spots refl c.requires.spots) in
    let counted : found.items ≡ map (λ tally. tally.values) tallies =
    ap (λ v. v.items) (sym (some-inj is))
    ∙ (c.in_ok-counts.ensures ∙ ap (map (λ tally. tally.values)) (c.as_slice.ensures.value ∙ ap (λ v. v.items) c.index-all-0.is)) in
    subst (λ (counts : List ℕ). AreCounts (chosen spots keys) values counts) (sym counted)
    (counts-of-values (wants_ends (get_or asked 0 first)) spots keys column values tallies are long (c.has_null.ensures c.if-has_null.false))
