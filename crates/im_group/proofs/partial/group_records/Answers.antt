use Rattle.std.proofs.Common.{◌≡◌, ℕ, refl, [], ◌∷◌, List, Vec, Global, length, map, ap, sym, ◌++◌, ◌∙◌, subst}
use Rattle.std.specs.Cmp.Lexicographic.{pointwise}
use Rattle.im_values.specs.declared.content.Content.{Content as Value}
use Rattle.im_syntax.specs.declared.item.ItemOf.{ItemOf}
use Rattle.im_group.specs.declared.asked.Asked.{Asked}
use Rattle.im_group.specs.Tallies.{Tallied, asked_in}
use Rattle.im_group.specs.declared.cell.Cell.{Cell}
use Rattle.im_group.specs.Answers.{group_cell}
use Rattle.im_group.specs.inner.Holding.{AreKeyed, entry_order}
use Rattle.im_group.specs.Partials.{keyed}
use Rattle.im_group.proofs.Agreement.{same_value, keys_tie}
use Rattle.im_group.proofs.KeySort.{by_key_total, in_order-held}
use Rattle.im_group.proofs.Sorting.{all_in_order}
use Rattle.im_group.proofs.partial.group_records.Goals as goal

abbrev Entry : Type 0
Entry = Vec Value Global × Tallied

keyed-map-cells : (columns : List ℕ) (asked : List Asked) (wanted : List (ItemOf ℕ)) (es : List Entry)
    → map (λ g. map (group_cell columns asked g.0 g.1) wanted) (keyed (λ k. k.items) es) ≡ map (λ g. map (group_cell columns asked g.0.items g.1) wanted) es
keyed-map-cells columns asked wanted [] = refl
keyed-map-cells columns asked wanted (e ∷ es) = ap (λ l. map (group_cell columns asked e.0.items e.1) wanted ∷ l) (keyed-map-cells columns asked wanted es)

pub put_records-requires : goal.put_records-requires
put_records-requires c = record {
  listed = c.requires.listed;
  keyed =
      let count = length c.args.bound.now.groups in
      subst (AreKeyed count) (sym c.in_ok-sort_groups.ensures)
      (all_in_order entry_order (by_key_total (λ (k : Vec Value Global). k.items))
      (λ (g : Entry). length g.0.items ≡ count) c.args.groups.entries c.requires.keyed);
}

pub returns : goal.returns
returns c =
    let f : Vec Value Global → List Value = λ k. k.items in
    let columns = c.args.bound.now.groups in
    let sorted = c.sort_groups.new.groups.entries in
    let entries =
    ap (keyed f) c.in_ok-sort_groups.ensures
    ∙ in_order-held (λ x y. pointwise same_value x.items y.items) f (λ x y. keys_tie x.items y.items)
    c.args.groups.entries c.len.ensures.unique in
    let cells : List Asked → List Entry → List (List Cell) =
    λ asked es. map (λ (g : Entry). map (group_cell columns asked g.0.items g.1) c.args.wanted.now) es in
    c.in_ok-put_records.ensures
    ∙ ((λ i. c.in_ok-records.ensures.items i ++ cells ((c.as_slice.ensures.value ∙ c.in_ok-asked.ensures) i) sorted)
    ∙ (sym (keyed-map-cells columns (asked_in c.args.wanted.now) c.args.wanted.now sorted)
    ∙ ap (map (λ (g : List Value × Tallied). map (group_cell columns (asked_in c.args.wanted.now) g.0 g.1) c.args.wanted.now)) entries))
