-- Which bound forms are those of queries: grouped exactly where SQL groups, and then by what stands in them.
use Rattle.std.specs.Prelude.{◌≡◌, ℕ, Bool, true, false, ◌||◌, ◌==◌, List, [], ◌∷◌, map}
use Rattle.std.specs.List.{AllByRecursion, list_any}
use Rattle.im_syntax.specs.declared.item.ItemOf.{ItemOf}
use Rattle.im_syntax.specs.declared.item.ItemOf.TheVariants as item
use Rattle.im_syntax.specs.Functions.{is_aggregate}
use Rattle.im_syntax.specs.declared.bound.Bound.{Bound}

abbrev pub is_filled : {A : Type 0} → List A → Bool
is_filled [] = false
is_filled (x ∷ xs) = true

-- the column of a number is among these
abbrev pub is_listed : List ℕ → ℕ → Bool
is_listed numbers number = list_any (λ other. other == number) numbers

-- one row has such an item: it is a plain column
abbrev pub IsOfRow : ItemOf ℕ → Type 0
IsOfRow i = is_aggregate i ≡ false

-- a group has one such item: it is an aggregate, or one of the columns of GROUP BY
abbrev pub IsOfGroup : List ℕ → ItemOf ℕ → Type 0
IsOfGroup groups (item.Column column) = is_listed groups column ≡ true
IsOfGroup groups item.CountAll = Unit {0}
IsOfGroup groups (item.Aggregate function column) = Unit {0}

-- A query is grouped exactly where it has GROUP BY, or an aggregate in its list or keys. Then each plain column in them
-- is one of GROUP BY.
pub record IsQuery (bound : Bound) : Type 0 where
  pub grouped :
      bound.grouped
      ≡ (is_filled bound.groups || list_any is_aggregate bound.items || list_any is_aggregate (map (λ key. key.item) bound.keys))
  pub items : bound.grouped ≡ true → AllByRecursion (IsOfGroup bound.groups) bound.items
  pub keys : bound.grouped ≡ true → AllByRecursion (IsOfGroup bound.groups) (map (λ key. key.item) bound.keys)
