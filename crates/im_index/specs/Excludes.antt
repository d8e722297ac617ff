-- Which conditions the bounds of columns exclude.
use Rattle.std.specs.Prelude.{◌≡◌, ◌≢◌, ℕ, ◌<◌, ◌==◌, Bool, true, false, not, ◌&&◌, ◌||◌, List, [], length, map, get_or, slice_get, Contains, Option, is_none}
use Rattle.std.specs.List.{list_all, list_any}
use Rattle.std.specs.Option.{option_map_or}
use Rattle.std.specs.Ordering.{is_eq, is_lt}
use Rattle.im_values.specs.declared.comparison.Cmp.{Cmp}
use Rattle.im_values.specs.declared.comparison.Cmp.TheVariants.{Eq, Ne, Lt, Le, Gt, Ge}
use Rattle.im_values.specs.declared.truth.Truth.TheVariants.{Yes}
use Rattle.im_values.specs.declared.content.Content.{Content as Value}
use Rattle.im_values.specs.Order.{order, is_null}
use Rattle.im_syntax.specs.Condition.{TermOf, negation, nested, comparison, null_test, between, within, CondOf, no_conj, or_conj, terms_of}
use Rattle.im_syntax.specs.BoundFits.{value_at}
use Rattle.im_eval.specs.Holds.{truth_of}
use Rattle.im_index.specs.declared.bounds.Bounds.{Bounds}
use Rattle.im_index.specs.Bounds.{bounds_of}

-- a value comes before another
abbrev pub is_below : Value → Value → Bool
is_below a b = is_lt (order a b)

-- a value is another
abbrev pub is_same : Value → Value → Bool
is_same a b = is_eq (order a b)

-- no value from a least to a greatest one stands so to this value
abbrev pub ends_exclude : Cmp → Value → Value → Value → Bool
ends_exclude Eq least greatest v = is_below v least || is_below greatest v
ends_exclude Ne least greatest v = is_same least v && is_same greatest v
ends_exclude Lt least greatest v = not (is_below least v)
ends_exclude Le least greatest v = is_below v least
ends_exclude Gt least greatest v = not (is_below v greatest)
ends_exclude Ge least greatest v = is_below greatest v

-- a comparison is excluded where it is one with NULL, where the column has nothing but NULLs, and where its ends exclude it
abbrev pub excludes_comparison : Bounds → Cmp → Value → Bool
excludes_comparison bounds cmp v =
    is_null v || option_map_or (λ least. option_map_or (λ greatest. ends_exclude cmp least greatest v) bounds.greatest true) bounds.least true

-- IS NULL is excluded where there are no NULLs, and IS NOT NULL where there is nothing else
abbrev pub excludes_null_test : Bounds → Bool → Bool
excludes_null_test bounds true = is_none bounds.least
excludes_null_test bounds false = bounds.nulls == 0

-- BETWEEN is excluded where one of its two comparisons is
abbrev pub excludes_between : Bounds → Value → Value → Bool
excludes_between bounds low high = excludes_comparison bounds Ge low || excludes_comparison bounds Le high

-- IN is excluded where it is for each of its values
abbrev pub excludes_within : Bounds → List Value → Bool
excludes_within bounds values = list_all (excludes_comparison bounds Eq) values

-- a column without bounds excludes nothing
abbrev pub by_column : (Bounds → Bool) → List Bounds → ℕ → Bool
by_column test columns column = option_map_or test (slice_get columns column) false

-- NOT, also before BETWEEN and IN, and parentheses are never excluded
abbrev pub excludes_term : List Bounds → TermOf ℕ Value → Bool
excludes_term columns (negation t) = false
excludes_term columns (nested f) = false
excludes_term columns (comparison column cmp v) = by_column (λ bounds. excludes_comparison bounds cmp v) columns column
excludes_term columns (null_test column negated) = by_column (λ bounds. excludes_null_test bounds negated) columns column
excludes_term columns (between column true low high) = false
excludes_term columns (between column false low high) = by_column (λ bounds. excludes_between bounds low high) columns column
excludes_term columns (within column true values) = false
excludes_term columns (within column false values) = by_column (λ bounds. excludes_within bounds values) columns column

-- a condition without OR is excluded where one of its terms is, and one with OR never
abbrev pub excludes : CondOf ℕ Value → List Bounds → Bool
excludes no_conj columns = false
excludes (or_conj terms no_conj) columns = list_any (excludes_term columns) (terms_of terms)
excludes (or_conj terms (or_conj more rest)) columns = false

-- a query without a condition is never excluded
abbrev pub excludes_where : Option (CondOf ℕ Value) → List Bounds → Bool
excludes_where filter columns = option_map_or (λ f. excludes f columns) filter false

-- each value of a row stands in the column of its number
abbrev pub StandsIn : List (List Value) → List Value → Type 0
StandsIn columns row = (column : ℕ) → column < length columns → Contains (get_or columns column []) (value_at row column)

-- a condition that the bounds of columns exclude keeps none of their rows
abbrev pub ExcludedRowsAreNotKept : Type 0
ExcludedRowsAreNotKept =
    (filter : CondOf ℕ Value) (columns : List (List Value)) (row : List Value) →
    excludes filter (map bounds_of columns) ≡ true → StandsIn columns row → truth_of filter row ≢ Yes
