-- Which rows a condition or a query may be asked of: its columns stand in the row, and what it compares is of one kind.
use Rattle.std.specs.Prelude.{◌≡◌, ℕ, ◌<◌, Bool, true, false, IsTrue, List, length, get_or}
use Rattle.std.specs.List.{AllByRecursion}
use Rattle.std.specs.Option.{ForSome}
use Rattle.im_values.specs.declared.content.Content.{Content as Value}
use Rattle.im_values.specs.declared.content.Content.TheVariants.{Int, Text, Null}
use Rattle.im_syntax.specs.declared.item.ItemOf.{ItemOf}
use Rattle.im_syntax.specs.declared.item.ItemOf.TheVariants as item
use Rattle.im_syntax.specs.Functions.{adds}
use Rattle.im_syntax.specs.declared.bound.Key.{Key}
use Rattle.im_syntax.specs.declared.bound.Bound.{Bound}
use Rattle.im_syntax.specs.Condition.{TermOf, negation, nested, comparison, null_test, between, within, ConjOf, no_term, and_term, CondOf, no_conj, or_conj}

-- the value of a row in a column
abbrev pub value_at : List Value → ℕ → Value
value_at row column = get_or row column Null

-- two values are of one kind, or one of them is NULL
abbrev pub agree : Value → Value → Bool
agree (Int a) (Int b) = true
agree (Int a) (Text b) = false
agree (Int a) Null = true
agree (Text a) (Int b) = false
agree (Text a) (Text b) = true
agree (Text a) Null = true
agree Null b = true

-- the value is a text
abbrev pub is_text : Value → Bool
is_text (Int a) = false
is_text (Text a) = true
is_text Null = false

-- the row has the column
abbrev pub HasColumn : List Value → ℕ → Type 0
HasColumn row column = column < length row

-- a value may be compared with that of the row in a column
abbrev pub Meets : List Value → ℕ → Value → Type 0
Meets row column value = IsTrue (agree (value_at row column) value)

-- ---- conditions

abbrev mutual
  pub TestFits : List Value → TermOf ℕ Value → Type 0
  TestFits row (negation t) = TestFits row t
  TestFits row (nested f) = FilterFits row f
  TestFits row (comparison column cmp value) = HasColumn row column × Meets row column value
  TestFits row (null_test column negated) = HasColumn row column
  TestFits row (between column negated low high) = HasColumn row column × Meets row column low × Meets row column high
  TestFits row (within column negated values) = HasColumn row column × AllByRecursion (Meets row column) values

  pub TestsFit : List Value → ConjOf ℕ Value → Type 0
  TestsFit row no_term = Unit {0}
  TestsFit row (and_term t ts) = TestFits row t × TestsFit row ts

  pub FilterFits : List Value → CondOf ℕ Value → Type 0
  FilterFits row no_conj = Unit {0}
  FilterFits row (or_conj ts f) = TestsFit row ts × FilterFits row f

-- ---- queries

-- a column that is added up holds no text
abbrev pub ItemFits : List Value → ItemOf ℕ → Type 0
ItemFits row (item.Column column) = HasColumn row column
ItemFits row item.CountAll = Unit {0}
ItemFits row (item.Aggregate function column) =
    HasColumn row column × (adds function ≡ true → is_text (value_at row column) ≡ false)

abbrev pub KeyFits : List Value → Key → Type 0
KeyFits row key = ItemFits row key.item

pub record BoundFits (row : List Value) (bound : Bound) : Type 0 where
  pub filter : ForSome bound.filter (FilterFits row)
  pub items : AllByRecursion (ItemFits row) bound.items
  pub groups : AllByRecursion (HasColumn row) bound.groups
  pub keys : AllByRecursion (KeyFits row) bound.keys
