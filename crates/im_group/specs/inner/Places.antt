-- Where columns stand in the keys of groups.
use Rattle.std.specs.Prelude.{◌≡◌, ℕ, List, Option, None, Some, drop, get_or}
use Rattle.std.specs.Option.{ForSome}
use Rattle.im_values.specs.declared.content.Content.{Content as Value}
use Rattle.im_values.specs.declared.content.Content.TheVariants as value
use Rattle.im_group.specs.Answers.{key_value}

-- the first value of a column in any key, from a place on, is that at this place
abbrev pub IsFirst : List ℕ → ℕ → ℕ → ℕ → Type 0
IsFirst columns from column place = (key : List Value) → key_value columns (drop from key) column ≡ get_or key place value.Null

-- these columns stand in a key from a place on, each first where the table says, if it says so
pub record AreIn (columns : List ℕ) (from : ℕ) (places : List (Option ℕ)) : Type 0 where
  pub at : (column : ℕ) → ForSome (get_or places column None) (IsFirst columns from column)

-- a table says nothing of any column
pub record SaysNothing (places : List (Option ℕ)) : Type 0 where
  pub at : (column : ℕ) → get_or places column None ≡ None

-- what a table says of a column is this place or nothing, and of the others what it said
pub record AreIfPut (old : List (Option ℕ)) (column place : ℕ) (new : List (Option ℕ)) : Type 0 where
  pub here : ForSome (get_or new column None) (λ told. told ≡ place)
  pub others : (other : ℕ) → (other ≡ column → ⊥) → get_or new other None ≡ get_or old other None
