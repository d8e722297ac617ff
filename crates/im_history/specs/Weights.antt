-- What changes weigh: the store takes so much, and no more.
use Rattle.std.specs.Prelude.{ℕ, ◌+◌, List, [], ◌∷◌, length, Option, Some, None}
use Rattle.im_values.specs.declared.limits.TheConstants.{CHANGE_WEIGHT, VALUE_WEIGHT}
use Rattle.im_values.specs.declared.content.Content.{Content as Value}
use Rattle.im_values.specs.declared.content.Content.TheVariants.{Int, Text, Null}
use Rattle.im_history.specs.declared.change.Change.{Change}
use Rattle.im_history.specs.declared.entry.What.{What}
use Rattle.im_history.specs.declared.entry.What.TheVariants.{Write}
use Rattle.im_history.specs.History.{History, replay}

-- what a value weighs: a text its length more
abbrev pub value_weight : Value → ℕ
value_weight (Int n) = VALUE_WEIGHT
value_weight (Text t) = VALUE_WEIGHT + length t
value_weight Null = VALUE_WEIGHT

-- the values of a row
abbrev pub row_weight : List Value → ℕ
row_weight [] = 0
row_weight (value ∷ values) = value_weight value + row_weight values

-- the row that is put, if one is
abbrev pub put_weight : Option (List Value) → ℕ
put_weight None = 0
put_weight (Some row) = row_weight row

-- changes, each of which weighs something beside its row
abbrev pub changes_weight : List Change → ℕ
changes_weight [] = 0
changes_weight (change ∷ changes) = CHANGE_WEIGHT + put_weight change.row + changes_weight changes

-- the weight with that of one more entry
abbrev pub weight_after : ℕ → What → ℕ
weight_after so_far (Write changes) = so_far + changes_weight changes
weight_after so_far what = so_far

-- the weight of all that was ever written, rolled back or not
unfoldable pub weight : History → ℕ
weight history = replay (λ before so_far entry. weight_after so_far entry.what) 0 history
