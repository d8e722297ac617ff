-- A query with groups, the rows of a small table, and their counts.
use Rattle.std.specs.Prelude.{ℕ, ◌*◌, pos, true, None, List, [], ◌∷◌}
use Rattle.im_values.specs.declared.content.Content.{Content as Value}
use Rattle.im_values.specs.declared.content.Content.TheVariants.{Int, Null}
use Rattle.im_syntax.specs.declared.item.Function.TheVariants as function
use Rattle.im_syntax.specs.declared.item.ItemOf.TheVariants as item
use Rattle.im_syntax.specs.declared.bound.Bound.{Bound}
use Rattle.im_group.specs.Tallies.{Tallied}
use Rattle.im_group.specs.Counts.{AreCountsOf}
use Rattle.im_group.specs.Partials.{Numbered}

-- SELECT K, COUNT(*), SUM(V), MIN(V) FROM T GROUP BY K
abbrev pub query : Bound
query = record {
  table = 0;
  asked = None;
  filter = None;
  items = item.Column 0 ∷ item.CountAll ∷ item.Aggregate function.Sum 1 ∷ item.Aggregate function.Min 1 ∷ [];
  groups = 0 ∷ [];
  keys = [];
  grouped = true;
}

-- a row of the columns K and V
abbrev pub row : Value → Value → List Value
row key value = key ∷ value ∷ []

abbrev pub rows : List Numbered
rows = (0, row (Int (pos 2)) (Int (pos 5))) ∷ (1, row (Int (pos 1)) (Int (pos 7))) ∷ (2, row (Int (pos 2)) Null) ∷ []

-- the counts of a group of so many rows with the key 1 or 2 and one value
abbrev pub counted : ℕ → ℕ → ℕ → List Value × Tallied
counted key count value = (
  Int (pos key) ∷ [],
  record {
    rows = count;
    sums = record { values = count; total = pos (count * key); least = Int (pos key); greatest = Int (pos key) }
        ∷ record { values = 1; total = pos value; least = Int (pos value); greatest = Int (pos value) } ∷ [];
  },
)

abbrev pub counts : List (List Value × Tallied)
counts = counted 1 1 7 ∷ counted 2 2 5 ∷ []

-- these are the counts of some rows
pub record HasCounts (bound : Bound) (found : List (List Value × Tallied)) : Type 0 where
  pub rows : List Numbered
  pub are : AreCountsOf bound rows found
