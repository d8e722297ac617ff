-- Where the rows of a unit that is built anew come from.
use Rattle.std.specs.Prelude.{◌≡◌, ℕ, ◌<◌, List, [], ◌++◌, get_or, length, map, Option}
use Rattle.std.specs.List.{All, filter_map, range_with_len}
use Rattle.std.specs.Option.{ForSome, option_map}
use Rattle.im_values.specs.declared.content.Content.{Content as Value}
use Rattle.im_column.specs.Picks.{values_picked}
use Rattle.im_history.specs.Rows.{Row}
use Rattle.im_unit.specs.Holding.{present_rows, values_in}
use Rattle.im_unit.specs.Rebuilt.{fetched_rows}

-- the rows to take from: those that are present in the old unit, and behind them those that were fetched
abbrev pub stock : List (Option Row) → List (ℕ × Option Row) → List Row
stock rows fetched = present_rows rows ++ present_rows (fetched_rows fetched)

-- the row of a slot: the one at its place of the stock, or none
abbrev pub row_in : List Row → Option ℕ → Option Row
row_in stock slot = option_map (λ place. get_or stock place []) slot

-- a slot stands for a row
pub record IsSlotFor (stock : List Row) (slot : Option ℕ) (row : Option Row) : Type 0 where
  pub same : row_in stock slot ≡ row
  pub inside : ForSome slot (λ place. place < length stock)

-- slots stand for rows
pub record Planned (stock : List Row) (slots : List (Option ℕ)) (rows : List (Option Row)) : Type 0 where
  pub same : map (row_in stock) slots ≡ rows
  pub inside : All (λ slot. ForSome slot (λ place. place < length stock)) slots

-- the places of the slots that have one
abbrev pub places_in : List (Option ℕ) → List ℕ
places_in slots = filter_map (λ slot. slot) slots

-- the rows at places
abbrev pub rows_picked : List Row → List ℕ → List Row
rows_picked stock places = map (λ place. get_or stock place []) places

-- columns whose values stand at places of old columns and of fresh rows behind them
abbrev pub columns_picked : List (List Value) → List Row → List ℕ → List (List Value)
columns_picked old fresh places =
    map (λ column. values_picked (get_or old column []) (values_in column fresh) places) (range_with_len 0 (length old))
