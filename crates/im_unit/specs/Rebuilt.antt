-- A unit that is built anew from an old one and the rows that were fetched since.
use Rattle.std.specs.Prelude.{ℕ, ◌+◌, ◌<◌, ◌≤◌, ◌==◌, List, [], ◌∷◌, fold, get_or, length, map, Option, None, if◌then◌else◌}
use Rattle.std.specs.List.{range_with_len}
use Rattle.im_history.specs.Rows.{Row}
use Rattle.im_history.specs.Units.{Content}

-- the rows that were fetched, or none, without their row numbers
abbrev pub fetched_rows : List (ℕ × Option Row) → List (Option Row)
fetched_rows fetched = map (λ found. found.1) fetched

-- the row at a row number: the fetched one, or none, where this row number was fetched, else the old one
abbrev pub row_or_fetched : List (ℕ × Option Row) → ℕ → Option Row → Option Row
row_or_fetched fetched rid old = fold (λ row found. if found.0 == rid then found.1 else row) old fetched

-- rows by row number from the first one on, with each fetched row in its place
unfoldable pub rows_with : List (ℕ × Option Row) → ℕ → List (Option Row) → List (Option Row)
rows_with fetched first rows = map (λ place. row_or_fetched fetched (first + place) (get_or rows place None)) (range_with_len 0 (length rows))

-- what a unit holds at an SCN, where an old unit holds the rows that were not fetched since
abbrev pub rebuilt : Content → ℕ → List (ℕ × Option Row) → Content
rebuilt old scn fetched = record { scn = scn; first = old.first; columns = old.columns; rows = rows_with fetched old.first old.rows }

-- the row numbers that were fetched rise, from one on and below another
abbrev pub RiseWithin : ℕ → ℕ → List (ℕ × Option Row) → Type 0
RiseWithin low end [] = Unit {0}
RiseWithin low end (found ∷ fetched) = (low ≤ found.0) × (found.0 < end) × RiseWithin (found.0 + 1) end fetched
