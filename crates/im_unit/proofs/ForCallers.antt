-- What callers know of a unit: where its rows stand in its columns.
use Rattle.std.proofs.Common.{◌≡◌, ℕ, zero, suc, ◌+◌, ◌-◌, ◌<◌, Bool, true, false, if◌then◌else◌, List, [], ◌∷◌, length, take, get_or, Option, Some, None, refl, sym, ap, ◌∙◌, arith}
use Rattle.std.specs.Prelude.{is_some, nat_lt}
use Rattle.std.specs.List.{All}
use Rattle.std.specs.Option.{option_map}
use Rattle.std.proofs.lemmas.List.Elements.{All-from_recursion}
use Rattle.im_history.specs.Rows.{Row}
use Rattle.im_history.specs.Units.{Content}
use Rattle.im_unit.specs.Holding.{HaveWidth, columns_of, count_present, present_rows, row_across, row_of, spot_of}
use Rattle.im_unit.specs.Rebuilt.{rebuilt, row_or_fetched}
use Rattle.im_unit.proofs.KeptLemmas.{across-back, at-across, columns-long, present-each}
use Rattle.im_unit.proofs.RebuiltLemmas.{at-with, length-with}

-- as many rows are present as there are rows that are
pub count-present : (rows : List (Option Row)) → count_present rows ≡ length (present_rows rows)
count-present [] = refl
count-present (None ∷ rows) = count-present rows
count-present (Some row ∷ rows) = let more = count-present rows in omega (arith, more)

-- a row stands among those that are present behind as many as are present before it
pub present-at : (rows : List (Option Row)) (place : ℕ) (row : Row) → get_or rows place None ≡ Some row →
    (count_present (take place rows) < count_present rows) × (get_or (present_rows rows) (count_present (take place rows)) [] ≡ row)
present-at [] place row e = absurd cc
present-at (None ∷ rows) zero row e = absurd cc
present-at (None ∷ rows) (suc place) row e = present-at rows place row e
present-at (Some other ∷ rows) zero row e = (omega arith, cc)
present-at (Some other ∷ rows) (suc place) row e =
    let rest = present-at rows place row e in
    (omega (arith, rest.0), rest.1)

-- each column has a value of each row that is present
pub columns-of_long : (content : Content) → All (λ column. length column ≡ count_present content.rows) (columns_of content)
columns-of_long content = columns-long content.columns (present_rows content.rows) (count_present content.rows) (sym (count-present content.rows))

-- the row across the columns at a place is the one that is present there
pub across-columns : (content : Content) (spot : ℕ) → HaveWidth content.columns content.rows → spot < count_present content.rows →
    row_across (columns_of content) spot ≡ get_or (present_rows content.rows) spot []
across-columns content spot wide inside =
    let rows = present_rows content.rows in
    let within : spot < length rows = omega (arith, inside, count-present content.rows) in
    sym (at-across (columns_of content) (length rows) spot within)
    ∙ ap (λ (l : List Row). get_or l spot [])
    (across-back content.columns rows
    (All-from_recursion (λ (row : Row). length row ≡ content.columns) rows (present-each (λ (row : Row). length row ≡ content.columns) content.rows wide)))

-- the row at a row number is the one across the columns at its place
pub spot-row : (content : Content) (rid : ℕ) → HaveWidth content.columns content.rows →
    row_of content rid ≡ option_map (row_across (columns_of content)) (spot_of content rid)
spot-row content rid wide = by (row_of content rid) refl
  where
    before : ℕ
    before = count_present (take (rid - content.first) content.rows)

    there : (row : Row) → (b : Bool) → (if b then None else get_or content.rows (rid - content.first) None) ≡ Some row →
        get_or content.rows (rid - content.first) None ≡ Some row
    there row true e = absurd cc
    there row false e = e

    by : (row : Option Row) → row_of content rid ≡ row → row ≡ option_map (row_across (columns_of content)) (if is_some row then Some before else None)
    by None e = refl
    by (Some row) e =
        let at = present-at content.rows (rid - content.first) row (there row (nat_lt rid content.first) e) in
        ap Some (sym (across-columns content before wide at.0 ∙ at.1))

-- a unit that is built anew has as many rows as the old one
pub length-rebuilt : (old : Content) (scn : ℕ) (fetched : List (ℕ × Option Row)) → length (rebuilt old scn fetched).rows ≡ length old.rows
length-rebuilt old scn fetched = length-with fetched old.first old.rows

-- and at each row number the one that was fetched there, where one was, else the old one
pub row-rebuilt : (old : Content) (scn : ℕ) (fetched : List (ℕ × Option Row)) (place : ℕ) (d : Option Row) → place < length old.rows →
    get_or (rebuilt old scn fetched).rows place d ≡ row_or_fetched fetched (old.first + place) (get_or old.rows place None)
row-rebuilt old scn fetched place d inside = at-with fetched old.first old.rows place d inside
