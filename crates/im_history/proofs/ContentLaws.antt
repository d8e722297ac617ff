-- What the unit of an extent at an SCN holds, as a history goes on.
use Rattle.std.proofs.Common.{◌≡◌, ℕ, ◌*◌, ◌≤◌, List, [], ◌∷◌, ◌++◌, map, Option, refl, ap, ap₂, ◌∙◌}
use Rattle.std.specs.Option.{option_map}
use Rattle.im_values.specs.declared.content.Content.{Content as Value}
use Rattle.im_values.specs.Widened.{widened}
use Rattle.im_history.specs.declared.entry.Entry.{Entry}
use Rattle.im_history.specs.Commits.{scn}
use Rattle.im_history.specs.History.{History}
use Rattle.im_history.specs.Legal.{Exists}
use Rattle.im_history.specs.Rows.{Row}
use Rattle.im_history.specs.Units.{Content, columns_at, content_at, rows_of_extent, unit_row}
use Rattle.im_history.specs.Views.{per_at}
use Rattle.im_history.proofs.ColumnLaws.{columns_at-push, defaults_at-push}
use Rattle.im_history.proofs.RowLaws.{rows-append}
use Rattle.im_history.proofs.TableLaws.{per_at-push}

map_same : {X : Type 0} (f g : ℕ → X) → ((k : ℕ) → f k ≡ g k) → (ks : List ℕ) → map f ks ≡ map g ks
map_same f g same [] = refl
map_same f g same (k ∷ ks) = ap₂ (λ x xs. x ∷ xs) (same k) (map_same f g same ks)

-- the row that such a unit holds
pub unit_row-push : (h : History) (entry : Entry) (table unit_scn rid : ℕ) → Exists h table → unit_scn ≤ scn h
    → unit_row (h ++ entry ∷ []) table unit_scn rid ≡ unit_row h table unit_scn rid
unit_row-push h entry table unit_scn rid exists within =
    ap₂ (λ (defaults : List Value) (row : Option Row). option_map (widened defaults) row)
    (defaults_at-push h entry table unit_scn exists within) (rows-append h (entry ∷ []) table unit_scn rid within)

abbrev content_of : ℕ → ℕ → ℕ → ℕ → List (Option Row) → Content
content_of unit_scn extent per columns list = record { scn = unit_scn; first = extent * per; columns = columns; rows = list }

-- a unit of a table that exists, at an SCN that was reached, holds the same after one more entry
pub content_at-push : (h : History) (entry : Entry) (table extent unit_scn : ℕ) → Exists h table → unit_scn ≤ scn h
    → content_at (h ++ entry ∷ []) table extent unit_scn ≡ content_at h table extent unit_scn
content_at-push h entry table extent unit_scn exists within =
    let now : History = h ++ entry ∷ [] in
    ap (λ (per : ℕ). content_of unit_scn extent per (columns_at now table unit_scn) (map (unit_row now table unit_scn) (rows_of_extent per extent)))
    (per_at-push h entry table exists)
    ∙ ap₂ (content_of unit_scn extent (per_at h table)) (columns_at-push h entry table unit_scn exists within)
    (map_same (unit_row now table unit_scn) (unit_row h table unit_scn) (λ rid. unit_row-push h entry table unit_scn rid exists within)
    (rows_of_extent (per_at h table) extent))
