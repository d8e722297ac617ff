-- Rows that were put from a row number on, by their places.
use Rattle.std.proofs.Common.{◌≡◌, ℕ, zero, suc, ◌+◌, List, [], ◌∷◌, length, Option, Some, refl, ap, ◌∙◌, arith}
use Rattle.std.specs.List.{slice_get}
use Rattle.im_history.specs.Puts.{put_from}
use Rattle.im_history.specs.Rows.{Row}

pub length-put_from : (table first : ℕ) (rows : List Row) → length (put_from table first rows) ≡ length rows
length-put_from table first [] = refl
length-put_from table first (row ∷ rows) = ap suc (length-put_from table (first + 1) rows)

-- the change at a place puts the row at that place
pub at-put_from : (table first : ℕ) (rows : List Row) (place : ℕ) (row : Row) → slice_get rows place ≡ Some row
    → slice_get (put_from table first rows) place ≡ Some (record { table = table; rid = first + place; row = Some row })
at-put_from table first [] place row is = absurd cc
at-put_from table first (r ∷ rows) zero row is =
    ap (λ (o : Option Row). Some (record { table = table; rid = first; row = o })) is
    ∙ ap (λ (n : ℕ). Some (record { table = table; rid = n; row = Some row })) (omega arith)
at-put_from table first (r ∷ rows) (suc place) row is =
    at-put_from table (first + 1) rows place row is
    ∙ ap (λ (n : ℕ). Some (record { table = table; rid = n; row = Some row })) (omega arith)
