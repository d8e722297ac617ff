-- What is read of row numbers, one piece behind others.
use Rattle.std.proofs.Common.{◌≡◌, ℕ, zero, suc, ◌+◌, ◌<◌, List, [], ◌∷◌, ◌++◌, length, map, take, Option, Some, refl, ap, sym, ◌∙◌, arith, append_assoc, min}
use Rattle.std.specs.List.{flat_map, slice_get}
use Rattle.std.specs.Option.{option_map}
use Rattle.std.proofs.lemmas.Grind.{flat_map-append}
use Rattle.std.proofs.lemmas.List.{length-map, length-take, map-append, append-nil}
use Rattle.std.proofs.lemmas.Option.{slice_get_within}
use Rattle.im_history.specs.declared.fetched.Piece.{Piece}
use Rattle.im_values.specs.declared.content.Content.{Content as Value}
use Rattle.im_values.specs.Widened.{widened}
use Rattle.im_history.specs.Fetched.{all_widened, each_at, in_piece, in_pieces, run_from}
use Rattle.im_history.specs.Rows.{Row}

pub length-run_from : (first : ℕ) (rows : List Row) → length (run_from first rows) ≡ length rows
length-run_from first [] = refl
length-run_from first (row ∷ rows) = ap suc (length-run_from (first + 1) rows)

pub in_pieces-push : (pieces : List Piece) (piece : Piece) → in_pieces (pieces ++ piece ∷ []) ≡ in_pieces pieces ++ in_piece piece
in_pieces-push pieces piece = flat_map-append in_piece pieces (piece ∷ []) ∙ ap (λ last. in_pieces pieces ++ last) (append-nil (in_piece piece))

pub take-got : {X : Type 0} (xs : List X) (i : ℕ) (x : X) → slice_get xs i ≡ Some x → take (i + 1) xs ≡ take i xs ++ x ∷ []
take-got [] i x is = absurd (cc is)
take-got (y ∷ ys) zero x is = cc is
take-got (y ∷ ys) (suc i) x is =
    let next : suc i + 1 ≡ suc (i + 1) = omega arith in
    ap (λ (n : ℕ). take n (y ∷ ys)) next ∙ ap (λ (l : List _). y ∷ l) (take-got ys i x is)

length_take_within : {X : Type 0} (xs : List X) (at : ℕ) → at < length xs → length (take at xs) ≡ at
length_take_within xs at within = length-take at xs ∙ omega (arith, within)

-- rows from a row number on, one more
pub run_from-push : (first : ℕ) (rows : List Row) (row : Row) → run_from first (rows ++ row ∷ []) ≡ run_from first rows ++ (first + length rows, Some row) ∷ []
run_from-push first [] row = ap (λ (n : ℕ). (n, Some row) ∷ []) (omega arith)
run_from-push first (r ∷ rows) row =
    let next : first + 1 + length rows ≡ first + suc (length rows) = omega arith in
    ap (λ (l : List (ℕ × Option Row)). (first, Some r) ∷ l)
    (run_from-push (first + 1) rows row ∙ ap (λ (n : ℕ). run_from (first + 1) rows ++ (n, Some row) ∷ []) next)

-- so many of them and the next
pub run_from-next : (first : ℕ) (rows : List Row) (at : ℕ) (row : Row) → slice_get rows at ≡ Some row
    → run_from first (take (at + 1) rows) ≡ run_from first (take at rows) ++ (first + at, Some row) ∷ []
run_from-next first rows at row is =
    let within = slice_get_within rows at row is in
    let long : length (take at rows) ≡ at = length_take_within rows at within in
    ap (run_from first) (take-got rows at row is)
    ∙ (run_from-push first (take at rows) row ∙ ap (λ (n : ℕ). run_from first (take at rows) ++ (first + n, Some row) ∷ []) long)

-- the rows alone
pub rows-run_from : (first : ℕ) (rows : List Row) → map (λ (found : ℕ × Option Row). found.1) (run_from first rows) ≡ map (λ (row : Row). Some row) rows
rows-run_from first [] = refl
rows-run_from first (row ∷ rows) = ap (λ (l : List (Option Row)). Some row ∷ l) (rows-run_from (first + 1) rows)

-- a row of a run is lent behind others
pub lent-next : (old now new : List (ℕ × Option Row)) (first : ℕ) (rows : List Row) (at : ℕ) (row : Row) → slice_get rows at ≡ Some row
    → now ≡ old ++ run_from first (take at rows) → new ≡ now ++ (first + at, Some row) ∷ [] → new ≡ old ++ run_from first (take (at + 1) rows)
lent-next old now new first rows at row is so_far pushed =
    pushed
    ∙ (ap (λ (l : List (ℕ × Option Row)). l ++ (first + at, Some row) ∷ []) so_far
    ∙ (append_assoc old (run_from first (take at rows)) ((first + at, Some row) ∷ [])
    ∙ ap (λ (l : List (ℕ × Option Row)). old ++ l) (sym (run_from-next first rows at row is))))

-- a row of a run is put behind others
pub put-next : (old now new : List (Option Row)) (rows : List Row) (at : ℕ) (row : Row) → slice_get rows at ≡ Some row
    → now ≡ old ++ map (λ (r : Row). Some r) (take at rows) → new ≡ now ++ Some row ∷ [] → new ≡ old ++ map (λ (r : Row). Some r) (take (at + 1) rows)
put-next old now new rows at row is so_far pushed =
    let some : Row → Option Row = λ r. Some r in
    pushed
    ∙ (ap (λ (l : List (Option Row)). l ++ Some row ∷ []) so_far
    ∙ (append_assoc old (map some (take at rows)) (Some row ∷ [])
    ∙ ap (λ (l : List (Option Row)). old ++ l)
    (sym (map-append some (take at rows) (row ∷ [])) ∙ ap (map some) (sym (take-got rows at row is)))))

pub length-each_at : (rids : List ℕ) (rows : List Row) → length rids ≡ length rows → length (each_at rids rows) ≡ length rows
length-each_at [] rows same = same
length-each_at (rid ∷ rids) [] same = refl
length-each_at (rid ∷ rids) (row ∷ rows) same = ap suc (length-each_at rids rows (omega (arith, same)))

-- the rows of such a piece alone
pub rows-each_at : (rids : List ℕ) (rows : List Row) → length rids ≡ length rows
    → map (λ (found : ℕ × Option Row). found.1) (each_at rids rows) ≡ map (λ (row : Row). Some row) rows
rows-each_at [] [] same = refl
rows-each_at [] (row ∷ rows) same = absurd (omega (arith, same))
rows-each_at (rid ∷ rids) [] same = absurd (omega (arith, same))
rows-each_at (rid ∷ rids) (row ∷ rows) same =
    ap (λ (l : List (Option Row)). Some row ∷ l) (rows-each_at rids rows (omega (arith, same)))

-- rows, each at its own row number, and one more
pub each_at-push : (rids : List ℕ) (rows : List Row) (rid : ℕ) (row : Row) → length rids ≡ length rows
    → each_at (rids ++ rid ∷ []) (rows ++ row ∷ []) ≡ each_at rids rows ++ (rid, Some row) ∷ []
each_at-push [] [] rid row same = refl
each_at-push [] (r ∷ rows) rid row same = absurd (omega (arith, same))
each_at-push (i ∷ rids) [] rid row same = absurd (omega (arith, same))
each_at-push (i ∷ rids) (r ∷ rows) rid row same =
    ap (λ (l : List (ℕ × Option Row)). (i, Some r) ∷ l) (each_at-push rids rows rid row (omega (arith, same)))

-- so many of them and the next
pub each_at-next : (rids : List ℕ) (rows : List Row) (at rid : ℕ) (row : Row) → length rids ≡ length rows → slice_get rids at ≡ Some rid
    → slice_get rows at ≡ Some row → each_at (take (at + 1) rids) (take (at + 1) rows) ≡ each_at (take at rids) (take at rows) ++ (rid, Some row) ∷ []
each_at-next rids rows at rid row same rid_is row_is =
    let few_rids = length-take at rids in
    let few_rows = length-take at rows in
    ap (λ (l : List ℕ). each_at l (take (at + 1) rows)) (take-got rids at rid rid_is)
    ∙ (ap (λ (l : List Row). each_at (take at rids ++ rid ∷ []) l) (take-got rows at row row_is)
    ∙ each_at-push (take at rids) (take at rows) rid row (few_rids ∙ (ap (λ (n : ℕ). min at n) same ∙ sym few_rows)))

-- a row with its own row number is lent behind others
pub lent-each : (old now new : List (ℕ × Option Row)) (rids : List ℕ) (rows : List Row) (at rid : ℕ) (row : Row) → length rids ≡ length rows
    → slice_get rids at ≡ Some rid → slice_get rows at ≡ Some row → now ≡ old ++ each_at (take at rids) (take at rows)
    → new ≡ now ++ (rid, Some row) ∷ [] → new ≡ old ++ each_at (take (at + 1) rids) (take (at + 1) rows)
lent-each old now new rids rows at rid row same rid_is row_is so_far pushed =
    pushed
    ∙ (ap (λ (l : List (ℕ × Option Row)). l ++ (rid, Some row) ∷ []) so_far
    ∙ (append_assoc old (each_at (take at rids) (take at rows)) ((rid, Some row) ∷ [])
    ∙ ap (λ (l : List (ℕ × Option Row)). old ++ l) (sym (each_at-next rids rows at rid row same rid_is row_is))))

-- ---- rows that are lengthened

-- a row number with its row, or none, lengthened
abbrev pub row_widened : List Value → ℕ × Option Row → ℕ × Option Row
row_widened defaults row = (row.0, option_map (widened defaults) row.1)

pub run_from-widened : (defaults : List Value) (first : ℕ) (rows : List Row)
    → run_from first (map (widened defaults) rows) ≡ all_widened defaults (run_from first rows)
run_from-widened defaults first [] = refl
run_from-widened defaults first (row ∷ rows) =
    ap (λ (l : List (ℕ × Option Row)). (first, Some (widened defaults row)) ∷ l) (run_from-widened defaults (first + 1) rows)

pub each_at-widened : (defaults : List Value) (rids : List ℕ) (rows : List Row)
    → each_at rids (map (widened defaults) rows) ≡ all_widened defaults (each_at rids rows)
each_at-widened defaults [] rows = refl
each_at-widened defaults (rid ∷ rids) [] = refl
each_at-widened defaults (rid ∷ rids) (row ∷ rows) =
    ap (λ (l : List (ℕ × Option Row)). (rid, Some (widened defaults row)) ∷ l) (each_at-widened defaults rids rows)

-- there are as many
pub length-widened : (defaults : List Value) (rows : List (ℕ × Option Row)) → length (all_widened defaults rows) ≡ length rows
length-widened defaults rows = length-map rows (row_widened defaults)

-- and of the same row numbers
pub numbers-widened : (defaults : List Value) (rows : List (ℕ × Option Row))
    → map (λ (found : ℕ × Option Row). found.0) (all_widened defaults rows) ≡ map (λ (found : ℕ × Option Row). found.0) rows
numbers-widened defaults [] = refl
numbers-widened defaults (row ∷ rows) = ap (λ (l : List ℕ). row.0 ∷ l) (numbers-widened defaults rows)

-- the rows alone
pub rows-widened : (defaults : List Value) (rows : List (ℕ × Option Row))
    → map (λ (found : ℕ × Option Row). found.1) (all_widened defaults rows) ≡ map (option_map (widened defaults)) (map (λ (found : ℕ × Option Row). found.1) rows)
rows-widened defaults [] = refl
rows-widened defaults (row ∷ rows) = ap (λ (l : List (Option Row)). option_map (widened defaults) row.1 ∷ l) (rows-widened defaults rows)

-- one behind another
pub append-widened : (defaults : List Value) (rows others : List (ℕ × Option Row))
    → all_widened defaults (rows ++ others) ≡ all_widened defaults rows ++ all_widened defaults others
append-widened defaults rows others = map-append (row_widened defaults) rows others

-- those of a piece, lengthened
abbrev pub piece_widened : List Value → Piece → List (ℕ × Option Row)
piece_widened defaults piece = all_widened defaults (in_piece piece)

-- those of all pieces
pub in_pieces-widened : (defaults : List Value) (pieces : List Piece)
    → all_widened defaults (in_pieces pieces) ≡ flat_map (piece_widened defaults) pieces
in_pieces-widened defaults [] = refl
in_pieces-widened defaults (piece ∷ pieces) =
    append-widened defaults (in_piece piece) (in_pieces pieces) ∙ ap (λ (l : List (ℕ × Option Row)). piece_widened defaults piece ++ l) (in_pieces-widened defaults pieces)

pub length-map-widened : (defaults : List Value) (rids : List ℕ) (rows : List Row) → length rids ≡ length rows
    → length rids ≡ length (map (widened defaults) rows)
length-map-widened defaults rids rows same = same ∙ sym (length-map rows (widened defaults))
