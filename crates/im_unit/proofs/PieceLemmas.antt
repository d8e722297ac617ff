-- Columns that lend their values 64 places at a time.
use Rattle.std.proofs.Common.{◌≡◌, ◌≢◌, ℕ, zero, suc, ◌+◌, ◌*◌, ◌-◌, ◌<◌, ◌≤◌, List, [], ◌∷◌, ◌++◌, length, map, set, get_or, min, Option, Some, refl, sym, ap, ◌∙◌, ⊎_elim, append_assoc, arith}
use Rattle.std.proofs.lemmas.Bool.{cases_lt}
use Rattle.std.proofs.lemmas.List.{ext_get_or, get_or-map, get_or-set_same, get_or-set_other, length-map, append-nil, map-append}
use Rattle.std.proofs.lemmas.List.FromFn.{get_or-map-range_with_len, length-map-range_with_len, map-range_with_len_more}
use denote.Ref.{Bor}
use Rattle.im_values.specs.declared.content.Content.{Content as Value}
use Rattle.im_values.specs.declared.content.Content.TheVariants.{Null}
use Rattle.im_column.specs.Forms.{AreLent}
use Rattle.im_history.specs.Rows.{Row}
use Rattle.im_unit.specs.inner.Kept.{IsPiece, lent_values, row_across, rows_across, rows_from}

-- the column at a place
pub column-at : {A : Type 0} (f : A → List Value) (columns : List A) (i : ℕ) (column : A) → i < length columns → column ≡ get_or columns i column →
    get_or (map f columns) i [] ≡ f column
column-at f columns i column inside is = get_or-map f columns i column [] inside ∙ ap f (sym is)

-- one column more has lent its values
pub lends-more : (columns : List (List Value)) (first : ℕ) (piece : List (List (Bor Value))) (i : ℕ) (out : List (Bor Value)) → i < length piece →
    AreLent (λ k. get_or (get_or columns i []) (first + k) Null) 64 (lent_values out) →
    ((j : ℕ) → j < i → AreLent (λ k. get_or (get_or columns j []) (first + k) Null) 64 (lent_values (get_or piece j []))) →
    (j : ℕ) → j < i + 1 → AreLent (λ k. get_or (get_or columns j []) (first + k) Null) 64 (lent_values (get_or (set piece i out) j []))
lends-more columns first piece i out inside is before j below k within =
    ⊎_elim
    (λ (under : j < i). let ne : j ≢ i = omega arith in
    ap (λ (l : List (Bor Value)). get_or (lent_values l) k Null) (get_or-set_other piece i j out [] ne) ∙ before j under k within)
    (λ (at : i ≤ j). let e : j ≡ i = omega arith in
    ap (λ n. get_or (lent_values (get_or (set piece i out) n [])) k Null) e
    ∙ (ap (λ (l : List (Bor Value)). get_or (lent_values l) k Null) (get_or-set_same piece i out [] inside)
    ∙ (is k within ∙ ap (λ n. get_or (get_or columns n []) (first + k) Null) (sym e))))
    (cases_lt j i)

-- a row across what columns lend is a row across them
lent-row : (columns : List (List Value)) (first : ℕ) (piece : List (List (Bor Value))) (k : ℕ) → IsPiece columns first piece → k < 64 →
    row_across (map lent_values piece) k ≡ row_across columns (first + k)
lent-row columns first piece k is within =
    let at_k = λ (column : List Value). get_or column k Null in
    let at_place = λ (column : List Value). get_or column (first + k) Null in
    let long : length (row_across (map lent_values piece) k) ≡ length piece =
    length-map (map lent_values piece) at_k ∙ length-map piece lent_values in
    let wide : length (row_across columns (first + k)) ≡ length columns = length-map columns at_place in
    ext_get_or Null (row_across (map lent_values piece) k) (row_across columns (first + k)) (omega (arith, long, wide, is.many))
    (λ i inside.
    let under : i < length piece = omega (arith, long, inside) in
    let below : i < length columns = omega (arith, under, is.many) in
    get_or-map at_k (map lent_values piece) i [] Null (omega (arith, under, length-map piece lent_values))
    ∙ (ap at_k (get_or-map lent_values piece i [] [] under) ∙ (is.lends i below k within ∙ sym (get_or-map at_place columns i [] Null below))))

-- rows across what columns lend are rows across them
pub lent-rows : (columns : List (List Value)) (first count : ℕ) (piece : List (List (Bor Value))) → IsPiece columns first piece → count ≤ 64 →
    rows_across (map lent_values piece) count ≡ rows_from columns first count
lent-rows columns first count piece is most =
    let read = row_across (map lent_values piece) in
    let kept = row_across columns in
    let long = length-map-range_with_len read 0 count in
    ext_get_or [] (rows_across (map lent_values piece) count) (rows_from columns first count) (long ∙ sym (length-map-range_with_len kept first count))
    (λ i inside.
    let under : i < count = omega (arith, long, inside) in
    get_or-map-range_with_len read 0 count i i [] under (omega arith)
    ∙ (lent-row columns first piece i is (omega arith) ∙ sym (get_or-map-range_with_len kept first count i (first + i) [] under refl)))

-- rows from a place on come behind those before it
pub rows-behind : (columns : List (List Value)) (first count : ℕ) →
    rows_across columns first ++ rows_from columns first count ≡ rows_across columns (first + count)
rows-behind columns first zero = append-nil (rows_across columns first) ∙ ap (rows_across columns) (omega arith)
rows-behind columns first (suc count) =
    let f = row_across columns in
    let more : suc count ≡ count + 1 = omega arith in
    let next : first + count + 1 ≡ first + suc count = omega arith in
    ap (λ n. rows_across columns first ++ rows_from columns first n) more
    ∙ (ap (λ (l : List Row). rows_across columns first ++ l) (map-range_with_len_more f first count (first + count) refl)
    ∙ (sym (append_assoc (rows_across columns first) (rows_from columns first count) (f (first + count) ∷ []))
    ∙ (ap (λ (l : List Row). l ++ f (first + count) ∷ []) (rows-behind columns first count)
    ∙ (sym (map-range_with_len_more f 0 (first + count) (first + count) (omega arith)) ∙ ap (rows_across columns) next))))

-- a piece more of all rows
pub piece-more : (columns : List (List Value)) (i count first many : ℕ) (so_far rows : List Row) → i * 64 < count → first ≡ i * 64 →
    many ≡ min 64 (count - first) →
    so_far ≡ rows_across columns (min (i * 64) count) → rows ≡ rows_from columns first many → so_far ++ rows ≡ rows_across columns (min ((i + 1) * 64) count)
piece-more columns i count first many so_far rows inside is_first is_many before is =
    let done : min (i * 64) count ≡ first = omega (arith, inside, is_first) in
    let now : first + many ≡ min ((i + 1) * 64) count = omega (arith, inside, is_first, is_many) in
    ap (λ (l : List Row). l ++ rows) (before ∙ ap (rows_across columns) done)
    ∙ (ap (λ (l : List Row). rows_across columns first ++ l) is ∙ (rows-behind columns first many ∙ ap (rows_across columns) now))

pub slots-more : (columns : List (List Value)) (i count first many : ℕ) (so_far longer : List (Option Row)) (rows : List Row) → i * 64 < count →
    first ≡ i * 64 → many ≡ min 64 (count - first) → so_far ≡ map Some (rows_across columns (min (i * 64) count)) → rows ≡ rows_from columns first many →
    longer ≡ so_far ++ map Some rows → longer ≡ map Some (rows_across columns (min ((i + 1) * 64) count))
slots-more columns i count first many so_far longer rows inside is_first is_many before is more =
    more
    ∙ (ap (λ (l : List (Option Row)). l ++ map Some rows) before
    ∙ (sym (map-append Some (rows_across columns (min (i * 64) count)) rows)
    ∙ ap (map Some) (piece-more columns i count first many (rows_across columns (min (i * 64) count)) rows inside is_first is_many refl is)))

-- one row more is put
pub put-more : (before slots longer : List (Option Row)) (row : Row) (next later rows : List Row) → next ≡ row ∷ later → longer ≡ slots ++ Some row ∷ [] →
    slots ++ map Some next ≡ before ++ map Some rows → longer ++ map Some later ≡ before ++ map Some rows
put-more before slots longer row next later rows is more so_far =
    ap (λ (l : List (Option Row)). l ++ map Some later) more
    ∙ (append_assoc slots (Some row ∷ []) (map Some later) ∙ (ap (λ (l : List Row). slots ++ map Some l) (sym is) ∙ so_far))
