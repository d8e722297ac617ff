-- A unit that is built of rows.
use Rattle.std.proofs.Common.{◌≡◌, ℕ, ◌+◌, ◌*◌, ◌^◌, ◌<◌, ◌≤◌, List, [], ◌∷◌, ◌++◌, length, take, map, get_or, Option, Some, None, refl, sym, ap, ◌∙◌, arith}
use Rattle.std.specs.Prelude.{sum_by}
use Rattle.std.specs.List.{All, range_with_len, slice_get}
use Rattle.std.specs.Option.{option_map}
use Rattle.std.proofs.lemmas.List.{get_or-map, length-map, map_more, map_push, take_more}
use Rattle.std.proofs.lemmas.List.Elements.{filter_map-append}
use Rattle.std.proofs.lemmas.List.FromFn.{map-range_with_len_more}
use Rattle.std.proofs.lemmas.List.Sums.{sum_by-le, sum_by_push}
use Rattle.std.proofs.lemmas.Option.{slice_get-get_or, slice_get_within}
use denote.Ref.{Bor}
use Rattle.im_values.specs.declared.content.Content.{Content as Value}
use Rattle.im_values.specs.declared.content.Content.TheVariants.{Null}
use Rattle.im_values.specs.Sizes.{value_bytes, plain_bytes, column_bytes}
use Rattle.im_values.specs.Widened.{widened}
use Rattle.im_values.proofs.WideLaws.{widened-long}
use Rattle.im_column.specs.Forms.{IsShort}
use Rattle.im_history.specs.Rows.{Row}
use Rattle.im_unit.specs.Holding.{present_rows, values_in}
use Rattle.im_unit.specs.inner.Kept.{AreRows, AreBounded, lent, lent_values, lent_wide}
use Rattle.im_unit.proofs.KeptLemmas.{length-columns, at-columns}

-- one row more, where it is present
pub present-more : (rows : List (Option Row)) (i : ℕ) (row : Option Row) (present longer : List Row) → i < length rows → row ≡ get_or rows i row →
    present ≡ present_rows (take i rows) → longer ≡ present ++ present_rows (row ∷ []) → longer ≡ present_rows (take (i + 1) rows)
present-more rows i row present longer inside is so_far more =
    more
    ∙ (ap (λ (l : List Row). l ++ present_rows (row ∷ [])) so_far
    ∙ (sym (filter_map-append (λ (r : Option Row). r) (take i rows) (row ∷ []))
    ∙ ap present_rows (ap (λ (r : Option Row). take i rows ++ r ∷ []) is ∙ sym (take_more rows i row inside))))

-- the row that is lent at a place
at-lent : (defaults : Row) (rows : List (Bor Row)) (i : ℕ) (row : Bor Row) (d : Row) → i < length rows → row ≡ get_or rows i row →
    get_or (lent_wide defaults rows) i d ≡ widened defaults row.now
at-lent defaults rows i row d inside is =
    get_or-map (λ (r : Bor Row). widened defaults r.now) rows i row d inside ∙ ap (λ (r : Bor Row). widened defaults r.now) (sym is)

pub wide-at : (width : ℕ) (defaults : Row) (rows : List (Bor Row)) (i : ℕ) (row : Bor Row) → AreRows width (lent_wide defaults rows) → i < length rows →
    row ≡ get_or rows i row → length (widened defaults row.now) ≡ width
wide-at width defaults rows i row are inside is =
    ap length (sym (at-lent defaults rows i row [] inside is))
    ∙ are.wide i [] (omega (arith, length-map rows (λ (r : Bor Row). widened defaults r.now), inside))

-- rows that are lent, lengthened
lent-widened : (defaults : Row) (rows : List (Bor Row)) → lent_wide defaults rows ≡ map (widened defaults) (lent rows)
lent-widened defaults [] = refl
lent-widened defaults (row ∷ rows) = ap (λ (l : List Row). widened defaults row.now ∷ l) (lent-widened defaults rows)

-- those that are present are lengthened as all are
present-widened : (defaults : Row) (slots : List (Option Row)) → map (widened defaults) (present_rows slots) ≡ present_rows (map (option_map (widened defaults)) slots)
present-widened defaults [] = refl
present-widened defaults (None ∷ slots) = present-widened defaults slots
present-widened defaults (Some row ∷ slots) = ap (λ (l : List Row). widened defaults row ∷ l) (present-widened defaults slots)

pub lent-present : (defaults : Row) (present : List (Bor Row)) (slots : List (Option Row)) → lent present ≡ present_rows slots →
    lent_wide defaults present ≡ present_rows (map (option_map (widened defaults)) slots)
lent-present defaults present slots are = lent-widened defaults present ∙ (ap (map (widened defaults)) are ∙ present-widened defaults slots)

-- without defaults they stay as they are
pub slots-alone : (slots : List (Option Row)) → map (option_map (widened [])) slots ≡ slots
slots-alone [] = refl
slots-alone (None ∷ slots) = ap (λ (l : List (Option Row)). None ∷ l) (slots-alone slots)
slots-alone (Some row ∷ slots) =
    ap (λ (r : Row). Some r ∷ map (option_map (widened [])) slots) (widened-long [] row (omega arith))
    ∙ ap (λ (l : List (Option Row)). Some row ∷ l) (slots-alone slots)

-- the value of one row more
pub values-more : (rows : List Row) (i column : ℕ) (row : Row) (value : Bor Value) (values longer : List (Bor Value)) → i < length rows →
    row ≡ get_or rows i row → slice_get row column ≡ Some value.now → lent_values values ≡ values_in column (take i rows) →
    longer ≡ values ++ value ∷ [] → lent_values longer ≡ values_in column (take (i + 1) rows)
values-more rows i column row value values longer inside is got so_far more =
    let there = slice_get-get_or row column Null (slice_get_within row column value.now got) in
    let both : Some value.now ≡ Some (get_or row column Null) = sym got ∙ there in
    let same : value.now ≡ get_or row column Null = cc in
    ap lent_values more
    ∙ (map_push (λ (v : Bor Value). v.now) values value
    ∙ (ap (λ (l : List Value). l ++ value.now ∷ []) so_far
    ∙ (ap (λ (v : Value). values_in column (take i rows) ++ v ∷ []) same
    ∙ sym (map_more (λ (r : Row). get_or r column Null) rows i row inside
    ∙ ap (λ (r : Row). values_in column (take i rows) ++ get_or r column Null ∷ []) (sym is)))))

-- the values of short rows are short
pub short-in : (width : ℕ) (rows : List Row) (column : ℕ) → AreRows width rows → column < width → All IsShort (values_in column rows)
short-in width rows column are inside k d within =
    let below : k < length rows = omega (arith, length-map rows (λ (row : Row). get_or row column Null), within) in
    let at = get_or-map (λ (row : Row). get_or row column Null) rows k [] d below in
    rw at (are.short k [] below column Null (omega (arith, are.wide k [] below, inside)))

pub few-in : (width : ℕ) (rows : List Row) (column : ℕ) → AreRows width rows → length (values_in column rows) < 2 ^ 31
few-in width rows column are = let few = are.few in omega (arith, length-map rows (λ (row : Row). get_or row column Null), few)

-- one more of a list that is made from a function of the place
pub mapped-more : {A B : Type 0} (f : A → B) (g : ℕ → B) (xs longer : List A) (i : ℕ) (x : A) → longer ≡ xs ++ x ∷ [] → map f xs ≡ map g (range_with_len 0 i) →
    f x ≡ g i → map f longer ≡ map g (range_with_len 0 (i + 1))
mapped-more f g xs longer i x more so_far is =
    ap (map f) more
    ∙ (map_push f xs x
    ∙ (ap (λ l. l ++ f x ∷ []) so_far ∙ (ap (λ y. map g (range_with_len 0 i) ++ y ∷ []) is ∙ sym (map-range_with_len_more g 0 i i (omega arith)))))

-- ---- bytes

plain-few : (values : List Value) → All IsShort values → plain_bytes values ≤ length values * 65538
unfolding plain_bytes
plain-few values short = sum_by-le value_bytes 65538 values short

column-few : (values : List Value) → All IsShort values → length values < 2 ^ 31 → column_bytes values < 2 ^ 49
column-few values short few =
    let plain = plain-few values short in
    omega (arith, plain, few)

pub bounded : (width : ℕ) (rows : List Row) → AreRows width rows → AreBounded (map (λ column. values_in column rows) (range_with_len 0 width))
bounded width rows are k d inside =
    let below : k < width = omega (arith, length-columns width rows, inside) in
    rw (at-columns width rows k d below) (column-few (values_in k rows) (short-in width rows k are below) (few-in width rows k are))

-- one column more
pub bytes-more : {A : Type 0} (f : A → List Value) (columns : List A) (i : ℕ) (column : A) (bytes more : ℕ) → i < length columns →
    column ≡ get_or columns i column →
    bytes ≡ sum_by column_bytes (map f (take i columns)) → more ≡ column_bytes (f column) → bytes + more ≡ sum_by column_bytes (map f (take (i + 1) columns))
bytes-more f columns i column bytes more inside is so_far one =
    let grown : map f (take (i + 1) columns) ≡ map f (take i columns) ++ f column ∷ [] =
    map_more f columns i column inside ∙ ap (λ c. map f (take i columns) ++ f c ∷ []) (sym is) in
    ap (λ (n : ℕ). bytes + n) one
    ∙ (ap (λ (n : ℕ). n + column_bytes (f column)) so_far
    ∙ (sym (sum_by_push column_bytes (map f (take i columns)) (f column)) ∙ ap (sum_by column_bytes) (sym grown)))

-- none counts for too much
pub bounded-at : {A : Type 0} (f : A → List Value) (columns : List A) (i : ℕ) (column : A) (more : ℕ) → AreBounded (map f columns) → i < length columns →
    column ≡ get_or columns i column → more ≡ column_bytes (f column) → more < 2 ^ 49
bounded-at f columns i column more are inside is one =
    let at : get_or (map f columns) i (f column) ≡ f column = get_or-map f columns i column (f column) inside ∙ ap f (sym is) in
    let most = are i (f column) (omega (arith, length-map columns f, inside)) in
    rw one (rw at at most)
