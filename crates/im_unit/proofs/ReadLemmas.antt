-- Rows that are read back from columns.
use Rattle.std.proofs.Common.{refl, drop, ◌≡◌, ◌≢◌, ℕ, zero, suc, ◌+◌, ◌*◌, ◌<◌, ◌≤◌, Bool, true, false, if◌then◌else◌, List, [], ◌∷◌, ◌++◌, length, take, map, get_or, Option, Some, sym, ap, ◌∙◌, append_assoc, arith}
use Rattle.std.specs.Prelude.{nat_lt}
use Rattle.std.proofs.lemmas.List.{get_or-map, length-map, map_more, map_push, length-append, append-nil, drop_all}
use Rattle.std.proofs.Math.Nat.{lt_irrefl}
use Rattle.std.proofs.Math.Seq.{drop-cons}
use Rattle.std.proofs.lemmas.Bool.Decides.{nat_tests}
use Rattle.std.proofs.lemmas.List.FromFn.{map-range_with_len_more}
use Rattle.std.proofs.lemmas.List.Sums.{count_by-le-length, count_by_more_yes, count_by_more_no}
use Rattle.im_values.specs.declared.content.Content.{Content as Value}
use Rattle.im_values.specs.declared.content.Content.TheVariants.{Null}
use Rattle.im_values.specs.Stretches.{cut}
use Rattle.im_values.proofs.ForCallers.{cut-push}
use Rattle.im_history.specs.Rows.{Row}
use Rattle.im_unit.specs.inner.Kept.{HaveLength, Takes, count_set, row_across, rows_across, spread}
use Rattle.im_unit.proofs.KeptLemmas.{set-more}

-- ---- bits

pub flag-set : (n : ℕ) → n ≢ 0 → nat_lt 0 n ≡ true
flag-set n some = grind (arith, nat_tests)

pub flag-clear : (n : ℕ) → n ≡ 0 → nat_lt 0 n ≡ false
flag-clear n none = grind (arith, nat_tests)

-- a bit as a flag
pub at-flags : (codes : List ℕ) (i : ℕ) → i < length codes → get_or (map (nat_lt 0) codes) i false ≡ nat_lt 0 (get_or codes i 0)
at-flags codes i inside = get_or-map (nat_lt 0) codes i 0 false inside

pub count-more : (flags : List Bool) (i : ℕ) (b : Bool) → i < length flags → get_or flags i false ≡ b →
    count_set (take (i + 1) flags) ≡ (if b then count_set (take i flags) + 1 else count_set (take i flags))
count-more flags i true inside e = count_by_more_yes (λ (flag : Bool). flag) flags i false inside e
count-more flags i false inside e = count_by_more_no (λ (flag : Bool). flag) flags i false inside e

-- ---- a row across columns

pub across-more : {A : Type 0} (f : A → List Value) (columns : List A) (i spot : ℕ) (column : A) (value : Value) (before values longer : List Value) →
    i < length columns → column ≡ get_or columns i column → value ≡ get_or (f column) spot Null →
    values ≡ before ++ row_across (map f (take i columns)) spot → longer ≡ values ++ value ∷ [] →
    longer ≡ before ++ row_across (map f (take (i + 1) columns)) spot
across-more f columns i spot column value before values longer inside is at so_far more =
    let g = λ (c : List Value). get_or c spot Null in
    let grown : map f (take (i + 1) columns) ≡ map f (take i columns) ++ f column ∷ [] =
    map_more f columns i column inside ∙ ap (λ c. map f (take i columns) ++ f c ∷ []) (sym is) in
    more
    ∙ (ap (λ (l : List Value). l ++ value ∷ []) so_far
    ∙ (append_assoc before (map g (map f (take i columns))) (value ∷ [])
    ∙ ap (λ (l : List Value). before ++ l)
    (ap (λ (v : Value). map g (map f (take i columns)) ++ v ∷ []) at ∙ (sym (map_push g (map f (take i columns)) (f column)) ∙ ap (map g) (sym grown)))))

-- a column at its number has as many values
pub long-at : {A : Type 0} (f : A → List Value) (columns : List A) (count i : ℕ) (column : A) → HaveLength count (map f columns) → i < length columns →
    column ≡ get_or columns i column → length (f column) ≡ count
long-at f columns count i column long inside is =
    ap length (sym (get_or-map f columns i column (f column) inside ∙ ap f (sym is))) ∙ long i (f column) (omega (arith, length-map columns f, inside))

-- one row more in the block
pub block-more : (columns : List (List Value)) (spot width : ℕ) (values longer : List Value) → length columns ≡ width → length values ≡ spot * width →
    cut spot width values ≡ rows_across columns spot → longer ≡ values ++ row_across columns spot →
    (cut (spot + 1) width longer ≡ rows_across columns (spot + 1)) × (length longer ≡ (spot + 1) * width)
block-more columns spot width values longer wide many so_far more =
    let row : List Value = row_across columns spot in
    let long : length row ≡ width = length-map columns (λ (column : List Value). get_or column spot Null) ∙ wide in
    let next : spot + 1 ≡ suc spot = omega arith in (
      ap (λ (l : List Value). cut (spot + 1) width l) more
          ∙ (ap (λ (n : ℕ). cut n width (values ++ row)) next
          ∙ (cut-push spot width values row many long
          ∙ (ap (λ (l : List Row). l ++ row ∷ []) so_far ∙ sym (map-range_with_len_more (row_across columns) 0 spot spot (omega arith))))),
      ap length more ∙ (length-append values row ∙ grow (length values) (length row) spot width many long),
    )
  where
    grow : (a b spot width : ℕ) → a ≡ spot * width → b ≡ width → a + b ≡ (spot + 1) * width
    grow a b spot width e f = grind arith

-- ---- rows, put where a flag is set

-- one place more has its row, or none
pub spread-more : (flags : List Bool) (place : ℕ) (b : Bool) (rows next later : List Row) (slot : Option Row) (slots longer : List (Option Row)) →
    place < length flags → b ≡ get_or flags place false → Takes b next slot later → longer ≡ slots ++ slot ∷ [] →
    slots ++ spread (drop place flags) next ≡ spread flags rows → longer ++ spread (drop (place + 1) flags) later ≡ spread flags rows
spread-more flags place b rows next later slot slots longer inside is takes more so_far =
    let behind : place + 1 ≡ suc place = omega arith in
    ap (λ (l : List (Option Row)). l ++ spread (drop (place + 1) flags) later) more
    ∙ (append_assoc slots (slot ∷ []) (spread (drop (place + 1) flags) later)
    ∙ (ap (λ (l : List (Option Row)). slots ++ l) (sym (takes.spreads (drop (place + 1) flags)))
    ∙ (ap (λ (l : List Bool). slots ++ spread l next)
    (ap (λ (f : Bool). f ∷ drop (place + 1) flags) is
    ∙ sym (drop-cons flags place false inside ∙ ap (λ (n : ℕ). get_or flags place false ∷ drop n flags) (sym behind)))
    ∙ so_far)))

-- all places have theirs
pub spread-all : (flags : List Bool) (place : ℕ) (rows next : List Row) (slots : List (Option Row)) → length flags ≤ place →
    slots ++ spread (drop place flags) next ≡ spread flags rows → slots ≡ spread flags rows
spread-all flags place rows next slots past so_far =
    sym (append-nil slots) ∙ (ap (λ (l : List Bool). slots ++ spread l next) (sym (drop_all place flags past)) ∙ so_far)

-- ---- every flag is set

pub full-at : (flags : List Bool) (i : ℕ) → count_set flags ≡ length flags → i < length flags → true ≡ get_or flags i false
full-at [] i all inside = elim inside [ ]
full-at (true ∷ flags) zero all inside = refl
full-at (true ∷ flags) (suc i) all inside = full-at flags i (omega (arith, all, set-more flags)) (omega (arith, inside))
full-at (false ∷ flags) i all inside = absurd (lt_irrefl (length flags) (omega (arith, all, count_by-le-length (λ (flag : Bool). flag) flags)))

pub full-before : (flags : List Bool) (i : ℕ) → count_set flags ≡ length flags → i ≤ length flags → i ≡ count_set (take i flags)
full-before flags zero all inside = refl
full-before [] (suc i) all inside = elim inside [ ]
full-before (true ∷ flags) (suc i) all inside =
    omega (arith, full-before flags i (omega (arith, all, set-more flags)) (omega (arith, inside)), set-more (take i flags))
full-before (false ∷ flags) (suc i) all inside = absurd (lt_irrefl (length flags) (omega (arith, all, count_by-le-length (λ (flag : Bool). flag) flags)))

pub spread-full : (flags : List Bool) (rows : List Row) → count_set flags ≡ length flags → length rows ≡ count_set flags → map Some rows ≡ spread flags rows
spread-full [] [] all many = refl
spread-full [] (row ∷ rows) all many = absurd (omega (arith, many))
spread-full (true ∷ flags) [] all many = absurd (omega (arith, many, set-more flags))
spread-full (true ∷ flags) (row ∷ rows) all many =
    ap (λ (l : List (Option Row)). Some row ∷ l) (spread-full flags rows (omega (arith, all, set-more flags)) (omega (arith, many, set-more flags)))
spread-full (false ∷ flags) rows all many = absurd (lt_irrefl (length flags) (omega (arith, all, count_by-le-length (λ (flag : Bool). flag) flags)))

-- ---- bits that are counted

pub bits-more : (codes : List ℕ) (i count : ℕ) → i < length codes → count ≡ count_set (take i (map (nat_lt 0) codes)) → (b : Bool) →
    nat_lt 0 (get_or codes i 0) ≡ b → (if b then count + 1 else count) ≡ count_set (take (i + 1) (map (nat_lt 0) codes))
bits-more codes i count inside so_far b is =
    by b so_far ∙ sym (count-more (map (nat_lt 0) codes) i b (omega (arith, length-map codes (nat_lt 0), inside)) (at-flags codes i inside ∙ is))
  where
    flags : List Bool
    flags = take i (map (nat_lt 0) codes)

    by : (b : Bool) → count ≡ count_set flags → (if b then count + 1 else count) ≡ (if b then count_set flags + 1 else count_set flags)
    by true e = ap (λ (n : ℕ). n + 1) e
    by false e = e
