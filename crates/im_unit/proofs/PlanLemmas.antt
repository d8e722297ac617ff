-- Where the rows of a unit that is built anew come from.
use Rattle.std.proofs.Common.{◌≡◌, ℕ, zero, suc, ◌+◌, ◌-◌, ◌^◌, ◌<◌, ◌≤◌, Bool, true, false, if◌then◌else◌, List, [], ◌∷◌, ◌++◌, length, filter, take, map, set, get_or, Option, Some, None, refl, sym, ap, ◌∙◌, subst, arith}
use Rattle.std.specs.Prelude.{is_some, cond}
use Rattle.std.specs.List.{All, AllByRecursion, range_with_len}
use Rattle.std.specs.Option.{ForSome}
use Rattle.std.proofs.lemmas.List.{ext_get_or, get_or_append_left, get_or-append-add, get_or-map, length-append, length-map, map-append, length_push, map-set, map_push, take_more}
use Rattle.std.proofs.lemmas.List.FromFn.{get_or-map-range_with_len, length-map-range_with_len}
use Rattle.std.proofs.lemmas.List.Elements.{All-from_recursion, All-nil, All-push, All-set, filter_map-append, filter_more, recursion_from_All}
use mir.Val.{bool_byte}
use Rattle.im_values.specs.declared.content.Content.{Content as Value}
use Rattle.im_values.specs.declared.content.Content.TheVariants.{Null}
use Rattle.im_column.specs.Forms.{IsShort}
use Rattle.im_column.specs.Picks.{values_picked}
use Rattle.im_history.specs.Rows.{Row}
use Rattle.im_unit.specs.Holding.{AreShort, HaveWidth, count_present, present_rows, values_in}
use Rattle.im_unit.specs.Rebuilt.{RiseWithin, fetched_rows, rows_with}
use Rattle.im_unit.specs.inner.Kept.{AreRows}
use Rattle.im_unit.specs.inner.Planned.{IsSlotFor, Planned, columns_picked, places_in, row_in, rows_picked, stock}
use Rattle.im_unit.proofs.BuildLemmas.{present-more, short-in}
use Rattle.im_unit.proofs.ForCallers as callers
use Rattle.im_unit.proofs.KeptLemmas.{are-rows, at-columns, few-present, length-columns}
use Rattle.im_unit.proofs.RebuiltLemmas.{each-with, length-with, rise-at, with-more}

-- ---- slots

-- the rows that are present stand in a stock from a place on
pub record StandsFrom (stock : List Row) (begin : ℕ) (rows : List (Option Row)) : Type 0 where
  pub at : (k : ℕ) → k < count_present rows → get_or stock (begin + k) [] ≡ get_or (present_rows rows) k []
  pub within : begin + count_present rows ≤ length stock

pub stands-first : (rows : List (Option Row)) (more : List Row) → StandsFrom (present_rows rows ++ more) 0 rows
stands-first rows more = record {
  at = λ k inside.
      let same : 0 + k ≡ k = omega arith in
      ap (λ n. get_or (present_rows rows ++ more) n []) same
      ∙ get_or_append_left (present_rows rows) more [] k (omega (arith, callers.count-present rows, inside));
  within = omega (arith, callers.count-present rows, length-append (present_rows rows) more);
}

pub stands-behind : (front : List Row) (rows : List (Option Row)) → StandsFrom (front ++ present_rows rows) (length front) rows
stands-behind front rows = record {
  at = λ k inside. get_or-append-add front (present_rows rows) k [];
  within = omega (arith, callers.count-present rows, length-append front (present_rows rows));
}

-- the slot of a row
pub slot-for : (from : List Row) (begin : ℕ) (rows : List (Option Row)) (i place : ℕ) (b : Bool) (slot : Option ℕ) → StandsFrom from begin rows →
    b ≡ is_some (get_or rows i None) → place ≡ begin + count_present (take i rows) → slot ≡ (if b then Some place else None) →
    IsSlotFor from slot (get_or rows i None)
slot-for from begin rows i place b slot stands is_there is_place is_slot = by (get_or rows i None) refl
  where
    by : (row : Option Row) → get_or rows i None ≡ row → IsSlotFor from slot row
    by None e =
        let none : slot ≡ None = is_slot ∙ ap (λ c. if c then Some place else None) (is_there ∙ ap is_some e) in
        record { same = ap (row_in from) none; inside = λ p is. absurd (let no : Some p ≡ None = sym is ∙ none in cc) }
    by (Some row) e =
        let some : slot ≡ Some place = is_slot ∙ ap (λ c. if c then Some place else None) (is_there ∙ ap is_some e) in
        let at = callers.present-at rows i row e in
        let found : get_or from place [] ≡ row =
        ap (λ n. get_or from n []) is_place ∙ (stands.at (count_present (take i rows)) at.0 ∙ at.1) in
        record {
          same = ap (row_in from) some ∙ ap Some found;
          inside = λ p is.
              let same : p ≡ place = cc in
              omega (arith, same, is_place, at.0, stands.within);
        }

-- how many are present with one row more
pub count-next : (rows : List (Option Row)) (i : ℕ) (b : Bool) → i < length rows → b ≡ is_some (get_or rows i None) →
    count_present (take (i + 1) rows) ≡ count_present (take i rows) + cond b 1 0
count-next rows i b inside is =
    ap length (filter_more is_some rows i None inside)
    ∙ (by (is_some (get_or rows i None)) ∙ ap (λ c. count_present (take i rows) + cond c 1 0) (sym is))
  where
    front : List (Option Row)
    front = filter is_some (take i rows)

    by : (c : Bool) → length (front ++ cond c (get_or rows i None ∷ []) []) ≡ length front + cond c 1 0
    by true = length_push front (get_or rows i None)
    by false = omega (arith, length-append {A = Option Row} front [])

-- ---- slots for rows

pub planned-none : (from : List Row) (rows : List (Option Row)) → Planned from [] (take 0 rows)
planned-none from rows = record { same = refl; inside = All-nil (λ (slot : Option ℕ). ForSome slot (λ place. place < length from)) }

pub planned-push : (from : List Row) (slots longer : List (Option ℕ)) (rows : List (Option Row)) (i : ℕ) (slot : Option ℕ) → i < length rows →
    Planned from slots (take i rows) → IsSlotFor from slot (get_or rows i None) → longer ≡ slots ++ slot ∷ [] → Planned from longer (take (i + 1) rows)
planned-push from slots longer rows i slot inside before is more =
    subst (λ (l : List (Option ℕ)). Planned from l (take (i + 1) rows)) (sym more) record {
      same = map_push (row_in from) slots slot
          ∙ (ap (λ (l : List (Option Row)). l ++ row_in from slot ∷ []) before.same
          ∙ (ap (λ (r : Option Row). take i rows ++ r ∷ []) is.same ∙ sym (take_more rows i None inside)));
      inside = All-push (λ (s : Option ℕ). ForSome s (λ place. place < length from)) slots slot before.inside is.inside;
    }

pub planned-set : (from : List Row) (slots : List (Option ℕ)) (rows new : List (Option Row)) (k : ℕ) (slot : Option ℕ) (row : Option Row) →
    Planned from slots rows → IsSlotFor from slot row → set rows k row ≡ new → Planned from (set slots k slot) new
planned-set from slots rows new k slot row before is more = record {
  same = map-set (row_in from) slots k slot
      ∙ (ap (λ (l : List (Option Row)). set l k (row_in from slot)) before.same ∙ (ap (set rows k) is.same ∙ more));
  inside = All-set (λ (s : Option ℕ). ForSome s (λ place. place < length from)) slots k slot is.inside before.inside;
}

-- as many slots as rows
pub planned-long : (from : List Row) (slots : List (Option ℕ)) (rows : List (Option Row)) → Planned from slots rows → length slots ≡ length rows
planned-long from slots rows planned = sym (length-map slots (row_in from)) ∙ ap length planned.same

-- ---- what is built of them

flags-in : (from : List Row) (slots : List (Option ℕ)) → map is_some (map (row_in from) slots) ≡ map is_some slots
flags-in from [] = refl
flags-in from (None ∷ slots) = ap (λ (l : List Bool). false ∷ l) (flags-in from slots)
flags-in from (Some place ∷ slots) = ap (λ (l : List Bool). true ∷ l) (flags-in from slots)

present-in : (from : List Row) (slots : List (Option ℕ)) → present_rows (map (row_in from) slots) ≡ rows_picked from (places_in slots)
present-in from [] = refl
present-in from (None ∷ slots) = present-in from slots
present-in from (Some place ∷ slots) = ap (λ (l : List Row). get_or from place [] ∷ l) (present-in from slots)

places-inside : (n : ℕ) (slots : List (Option ℕ)) → AllByRecursion (λ (slot : Option ℕ). ForSome slot (λ place. place < n)) slots →
    AllByRecursion (λ (place : ℕ). place < n) (places_in slots)
places-inside n [] all = tt
places-inside n (None ∷ slots) all = places-inside n slots all.1
places-inside n (Some place ∷ slots) all = (all.0 place refl, places-inside n slots all.1)

-- the value of a row that was picked
picked-value : (column : ℕ) (rows : List Row) (place : ℕ) → get_or (values_in column rows) place Null ≡ get_or (get_or rows place []) column Null
picked-value column [] place = refl
picked-value column (row ∷ rows) zero = refl
picked-value column (row ∷ rows) (suc place) = picked-value column rows place

picked-values : (column : ℕ) (rows : List Row) (places : List ℕ) →
    map (λ place. get_or (values_in column rows) place Null) places ≡ values_in column (rows_picked rows places)
picked-values column rows [] = refl
picked-values column rows (place ∷ places) = λ i. picked-value column rows place i ∷ picked-values column rows places i

column-picked : (column : ℕ) (olds fresh : List Row) (places : List ℕ) →
    values_picked (values_in column olds) (values_in column fresh) places ≡ values_in column (rows_picked (olds ++ fresh) places)
column-picked column olds fresh places =
    ap (λ (l : List Value). map (λ place. get_or l place Null) places) (sym (map-append (λ (row : Row). get_or row column Null) olds fresh))
    ∙ picked-values column (olds ++ fresh) places

columns-picked : (width : ℕ) (olds fresh : List Row) (places : List ℕ) →
    columns_picked (map (λ column. values_in column olds) (range_with_len 0 width)) fresh places ≡
    map (λ column. values_in column (rows_picked (olds ++ fresh) places)) (range_with_len 0 width)
columns-picked width olds fresh places =
    ext_get_or [] (columns_picked old fresh places) (map new (range_with_len 0 width)) (long ∙ sym (length-map-range_with_len new 0 width))
    (λ j inside.
    let below : j < width = omega (arith, long, inside) in
    get_or-map-range_with_len pick 0 (length old) j j [] (omega (arith, length-columns width olds, below)) (omega arith)
    ∙ (ap (λ (l : List Value). values_picked l (values_in j fresh) places) (at-columns width olds j [] below)
    ∙ (column-picked j olds fresh places ∙ sym (get_or-map-range_with_len new 0 width j j [] below (omega arith)))))
  where
    old : List (List Value)
    old = map (λ column. values_in column olds) (range_with_len 0 width)

    pick : ℕ → List Value
    pick column = values_picked (get_or old column []) (values_in column fresh) places

    new : ℕ → List Value
    new column = values_in column (rows_picked (olds ++ fresh) places)

    long : length (columns_picked old fresh places) ≡ width
    long = length-map-range_with_len pick 0 (length old) ∙ length-columns width olds

-- what a unit is built anew of
pub record IsAgain (width first : ℕ) (rows : List (Option Row)) (fetched : List (ℕ × Option Row)) (slots : List (Option ℕ)) : Type 0 where
  pub flags : map is_some slots ≡ map is_some (rows_with fetched first rows)
  pub columns : columns_picked (map (λ column. values_in column (present_rows rows)) (range_with_len 0 width)) (present_rows (fetched_rows fetched))
      (places_in slots) ≡ map (λ column. values_in column (present_rows (rows_with fetched first rows))) (range_with_len 0 width)
  pub places : All (λ place. place < length (present_rows rows) + length (present_rows (fetched_rows fetched))) (places_in slots)
  pub few : length (places_in slots) < 2 ^ 31
  pub wide : HaveWidth width (rows_with fetched first rows)
  pub short : AreShort (rows_with fetched first rows)
  pub are : AreRows width (present_rows (rows_with fetched first rows))

pub again : (width first : ℕ) (rows : List (Option Row)) (fetched : List (ℕ × Option Row)) (slots : List (Option ℕ)) →
    Planned (stock rows fetched) slots (rows_with fetched first rows) → HaveWidth width rows → HaveWidth width (fetched_rows fetched) → AreShort rows →
    AreShort (fetched_rows fetched) → length rows < 2 ^ 31 → IsAgain width first rows fetched slots
again width first rows fetched slots planned wide wide_fetched short short_fetched few = record {
  flags = sym (flags-in from slots) ∙ ap (map is_some) planned.same;
  columns = columns-picked width (present_rows rows) (present_rows (fetched_rows fetched)) (places_in slots)
      ∙ ap (λ (l : List Row). map (λ column. values_in column l) (range_with_len 0 width)) (sym present);
  places = λ k d inside. omega (arith, inside_all k d inside, length-append (present_rows rows) (present_rows (fetched_rows fetched)));
  few = omega (arith, few_new, ap length present, length-map (places_in slots) (λ place. get_or from place []), few-present new);
  wide = all_wide;
  short = all_short;
  are = are-rows width new all_wide all_short few_new;
}
  where
    from : List Row
    from = stock rows fetched

    new : List (Option Row)
    new = rows_with fetched first rows

    few_new : length new < 2 ^ 31
    few_new = omega (arith, few, length-with fetched first rows)

    present : present_rows new ≡ rows_picked from (places_in slots)
    present = ap present_rows (sym planned.same) ∙ present-in from slots

    inside_all : All (λ (place : ℕ). place < length from) (places_in slots)
    inside_all =
        All-from_recursion (λ (place : ℕ). place < length from) (places_in slots)
        (places-inside (length from) slots (recursion_from_All (λ (slot : Option ℕ). ForSome slot (λ place. place < length from)) slots planned.inside))

    each : (P : Row → Type 0) → AllByRecursion (λ row. ForSome row P) rows → AllByRecursion (λ row. ForSome row P) (fetched_rows fetched) →
        AllByRecursion (λ row. ForSome row P) new
    each P old fresh =
        let Q : Option Row → Type 0 = λ row. ForSome row P in
        recursion_from_All Q new (each-with Q fetched first rows (All-from_recursion Q rows old) (All-from_recursion Q (fetched_rows fetched) fresh))

    all_wide : HaveWidth width new
    all_wide = each (λ values. length values ≡ width) wide wide_fetched

    all_short : AreShort new
    all_short = each (λ values. All IsShort values) short short_fetched

-- ---- what was fetched

abbrev Found : Type 0
Found = ℕ × Option Row

pub length-rows : (fetched : List Found) → length (fetched_rows fetched) ≡ length fetched
length-rows fetched = length-map fetched (λ (found : Found). found.1)

row-at : (fetched : List Found) (i : ℕ) (found : Found) (d : Option Row) → i < length fetched → found ≡ get_or fetched i found →
    get_or (fetched_rows fetched) i d ≡ found.1
row-at fetched i found d inside is = get_or-map (λ (one : Found). one.1) fetched i found d inside ∙ ap (λ (one : Found). one.1) (sym is)

-- one more, where a row is there
pub present-found : (fetched : List Found) (i : ℕ) (found : Found) (present longer : List Row) → i < length fetched → found ≡ get_or fetched i found →
    present ≡ present_rows (take i (fetched_rows fetched)) → longer ≡ present ++ present_rows (found.1 ∷ []) →
    longer ≡ present_rows (take (i + 1) (fetched_rows fetched))
present-found fetched i found present longer inside is so_far more =
    present-more (fetched_rows fetched) i found.1 present longer (omega (arith, length-rows fetched, inside)) (sym (row-at fetched i found found.1 inside is)) so_far
    more

-- whether a row was fetched at a place
pub there-at : (fetched : List Found) (i : ℕ) (found : Found) (b : Bool) → i < length fetched → found ≡ get_or fetched i found → b ≡ is_some found.1 →
    b ≡ is_some (get_or (fetched_rows fetched) i None)
there-at fetched i found b inside is is_there = is_there ∙ ap is_some (sym (row-at fetched i found None inside is))

-- one more that was fetched is put in its place
pub put-more : (rows : List (Option Row)) (first : ℕ) (fetched : List Found) (i place : ℕ) (b : Bool) (slot : Option ℕ) (slots : List (Option ℕ))
    (found : Found) → i < length fetched → found ≡ get_or fetched i found → RiseWithin first (first + length rows) fetched → b ≡ is_some found.1 →
    place ≡ length (present_rows rows) + count_present (take i (fetched_rows fetched)) → slot ≡ (if b then Some place else None) →
    Planned (stock rows fetched) slots (rows_with (take i fetched) first rows) →
    Planned (stock rows fetched) (set slots (found.0 - first) slot) (rows_with (take (i + 1) fetched) first rows)
put-more rows first fetched i place b slot slots found inside is rise is_there is_place is_slot before =
    let fresh = fetched_rows fetched in
    let extent = rise-at first (first + length rows) fetched i found rise inside is in
    let for_it = slot-for (stock rows fetched) (length (present_rows rows)) fresh i place b slot (stands-behind (present_rows rows) fresh)
    (there-at fetched i found b inside is is_there) is_place is_slot in
    planned-set (stock rows fetched) slots (rows_with (take i fetched) first rows) (rows_with (take (i + 1) fetched) first rows) (found.0 - first) slot found.1
    before (subst (IsSlotFor (stock rows fetched) slot) (row-at fetched i found None inside is) for_it)
    (with-more fetched first rows i found inside is extent.0 extent.1)

-- a flag counted
pub byte-is : (b : Bool) → bool_byte b ≡ cond b 1 0
byte-is true = refl
byte-is false = refl

pub byte-most : (b : Bool) → cond b 1 0 ≤ 1
byte-most true = omega arith
byte-most false = omega arith

-- one place more
pub places-more : (slots : List (Option ℕ)) (i : ℕ) (places longer : List ℕ) → i < length slots → places ≡ places_in (take i slots) →
    longer ≡ places ++ places_in (get_or slots i None ∷ []) → longer ≡ places_in (take (i + 1) slots)
places-more slots i places longer inside so_far more =
    more
    ∙ (ap (λ (l : List ℕ). l ++ places_in (get_or slots i None ∷ [])) so_far
    ∙ (sym (filter_map-append (λ (slot : Option ℕ). slot) (take i slots) (get_or slots i None ∷ []))
    ∙ ap places_in (sym (take_more slots i None inside))))

-- the columns of short rows are short
pub columns-short : (width : ℕ) (rows : List Row) → AreRows width rows →
    All (λ column. All IsShort column) (map (λ column. values_in column rows) (range_with_len 0 width))
columns-short width rows are k d inside =
    let below : k < width = omega (arith, length-columns width rows, inside) in
    subst (All IsShort) (sym (at-columns width rows k d below)) (short-in width rows k are below)
