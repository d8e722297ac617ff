-- Rows with those that were fetched in their places.
use Rattle.std.proofs.Common.{◌≡◌, ℕ, zero, suc, ◌+◌, ◌-◌, ◌<◌, ◌≤◌, ◌==◌, Bool, true, false, if◌then◌else◌, List, [], ◌∷◌, ◌++◌, length, take, set, get_or, fold, Option, None, ⊎_elim, sym, ap, ◌∙◌, subst, arith, eq-eqb, ne_eqb}
use Rattle.std.specs.List.{All}
use Rattle.std.proofs.lemmas.Bool.{cases_eq}
use Rattle.std.proofs.lemmas.List.{ext_get_or, get_or-set_same, get_or-set_other, length-set, take_more}
use Rattle.std.proofs.lemmas.List.FromFn.{get_or-map-range_with_len, length-map-range_with_len}
use Rattle.std.proofs.lemmas.List.Elements.{All-head, All-tail}
use Rattle.std.proofs.lemmas.List.Sums.{fold_push}
use Rattle.im_history.specs.Rows.{Row}
use Rattle.im_unit.specs.Rebuilt.{fetched_rows, row_or_fetched, rows_with, RiseWithin}

abbrev Found : Type 0
Found = ℕ × Option Row

pub length-with : (fetched : List Found) (first : ℕ) (rows : List (Option Row)) → length (rows_with fetched first rows) ≡ length rows
unfolding rows_with
length-with fetched first rows = length-map-range_with_len (λ place. row_or_fetched fetched (first + place) (get_or rows place None)) 0 (length rows)

pub at-with : (fetched : List Found) (first : ℕ) (rows : List (Option Row)) (place : ℕ) (d : Option Row) → place < length rows →
    get_or (rows_with fetched first rows) place d ≡ row_or_fetched fetched (first + place) (get_or rows place None)
unfolding rows_with
at-with fetched first rows place d inside =
    get_or-map-range_with_len (λ place. row_or_fetched fetched (first + place) (get_or rows place None)) 0 (length rows) place place d inside (omega arith)

-- where nothing was fetched, they are as they were
pub with-none : (first : ℕ) (rows : List (Option Row)) → rows_with [] first rows ≡ rows
with-none first rows =
    ext_get_or None (rows_with [] first rows) rows (length-with [] first rows)
    (λ place inside. at-with [] first rows place None (omega (arith, length-with [] first rows, inside)))

-- one more that was fetched
row-more : (fetched : List Found) (i rid : ℕ) (found : Found) (old : Option Row) → i < length fetched → found ≡ get_or fetched i found →
    row_or_fetched (take (i + 1) fetched) rid old ≡ (if found.0 == rid then found.1 else row_or_fetched (take i fetched) rid old)
row-more fetched i rid found old inside is =
    let step : Option Row → Found → Option Row = λ row one. if one.0 == rid then one.1 else row in
    let more : take (i + 1) fetched ≡ take i fetched ++ found ∷ [] =
    take_more fetched i found inside ∙ ap (λ (one : Found). take i fetched ++ one ∷ []) (sym is) in
    ap (λ (l : List Found). fold step old l) more ∙ fold_push step old (take i fetched) found

pub with-more : (fetched : List Found) (first : ℕ) (rows : List (Option Row)) (i : ℕ) (found : Found) → i < length fetched → found ≡ get_or fetched i found →
    first ≤ found.0 → found.0 < first + length rows →
    set (rows_with (take i fetched) first rows) (found.0 - first) found.1 ≡ rows_with (take (i + 1) fetched) first rows
with-more fetched first rows i found inside is from below =
    ext_get_or None (set before at found.1) (rows_with (take (i + 1) fetched) first rows) (long ∙ sym (length-with (take (i + 1) fetched) first rows))
    (λ place within.
    let there : place < length rows = omega (arith, long, within) in
    let old = get_or rows place None in
    let after = at-with (take (i + 1) fetched) first rows place None there ∙ row-more fetched i (first + place) found old inside is in
    ⊎_elim
    (λ (same : place ≡ at).
    ap (λ n. get_or (set before at found.1) n None) same
    ∙ (get_or-set_same before at found.1 None (omega (arith, length-with (take i fetched) first rows, there, same))
    ∙ sym (after ∙ ap (λ b. if b then found.1 else row_or_fetched (take i fetched) (first + place) old)
    (eq-eqb found.0 (first + place) (omega (arith, same, from))))))
    (λ (other : place ≡ at → ⊥).
    get_or-set_other before at place found.1 None other
    ∙ (at-with (take i fetched) first rows place None there
    ∙ sym (after ∙ ap (λ b. if b then found.1 else row_or_fetched (take i fetched) (first + place) old)
    (ne_eqb found.0 (first + place) (λ e. other (omega (arith, e)))))))
    (cases_eq place at))
  where
    at : ℕ
    at = found.0 - first

    before : List (Option Row)
    before = rows_with (take i fetched) first rows

    long : length (set before at found.1) ≡ length rows
    long = length-set before at found.1 ∙ length-with (take i fetched) first rows

-- what holds of the old rows and of those that were fetched holds of them
each-fetched : (P : Option Row → Type 0) (fetched : List Found) (rid : ℕ) (old : Option Row) → P old → All P (fetched_rows fetched) →
    P (row_or_fetched fetched rid old)
each-fetched P [] rid old holds all = holds
each-fetched P (found ∷ fetched) rid old holds all =
    each-fetched P fetched rid (if found.0 == rid then found.1 else old) (by (found.0 == rid)) (All-tail P found.1 (fetched_rows fetched) all)
  where
    by : (b : Bool) → P (if b then found.1 else old)
    by true = All-head P found.1 (fetched_rows fetched) all
    by false = holds

pub each-with : (P : Option Row → Type 0) (fetched : List Found) (first : ℕ) (rows : List (Option Row)) → All P rows → All P (fetched_rows fetched) →
    All P (rows_with fetched first rows)
each-with P fetched first rows all_old all_fetched place d inside =
    let within : place < length rows = omega (arith, length-with fetched first rows, inside) in
    subst P (sym (at-with fetched first rows place d within))
    (each-fetched P fetched (first + place) (get_or rows place None) (all_old place None within) all_fetched)

-- ---- row numbers that rise

pub rise-at : (low end : ℕ) (fetched : List Found) (i : ℕ) (found : Found) → RiseWithin low end fetched → i < length fetched → found ≡ get_or fetched i found →
    (low ≤ found.0) × (found.0 < end)
rise-at low end [] i found rise inside is = absurd (omega (arith, inside))
rise-at low end (one ∷ fetched) zero found rise inside is = subst (λ (f : Found). (low ≤ f.0) × (f.0 < end)) (sym is) (rise.0, rise.1)
rise-at low end (one ∷ fetched) (suc i) found rise inside is =
    let rest = rise-at (one.0 + 1) end fetched i found rise.2 (omega (arith, inside)) is in
    (omega (arith, rest.0, rise.0), rest.1)

pub rise-few : (low end : ℕ) (fetched : List Found) → RiseWithin low end fetched → low ≤ end → length fetched + low ≤ end
rise-few low end [] rise up = omega (arith, up)
rise-few low end (one ∷ fetched) rise up =
    let rest = rise-few (one.0 + 1) end fetched rise.2 (omega (arith, rise.1)) in
    omega (arith, rest, rise.0)
