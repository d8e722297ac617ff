-- Where a condition keeps the rows of a unit: by their places in the columns, and by their row numbers.
use Rattle.std.proofs.Common.{◌≡◌, ℕ, zero, suc, ◌+◌, ◌<◌, ◌≤◌, Bool, true, false, if◌then◌else◌, List, [], ◌∷◌, length, take, map, replicate, get_or, Option, Some, None, refl, sym, ap, subst, ◌∙◌, ⊎_elim, arith}
use Rattle.std.specs.Prelude.{is_some, slice_set}
use Rattle.std.specs.List.{AllByRecursion}
use Rattle.std.specs.Option.{ForSome}
use Rattle.std.proofs.lemmas.Bool.{cases_lt}
use Rattle.std.proofs.lemmas.List.{ext_get_or, get_or-map, get_or-set_same, get_or-set_other, length-map, length-set, length-replicate}
use Rattle.std.proofs.lemmas.List.FromFn.{get_or-map-range_with_len, length-map-range_with_len}
use Rattle.std.proofs.lemmas.List.Sums.{count_by-le-length, length-filter}
use Rattle.im_values.specs.declared.truth.Truth.{Truth}
use Rattle.im_values.specs.declared.truth.Truth.TheVariants.{Yes, No, Unknown}
use Rattle.im_values.specs.declared.content.Content.{Content as Value}
use Rattle.im_syntax.specs.Condition.{CondOf}
use Rattle.im_syntax.specs.BoundFits.{FilterFits}
use Rattle.im_eval.specs.Holds.{truth_of}
use Rattle.im_codepred.specs.Asked.{met}
use Rattle.im_codepred.specs.declared.asked.Wanted.TheVariants.{Held}
use Rattle.im_codepred.specs.Selection.{OfRows, row_at, rows_met}
use Rattle.im_group.specs.Partials.{is_yes, keeps}
use Rattle.im_history.specs.Rows.{Row}
use Rattle.im_history.specs.Units.{Content}
use Rattle.im_unit.specs.Holding.{HaveWidth, columns_of, count_present, present_rows}
use Rattle.im_unit.proofs.ForCallers.{across-columns, count-present, present-at}
use Rattle.im_syntax.specs.declared.bound.Bound.{Bound}
use Rattle.im_scan.specs.Parts.{MayAsk}
use Rattle.im_scan.specs.inner.Walk.{AreByPlace, is_kept}
use Rattle.im_scan.proofs.WalkLemmas.{kept-at}

-- ---- of the rows that are present

held-yes : (condition : CondOf ℕ Value) (row : Row) → met Held (truth_of condition row) ≡ keeps (Some condition) row
held-yes condition row = by (truth_of condition row)
  where
    by : (t : Truth) → met Held t ≡ is_yes t
    by Yes = refl
    by No = refl
    by Unknown = refl

-- what is chosen by the columns is what is kept of the rows
pub spots-kept : (content : Content) (condition : CondOf ℕ Value) → HaveWidth content.columns content.rows →
    rows_met Held (truth_of condition) (columns_of content) (count_present content.rows) ≡ map (keeps (Some condition)) (present_rows content.rows)
spots-kept content condition wide =
    ext_get_or false (rows_met Held (truth_of condition) columns n) (map (keeps (Some condition)) rows)
    (many ∙ (count-present content.rows ∙ sym (length-map rows (keeps (Some condition)))))
    (λ i within.
    let inside : i < n = omega (arith, many, within) in
    get_or-map-range_with_len test 0 n i i false inside (omega arith)
    ∙ (held-yes condition (row_at columns i)
    ∙ (ap (keeps (Some condition)) (across-columns content i wide inside)
    ∙ sym (get_or-map (keeps (Some condition)) rows i [] false (omega (arith, inside, count-present content.rows))))))
  where
    columns : List (List Value)
    columns = columns_of content

    rows : List Row
    rows = present_rows content.rows

    n : ℕ
    n = count_present content.rows

    test : ℕ → Bool
    test i = met Held (truth_of condition (row_at columns i))

    many : length (rows_met Held (truth_of condition) columns n) ≡ n
    many = length-map-range_with_len test 0 n

pub all-true : (rows : List Row) → replicate (length rows) true ≡ map (keeps None) rows
all-true [] = refl
all-true (row ∷ rows) = ap (λ (l : List Bool). true ∷ l) (all-true rows)

-- with no condition all are kept
pub all-kept : (rows : List (Option Row)) (n : ℕ) → n ≡ count_present rows → replicate n true ≡ map (keeps None) (present_rows rows)
all-kept rows n is = ap (λ k. replicate k true) (is ∙ count-present rows) ∙ all-true (present_rows rows)

-- a fact of each row that is present
of-present : (P : Row → Type 0) (rows : List (Option Row)) (i : ℕ) → AllByRecursion (λ row. ForSome row P) rows → i < count_present rows →
    P (get_or (present_rows rows) i [])
of-present P [] i all inside = absurd (omega (arith, inside))
of-present P (None ∷ rows) i all inside = of-present P rows i all.1 inside
of-present P (Some row ∷ rows) zero all inside = all.0 row refl
of-present P (Some row ∷ rows) (suc i) all inside = of-present P rows i all.1 (omega (arith, inside))

-- a condition that fits each row fits each row across the columns
pub fits-across : (content : Content) (condition : CondOf ℕ Value) → HaveWidth content.columns content.rows →
    AllByRecursion (λ row. ForSome row (λ values. ForSome (Some condition) (FilterFits values))) content.rows →
    OfRows (λ row. FilterFits row condition) (columns_of content) (count_present content.rows)
fits-across content condition wide all i inside =
    subst (λ (row : Row). FilterFits row condition) (sym (across-columns content i wide inside))
    (of-present (λ (row : Row). ForSome (Some condition) (FilterFits row)) content.rows i all inside condition refl)

-- a query that fits has a condition that does
pub filter-fits : (bound : Bound) (rows : List (Option Row)) → AllByRecursion (MayAsk bound) rows →
    AllByRecursion (λ row. ForSome row (λ values. ForSome bound.filter (FilterFits values))) rows
filter-fits bound [] all = tt
filter-fits bound (row ∷ rows) all = (λ values is. (all.0 values is).filter, filter-fits bound rows all.1)

-- ---- of all rows

pub few-present : (rows : List (Option Row)) → count_present rows ≤ length rows
few-present rows = omega (arith, length-filter is_some rows, count_by-le-length is_some rows)

-- where all rows are present their places are those in the columns
pub kept-full : (filter : Option (CondOf ℕ Value)) (rows : List (Option Row)) → count_present rows ≡ length rows →
    map (keeps filter) (present_rows rows) ≡ map (is_kept filter) rows
kept-full filter [] all = refl
kept-full filter (None ∷ rows) all = absurd (let few = few-present rows in omega (arith, few, all))
kept-full filter (Some row ∷ rows) all = ap (λ (l : List Bool). keeps filter row ∷ l) (kept-full filter rows (omega (arith, all)))

pub kept-by_place : (filter : Option (CondOf ℕ Value)) (rows : List (Option Row)) (spots places : List Bool) → AreByPlace rows spots places →
    spots ≡ map (keeps filter) (present_rows rows) → places ≡ map (is_kept filter) rows
kept-by_place filter rows spots places are is =
    ext_get_or false places (map (is_kept filter) rows) (are.long ∙ sym (length-map rows (is_kept filter)))
    (λ k within.
    let inside : k < length rows = let long = are.long in omega (arith, within, long) in
    are.at k inside ∙ (by k (get_or rows k None) refl ∙ sym (kept-at filter rows k)))
  where
    by : (k : ℕ) (row : Option Row) → get_or rows k None ≡ row →
        (if is_some (get_or rows k None) then get_or spots (count_present (take k rows)) false else false) ≡ is_kept filter (get_or rows k None)
    by k None e = ap (λ (r : Option Row). if is_some r then get_or spots (count_present (take k rows)) false else false) e ∙ sym (ap (is_kept filter) e)
    by k (Some row) e =
        let at = present-at rows k row e in
        ap (λ (r : Option Row). if is_some r then get_or spots (count_present (take k rows)) false else false) e
        ∙ (ap (λ (l : List Bool). get_or l (count_present (take k rows)) false) is
        ∙ (get_or-map (keeps filter) (present_rows rows) (count_present (take k rows)) [] false (omega (arith, at.0, count-present rows))
        ∙ (ap (keeps filter) at.1 ∙ sym (ap (is_kept filter) e))))

-- ---- place by place

count-step : (rows : List (Option Row)) (place : ℕ) → place < length rows →
    count_present (take (suc place) rows) ≡ (if is_some (get_or rows place None) then count_present (take place rows) + 1 else count_present (take place rows))
count-step [] place inside = absurd (omega (arith, inside))
count-step (None ∷ rows) zero inside = refl
count-step (Some row ∷ rows) zero inside = refl
count-step (None ∷ rows) (suc place) inside = count-step rows place (omega (arith, inside))
count-step (Some row ∷ rows) (suc place) inside = by (is_some (get_or rows place None)) (count-step rows place (omega (arith, inside)))
  where
    n : ℕ
    n = count_present (take place rows)

    by : (b : Bool) → count_present (take (suc place) rows) ≡ (if b then n + 1 else n) → suc (count_present (take (suc place) rows)) ≡ (if b then suc n + 1 else suc n)
    by true e = omega (arith, e)
    by false e = omega (arith, e)

module _ (rows : List (Option Row)) (spots : List Bool) where
  abbrev placed : ℕ → Bool
  placed k = if is_some (get_or rows k None) then get_or spots (count_present (take k rows)) false else false

  -- the places before one are chosen, and none from there on
  pub record ArePlaced (place spot : ℕ) (places : List Bool) : Type 0 where
    pub spot_is : spot ≡ count_present (take place rows)
    pub long : length places ≡ length rows
    pub done : (k : ℕ) → k < place → get_or places k false ≡
        (if is_some (get_or rows k None) then get_or spots (count_present (take k rows)) false else false)
    pub later : (k : ℕ) → place ≤ k → get_or places k false ≡ false

  pub placed-none : (places : List Bool) (n : ℕ) → n ≡ length rows → places ≡ replicate n false → ArePlaced 0 0 places
  placed-none places n is none = record {
    spot_is = refl;
    long = ap length none ∙ (length-replicate n false ∙ is);
    done = λ k below. absurd (omega (arith, below));
    later = λ k from. ap (λ (l : List Bool). get_or l k false) none ∙ blank n k;
  }
    where
      blank : (n k : ℕ) → get_or (replicate n false) k false ≡ false
      blank zero k = refl
      blank (suc n) zero = refl
      blank (suc n) (suc k) = blank n k

  pub placed-all : (place spot : ℕ) (places : List Bool) → length rows ≤ place → ArePlaced place spot places → AreByPlace rows spots places
  placed-all place spot places over are = record { long = are.long; at = λ k inside. are.done k (omega (arith, inside, over)) }

  -- the place of a row that is present
  pub spot-inside : (place spot : ℕ) (places : List Bool) → ArePlaced place spot places → true ≡ is_some (get_or rows place None) →
      spot < count_present rows
  spot-inside place spot places are some = by (get_or rows place None) refl some
    where
      by : (row : Option Row) → get_or rows place None ≡ row → true ≡ is_some row → spot < count_present rows
      by None e some = absurd cc
      by (Some row) e some = let is = are.spot_is in omega (arith, is, (present-at rows place row e).0)

  next : (place : ℕ) → place + 1 ≡ suc place
  next place = omega arith

  counted : (place : ℕ) (b : Bool) → place < length rows → b ≡ is_some (get_or rows place None) →
      (if b then count_present (take place rows) + 1 else count_present (take place rows)) ≡ count_present (take (place + 1) rows)
  counted place b inside is =
      let n = count_present (take place rows) in
      sym (ap (λ k. count_present (take k rows)) (next place)
      ∙ (count-step rows place inside ∙ ap (λ (c : Bool). if c then n + 1 else n) (sym is)))

  -- what holds of the places before one, and of it, holds of those before the next
  done-more : (place : ℕ) (places : List Bool) → ((k : ℕ) → k < place → get_or places k false ≡ placed k) → get_or places place false ≡ placed place →
      (k : ℕ) → k < place + 1 → get_or places k false ≡ placed k
  done-more place places done here k below =
      ⊎_elim (λ (under : k < place). done k under)
      (λ (over : place ≤ k). let same : place ≡ k = omega (arith, over, below) in
      subst (λ n. get_or places n false ≡ placed n) same here)
      (cases_lt k place)

  pub placed-gap : (place spot : ℕ) (places : List Bool) → place < length rows → false ≡ is_some (get_or rows place None) → ArePlaced place spot places →
      ArePlaced (place + 1) spot places
  placed-gap place spot places inside none are = record {
    spot_is = are.spot_is ∙ counted place false inside none;
    long = are.long;
    done = done-more place places are.done
        (are.later place (omega arith) ∙ ap (λ (b : Bool). if b then get_or spots (count_present (take place rows)) false else false) none);
    later = λ k from. are.later k (omega (arith, from));
  }

  pub placed-row : (place spot : ℕ) (places more : List Bool) (chosen : Bool) → place < length rows → true ≡ is_some (get_or rows place None) →
      chosen ≡ get_or spots spot false → more ≡ (if chosen then slice_set places place true else places) → ArePlaced place spot places →
      ArePlaced (place + 1) (spot + 1) more
  placed-row place spot places more chosen inside some is put are = record {
    spot_is = ap (λ n. n + 1) are.spot_is ∙ counted place true inside some;
    long = ap length put ∙ (same_length chosen ∙ are.long);
    done = done-more place more (λ k below. other k (λ e. omega (arith, e, below)) ∙ are.done k below)
        (here ∙ (is ∙ (ap (λ n. get_or spots n false) are.spot_is
        ∙ ap (λ (b : Bool). if b then get_or spots (count_present (take place rows)) false else false) some)));
    later = λ k from. other k (λ e. omega (arith, e, from)) ∙ are.later k (omega (arith, from));
  }
    where
      same_length : (b : Bool) → length (if b then slice_set places place true else places) ≡ length places
      same_length true = length-set places place true
      same_length false = refl

      other : (k : ℕ) → (k ≡ place → ⊥) → get_or more k false ≡ get_or places k false
      other k apart = ap (λ (l : List Bool). get_or l k false) put ∙ by chosen
        where
          by : (b : Bool) → get_or (if b then slice_set places place true else places) k false ≡ get_or places k false
          by true = get_or-set_other places place k true false apart
          by false = refl

      here : get_or more place false ≡ chosen
      here = ap (λ (l : List Bool). get_or l place false) put ∙ by chosen
        where
          by : (b : Bool) → get_or (if b then slice_set places place true else places) place false ≡ b
          by true = get_or-set_same places place true false (let long = are.long in omega (arith, inside, long))
          by false = are.later place (omega arith)
