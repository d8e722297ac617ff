-- Rows as a view shows them: what its own changes left, what was fetched, and what a unit has.
use Rattle.std.proofs.Common.{◌≡◌, ℕ, zero, suc, ◌+◌, ◌-◌, ◌<◌, ◌≤◌, ◌==◌, ◌&&◌, Bool, true, false, if◌then◌else◌, All, List, [], ◌∷◌, ◌++◌, length, get_or, map, Option, Some, None, refl, sym, ap, subst, ◌∙◌, arith, append_assoc, append-nil}
use Rattle.std.specs.Prelude.{nat_lt}
use Rattle.std.specs.List.{AllByRecursion, fold}
use Rattle.std.specs.Option.{option_map}
use Rattle.std.proofs.lemmas.List.{get_or-map, length-map}
use Rattle.std.proofs.lemmas.List.FromFn.{length-map-range_with_len}
use Rattle.im_values.specs.declared.content.Content.{Content as Value}
use Rattle.im_values.specs.Widened.{widened}
use Rattle.im_values.proofs.WideLaws.{widened-long}
use Rattle.im_syntax.specs.declared.bound.Bound.{Bound}
use Rattle.im_history.specs.declared.change.Change.{Change}
use Rattle.im_history.specs.declared.view.View.{View}
use Rattle.im_history.specs.Last.{Slot, AreLast, change_of, last_at, left_by}
use Rattle.im_history.specs.Rows.{Row, row_after, present}
use Rattle.im_group.specs.Partials.{partial}
use Rattle.im_history.specs.Serving.{shown_all}
use Rattle.im_history.specs.Units.{Content}
use Rattle.im_history.specs.Views.{shown}
use Rattle.im_unit.specs.Holding.{HaveWidth, columns_of, present_rows, values_in}
use Rattle.im_unit.specs.Widened.{widened_content}
use Rattle.im_scan.proofs.PinLemmas.{present-same}
use Rattle.im_scan.specs.Parts.{AreDefaults, AreShown, MayAsk, MayAskShown, fetched_after, row_in_unit, taken_row}
use Rattle.im_scan.specs.inner.Steps.{ArePutBehind, IsShownBy, MayScan, MayScanShown, as_shown, laid_row, shown_change}

-- ---- what own changes left

left-shown : (view : View) (table rid : ℕ) (left : Option (Option Row)) (change : Change) →
    left_by table rid (option_map (shown view) left) (shown_change view change) ≡ option_map (shown view) (left_by table rid left change)
left-shown view table rid left change = by ((change.table == table) && (change.rid == rid))
  where
    by : (b : Bool) → (if b then Some (shown view change.row) else option_map (shown view) left) ≡
        option_map (shown view) (if b then Some change.row else left)
    by true = refl
    by false = refl

lefts-shown : (view : View) (table rid : ℕ) (own : List Change) (left : Option (Option Row)) →
    fold (left_by table rid) (option_map (shown view) left) (map (shown_change view) own) ≡ option_map (shown view) (fold (left_by table rid) left own)
lefts-shown view table rid [] left = refl
lefts-shown view table rid (change ∷ own) left =
    ap (λ (so_far : Option (Option Row)). fold (left_by table rid) so_far (map (shown_change view) own)) (left-shown view table rid left change)
    ∙ lefts-shown view table rid own (left_by table rid left change)

-- the last change to a row number leaves the row as it is shown
pub change_of-shown : (view : View) (table rid : ℕ) → change_of (as_shown view).own table rid ≡ option_map (shown view) (change_of view.own table rid)
change_of-shown view table rid = lefts-shown view table rid view.own None

last_at-shown : (view : View) (slots : List Slot) (rid : ℕ) → last_at (shown_all view slots) rid ≡ option_map (shown view) (last_at slots rid)
last_at-shown view [] rid = refl
last_at-shown view (slot ∷ slots) rid = by (slot.0 == rid) (last_at-shown view slots rid)
  where
    by : (b : Bool) → last_at (shown_all view slots) rid ≡ option_map (shown view) (last_at slots rid) →
        (if b then Some (shown view slot.1) else last_at (shown_all view slots) rid) ≡ option_map (shown view) (if b then Some slot.1 else last_at slots rid)
    by true later = refl
    by false later = later

abbrev slot_shown : View → Slot → Slot
slot_shown view slot = (slot.0, shown view slot.1)

all-shown : (view : View) (P Q : Slot → Type 0) (slots : List Slot) → ((slot : Slot) → P slot → Q (slot_shown view slot)) → All P slots →
    All Q (shown_all view slots)
all-shown view P Q slots each all i d inside =
    let within : i < length slots = omega (arith, inside, length-map slots (slot_shown view)) in
    subst Q (sym (get_or-map (slot_shown view) slots i d d within)) (each (get_or slots i d) (all i d within))

-- what the last changes left is, as a view shows it, what the last of the changes that it shows left
pub last-shown : (view : View) (first count : ℕ) (slots : List Slot) → AreLast view.own view.table first count slots →
    AreLast (as_shown view).own view.table first count (shown_all view slots)
last-shown view first count slots last = record {
  found = λ rid from below.
      last_at-shown view slots rid ∙ (ap (option_map (shown view)) (last.found rid from below) ∙ sym (change_of-shown view view.table rid));
  each = all-shown view (λ (slot : Slot). change_of view.own view.table slot.0 ≡ Some slot.1)
      (λ (slot : Slot). change_of (as_shown view).own view.table slot.0 ≡ Some slot.1) slots
      (λ slot is. change_of-shown view view.table slot.0 ∙ ap (option_map (shown view)) is) last.each;
  within = all-shown view (λ (slot : Slot). (first ≤ slot.0) × (slot.0 < first + count)) (λ (slot : Slot). (first ≤ slot.0) × (slot.0 < first + count)) slots
      (λ slot inside. inside) last.within;
}

-- ---- what is put behind other rows

-- some of what the own changes left is put, and the rest is left
pub record ArePutTo (view : View) (first count : ℕ) (old : List (ℕ × Option Row)) (left : List Slot) (rows : List (ℕ × Option Row)) : Type 0 where
  pub own : List Slot
  pub last : AreLast (as_shown view).own view.table first count (own ++ shown_all view left)
  pub is : rows ≡ old ++ own

pub put-none : (view : View) (first count : ℕ) (old : List (ℕ × Option Row)) (left : List Slot) → AreLast view.own view.table first count left →
    ArePutTo view first count old left old
put-none view first count old left last = record { own = []; last = last-shown view first count left last; is = sym (append-nil old) }

pub put-more : (view : View) (first count rid : ℕ) (row : Option Row) (old : List (ℕ × Option Row)) (left : List Slot) (rows more : List (ℕ × Option Row)) →
    ArePutTo view first count old ((rid, row) ∷ left) rows → more ≡ rows ++ (rid, shown view row) ∷ [] → ArePutTo view first count old left more
put-more view first count rid row old left rows more are pushed =
    let slot : Slot = (rid, shown view row) in
    record {
      own = are.own ++ slot ∷ [];
      last = subst (AreLast (as_shown view).own view.table first count) (sym (append_assoc are.own (slot ∷ []) (shown_all view left))) are.last;
      is = pushed ∙ (ap (λ (l : List (ℕ × Option Row)). l ++ slot ∷ []) are.is ∙ append_assoc old are.own (slot ∷ []));
    }

pub put-all : (view : View) (first count : ℕ) (old rows : List (ℕ × Option Row)) → ArePutTo view first count old [] rows →
    ArePutBehind (as_shown view) first count old rows
put-all view first count old rows are = record {
  own = are.own;
  last = subst (AreLast (as_shown view).own view.table first count) (append-nil are.own) are.last;
  is = are.is;
}

-- ---- a unit

at-shown : (view : View) (rows : List (Option Row)) (i : ℕ) → get_or (map (shown view) rows) i None ≡ shown view (get_or rows i None)
at-shown view [] i = refl
at-shown view (row ∷ rows) zero = refl
at-shown view (row ∷ rows) (suc i) = at-shown view rows i

-- rows that are as wide as a view are as it shows them
pub wide-shown : (view : View) (width : ℕ) (rows : List (Option Row)) → length view.defaults ≤ width → HaveWidth width rows → map (shown view) rows ≡ rows
wide-shown view width [] enough wide = refl
wide-shown view width (None ∷ rows) enough wide = ap (λ (l : List (Option Row)). None ∷ l) (wide-shown view width rows enough wide.1)
wide-shown view width (Some row ∷ rows) enough wide =
    let long = wide.0 row refl in
    ap (λ (r : Row). Some r ∷ map (shown view) rows) (widened-long view.defaults row (omega (arith, enough, long)))
    ∙ ap (λ (l : List (Option Row)). Some row ∷ l) (wide-shown view width rows enough wide.1)

fits-shown : (bound : Bound) (view : View) (rows : List (Option Row)) → AllByRecursion (MayAskShown bound view) rows →
    AllByRecursion (MayAsk bound) (map (shown view) rows)
fits-shown bound view [] all = tt
fits-shown bound view (row ∷ rows) all = (all.0, fits-shown bound view rows all.1)

-- a unit of these rows as a view shows them
pub is-shown-by : (view : View) (content wide : Content) → wide.first ≡ content.first → wide.rows ≡ map (shown view) content.rows →
    IsShownBy view (Some content) (Some wide)
is-shown-by view content wide first rows = record {
  at = λ rid.
      ap (λ (n : ℕ). if nat_lt rid n then None else get_or wide.rows (rid - n) None) first
      ∙ (ap (λ (l : List (Option Row)). if nat_lt rid content.first then None else get_or l (rid - content.first) None) rows
      ∙ by rid (nat_lt rid content.first));
  fits = λ bound fits held is.
      let same : wide ≡ held = cc in
      subst (λ (k : Content). AllByRecursion (MayAsk bound) k.rows) same
      (subst (AllByRecursion (MayAsk bound)) (sym rows) (fits-shown bound view content.rows (fits content refl)));
}
  where
    by : (rid : ℕ) (b : Bool) → (if b then None else get_or (map (shown view) content.rows) (rid - content.first) None) ≡
        shown view (if b then None else get_or content.rows (rid - content.first) None)
    by rid true = refl
    by rid false = at-shown view content.rows (rid - content.first)

pub is-shown-bare : (view : View) → IsShownBy view None None
is-shown-bare view = record { at = λ rid. refl; fits = λ bound fits content is. absurd cc }

-- ---- the rows that a scan takes

fetched-shown-step : (view : View) (rid : ℕ) (fetched : List (ℕ × Option Row)) (row : Option Row) →
    fold (fetched_after rid) (shown view row) (shown_all view fetched) ≡ shown view (fold (fetched_after rid) row fetched)
fetched-shown-step view rid [] row = refl
fetched-shown-step view rid (f ∷ fetched) row =
    ap (λ (r : Option Row). fold (fetched_after rid) r (shown_all view fetched)) (by (f.0 == rid))
    ∙ fetched-shown-step view rid fetched (fetched_after rid row f)
  where
    by : (b : Bool) → (if b then shown view f.1 else shown view row) ≡ shown view (if b then f.1 else row)
    by true = refl
    by false = refl

own-shown-step : (view : View) (rid : ℕ) (own : List Change) (row : Option Row) →
    fold (row_after view.table rid) (shown view row) (map (shown_change view) own) ≡ shown view (fold (row_after view.table rid) row own)
own-shown-step view rid [] row = refl
own-shown-step view rid (change ∷ own) row =
    ap (λ (r : Option Row). fold (row_after view.table rid) r (map (shown_change view) own)) (by ((change.table == view.table) && (change.rid == rid)))
    ∙ own-shown-step view rid own (row_after view.table rid row change)
  where
    by : (b : Bool) → (if b then shown view change.row else shown view row) ≡ shown view (if b then change.row else row)
    by true = refl
    by false = refl

-- rows that are laid as the view shows them are those that a scan takes
pub laid-taken : (view : View) (unit wide : Option Content) (fetched : List (ℕ × Option Row)) (rid : ℕ) → IsShownBy view unit wide → AreShown view fetched →
    laid_row wide fetched (as_shown view) rid ≡ taken_row unit fetched view rid
laid-taken view unit wide fetched rid by are =
    ap (λ (row : Option Row). fold (row_after view.table rid) row (as_shown view).own)
    (ap (λ (l : List (ℕ × Option Row)). fold (fetched_after rid) (row_in_unit wide rid) l) (sym are)
    ∙ (ap (λ (row : Option Row). fold (fetched_after rid) row (shown_all view fetched)) (by.at rid)
    ∙ fetched-shown-step view rid fetched (row_in_unit unit rid)))
    ∙ own-shown-step view rid view.own (fold (fetched_after rid) (row_in_unit unit rid) fetched)

own-fits-shown : (bound : Bound) (view : View) (own : List Change) → AllByRecursion (λ change. MayAskShown bound view change.row) own →
    AllByRecursion (λ change. MayAsk bound change.row) (map (shown_change view) own)
own-fits-shown bound view [] all = tt
own-fits-shown bound view (change ∷ own) all = (all.0, own-fits-shown bound view own all.1)

-- and a query may be asked of them
pub may-scan : (bound : Bound) (view : View) (unit wide : Option Content) (fetched : List (ℕ × Option Row)) → IsShownBy view unit wide →
    MayScanShown bound unit fetched view → MayScan bound wide fetched (as_shown view).own
may-scan bound view unit wide fetched by may = record {
  unit_fits = by.fits bound may.unit_fits;
  fetched_fits = may.fetched_fits;
  own_fits = own-fits-shown bound view view.own may.own_fits;
}

-- their part is that of the rows that a scan takes
pub shown-part : (bound : Bound) (view : View) (unit wide : Option Content) (fetched : List (ℕ × Option Row)) (first count : ℕ) → IsShownBy view unit wide →
    AreShown view fetched →
    partial bound (present (laid_row wide fetched (as_shown view)) first count) ≡ partial bound (present (taken_row unit fetched view) first count)
shown-part bound view unit wide fetched first count by are =
    ap (partial bound)
    (present-same (laid_row wide fetched (as_shown view)) (taken_row unit fetched view) first count
    (λ rid from below. laid-taken view unit wide fetched rid by are))

-- there are as many columns as the unit says
pub length-lent : (content : Content) (lent : List (List Value)) → lent ≡ columns_of content → length lent ≡ content.columns
length-lent content lent is =
    ap length is ∙ length-map-range_with_len (λ (column : ℕ). values_in column (present_rows content.rows)) 0 content.columns

-- a unit with as many columns as a view is as the view shows it
pub enough-columns : (view : View) (content : Content) (lent : List (List Value)) → lent ≡ columns_of content → HaveWidth content.columns content.rows →
    AreDefaults view → length view.columns ≤ length lent → IsShownBy view (Some content) (Some content)
enough-columns view content lent is wide defaults enough =
    let many = length-lent content lent is in
    let each = defaults.each in
    is-shown-by view content content refl
    (sym (wide-shown view content.columns content.rows (omega (arith, many, each, enough)) wide))

-- with those that it lacks it is too
pub widened-columns : (view : View) (content wide : Content) (defaults : List Value) → defaults ≡ view.defaults → wide ≡ widened_content defaults content →
    IsShownBy view (Some content) (Some wide)
widened-columns view content wide defaults same is =
    is-shown-by view content wide (ap (λ (k : Content). k.first) is)
    (ap (λ (k : Content). k.rows) is ∙ ap (λ (d : List Value). map (option_map (widened d)) content.rows) same)
