-- A query may be asked of each row that a scan takes.
use Rattle.std.proofs.Common.{◌≡◌, ℕ, zero, suc, ◌+◌, ◌-◌, ◌<◌, ◌==◌, ◌&&◌, Bool, true, false, if◌then◌else◌, List, [], ◌∷◌, length, get_or, Option, Some, None, refl, sym, subst, arith}
use Rattle.std.specs.Prelude.{nat_lt}
use Rattle.std.specs.List.{AllByRecursion, fold}
use Rattle.std.specs.Option.{ForSome}
use Rattle.im_syntax.specs.declared.bound.Bound.{Bound}
use Rattle.im_history.specs.declared.change.Change.{Change}
use Rattle.im_history.specs.declared.view.View.{View}
use Rattle.im_history.specs.Rows.{Row, row_after}
use Rattle.im_history.specs.Units.{Content}
use Rattle.im_scan.specs.Parts.{MayAsk, row_in_unit, fetched_after}
use Rattle.im_scan.specs.inner.Steps.{MayScan, laid_row}
use Rattle.im_scan.proofs.SlotLemmas.{AreTaken}

no_row : (bound : Bound) → MayAsk bound None
no_row bound row is = absurd cc

-- an element of a list of which this holds
at-all : {X : Type 0} (P : X → Type 0) (xs : List X) (i : ℕ) (d : X) → P d → AllByRecursion P xs → P (get_or xs i d)
at-all P [] i d none all = none
at-all P (x ∷ xs) zero d none all = all.0
at-all P (x ∷ xs) (suc i) d none all = at-all P xs i d none all.1

all-at : {X : Type 0} (P : X → Type 0) (xs : List X) (d : X) → ((i : ℕ) → i < length xs → P (get_or xs i d))
    → AllByRecursion P xs
all-at P [] d each = tt
all-at P (x ∷ xs) d each = (each 0 (omega arith), all-at P xs d (λ i within. each (suc i) (omega (arith, within))))

-- ---- the row that a scan takes

unit-fits : (bound : Bound) (unit : Option Content) (rid : ℕ)
    → ForSome unit (λ content. AllByRecursion (MayAsk bound) content.rows) → MayAsk bound (row_in_unit unit rid)
unit-fits bound None rid fits = no_row bound
unit-fits bound (Some content) rid fits = by (nat_lt rid content.first)
  where
    by : (b : Bool) → MayAsk bound (if b then None else get_or content.rows (rid - content.first) None)
    by true = no_row bound
    by false = at-all (MayAsk bound) content.rows (rid - content.first) None (no_row bound) (fits content refl)

one-fits : (bound : Bound) (b : Bool) (new old : Option Row) → MayAsk bound new → MayAsk bound old
    → MayAsk bound (if b then new else old)
one-fits bound true new old a o = a
one-fits bound false new old a o = o

fetched-fits : (bound : Bound) (fetched : List (ℕ × Option Row)) (rid : ℕ) (row : Option Row)
    → AllByRecursion (λ f. MayAsk bound f.1) fetched → MayAsk bound row → MayAsk bound (fold (fetched_after rid) row fetched)
fetched-fits bound [] rid row all fits = fits
fetched-fits bound (f ∷ fetched) rid row all fits =
    fetched-fits bound fetched rid (fetched_after rid row f) all.1 (one-fits bound (f.0 == rid) f.1 row all.0 fits)

pub own-fits : (bound : Bound) (own : List Change) (table rid : ℕ) (row : Option Row)
    → AllByRecursion (λ change. MayAsk bound change.row) own → MayAsk bound row
    → MayAsk bound (fold (row_after table rid) row own)
own-fits bound [] table rid row all fits = fits
own-fits bound (change ∷ own) table rid row all fits =
    own-fits bound own table rid (row_after table rid row change) all.1
    (one-fits bound ((change.table == table) && (change.rid == rid)) change.row row all.0 fits)

taken-fits : (bound : Bound) (unit : Option Content) (fetched : List (ℕ × Option Row)) (view : View) (rid : ℕ)
    → MayScan bound unit fetched view.own → MayAsk bound (laid_row unit fetched view rid)
taken-fits bound unit fetched view rid may =
    own-fits bound view.own view.table rid (fold (fetched_after rid) (row_in_unit unit rid) fetched) may.own_fits
    (fetched-fits bound fetched rid (row_in_unit unit rid) may.fetched_fits (unit-fits bound unit rid may.unit_fits))

pub slots-fit : (bound : Bound) (unit : Option Content) (fetched : List (ℕ × Option Row)) (view : View) (first count : ℕ)
    (slots : List (Option Row))
    → MayScan bound unit fetched view.own → AreTaken unit fetched view first count slots → AllByRecursion (MayAsk bound) slots
slots-fit bound unit fetched view first count slots may taken =
    all-at (MayAsk bound) slots None (λ i within. rw (taken.at i within) (taken-fits bound unit fetched view (first + i) may))

-- ---- one of them

pub slot-fits : (bound : Bound) (slots : List (Option Row)) (i : ℕ) (row : Option Row) → i < length slots → row ≡ get_or slots i row
    → AllByRecursion (MayAsk bound) slots → MayAsk bound row
slot-fits bound [] i row within is all = absurd (omega (arith, within))
slot-fits bound (slot ∷ slots) zero row within is all = subst (MayAsk bound) (sym is) all.0
slot-fits bound (slot ∷ slots) (suc i) row within is all = slot-fits bound slots i row (omega (arith, within)) is all.1

pub row-fits : (bound : Bound) (fetched : List (ℕ × Option Row)) (i : ℕ) (row : ℕ × Option Row) → i < length fetched → row ≡ get_or fetched i row
    → AllByRecursion (λ f. MayAsk bound f.1) fetched → MayAsk bound row.1
row-fits bound [] i row within is all = absurd (omega (arith, within))
row-fits bound (f ∷ fetched) zero row within is all = subst (λ (o : ℕ × Option Row). MayAsk bound o.1) (sym is) all.0
row-fits bound (f ∷ fetched) (suc i) row within is all = row-fits bound fetched i row (omega (arith, within)) is all.1
