-- Rows and sets without a fault may stand in their table.
use Rattle.std.proofs.Common.{◌≡◌, ℕ, zero, suc, ◌+◌, ◌<◌, ◌≤◌, Bool, true, false, cond, List, [], ◌∷◌, ◌++◌, length, get_or, drop, map, Option, Some, None, nat_eq, nat_le, refl, arith, add-one}
use Rattle.std.proofs.lemmas.Bool.{eqb-true}
use Rattle.std.proofs.lemmas.List.{length-map}
use Rattle.std.specs.Prelude.{slice_get}
use Rattle.std.specs.List.{AllByRecursion, position_from, range_with_len, zip}
use Rattle.std.specs.Option.{option_or}
use Rattle.im_values.specs.declared.schema.Column.{Column}
use Rattle.im_values.specs.declared.schema.Kind.{Kind}
use Rattle.im_values.specs.declared.schema.Kind.TheVariants as kind
use Rattle.im_values.specs.declared.content.Content.{Content as Value}
use Rattle.im_values.specs.declared.content.Content.TheVariants as value
use Rattle.im_values.specs.Fits.{may_stand, fits}
use Rattle.im_syntax.specs.declared.literal.Lit.{Lit}
use Rattle.im_syntax.specs.declared.literal.Lit.TheVariants as lit
use Rattle.im_names.specs.declared.fault.NameFault.{NameFault}
use Rattle.im_names.specs.declared.fault.NameFault.TheVariants.{WrongKind, TooLong}
use Rattle.im_names.specs.Faults.{first_fault, with_earlier}
use Rattle.im_names.specs.Lookups.{number_of, of_column, unknown, repeated, misplaced, listed_fault}
use Rattle.im_names.specs.Literals.{value_of, is_other, too_long, stored}
use Rattle.im_names.specs.Rows.{targets, stored_fault, tuple_fault, taken, value_in, row_of, rows_of, set_name, set_of, set_fault, insert_fault, count_fault}
use Rattle.im_names.specs.Fitting.{SetServes, RowsServe}
use Rattle.im_syntax.proofs.EvenLemmas.{both}
use Rattle.im_names.proofs.FitLemmas.{neither, known_within}

-- ---- one value

short : (b : Bool) (name : List ℕ) (m n : ℕ) → cond b None (Some (TooLong name m n)) ≡ None → b ≡ true
short true name m n e = refl
short false name m n e = absurd cc

-- what has no fault may stand there
fault_free : (k : Kind) (name : List ℕ) (v : Value) → option_or (cond (is_other k v) (Some (WrongKind name)) None) (too_long name k v) ≡ None
    → may_stand k v ≡ true
fault_free kind.Int name (value.Int a) e = refl
fault_free kind.Int name (value.Text a) e = absurd cc
fault_free kind.Int name value.Null e = refl
fault_free (kind.Text n) name (value.Int a) e = absurd cc
fault_free (kind.Text n) name (value.Text a) e = short (nat_le (length a) n) name (length a) n e
fault_free (kind.Text n) name value.Null e = refl

null_stands : (k : Kind) → may_stand k value.Null ≡ true
null_stands kind.Int = refl
null_stands (kind.Text n) = refl

stands : (columns : List Column) (number : ℕ) (v : Value) → number < length columns → of_column columns number (stored v) ≡ None → SetServes columns (number, v)
stands [] number v lt e = absurd (omega arith)
stands (c ∷ cs) zero v lt e = record { column = c; is_there = refl; stands = fault_free c.kind c.name v e }
stands (c ∷ cs) (suc number) v lt e =
    let rest = stands cs number v (omega arith) e in
    record { column = rest.column; is_there = rest.is_there; stands = rest.stands }

-- ---- sets

each_known : (columns : List Column) (before names : List (List ℕ)) → first_fault (with_earlier (misplaced columns) before names) ≡ None
    → AllByRecursion (λ name. unknown columns name ≡ None) names
each_known columns before [] e = tt
each_known columns before (name ∷ names) e =
    let both = neither (misplaced columns before name) (first_fault (with_earlier (misplaced columns) (before ++ name ∷ []) names)) e in
    ((neither (unknown columns name) (repeated before name) both.0).0, each_known columns (before ++ name ∷ []) names both.1)

each_serves : (columns : List Column) (sets : List (List ℕ × Lit)) → AllByRecursion (λ name. unknown columns name ≡ None) (map set_name sets)
    → first_fault (map (set_fault columns) sets) ≡ None → AllByRecursion (SetServes columns) (map (set_of columns) sets)
each_serves columns [] known e = tt
each_serves columns (s ∷ ss) known e =
    let both = neither (set_fault columns s) (first_fault (map (set_fault columns) ss)) e in
    (stands columns (number_of columns s.0) (value_of s.1) (known_within columns s.0 known.0) both.0, each_serves columns ss known.1 both.1)

-- a value without a fault may stand in its column
pub stored_stands : (column : Column) (v : Value) → stored v column ≡ None → may_stand column.kind v ≡ true
stored_stands column v e = fault_free column.kind column.name v e

pub sets_serve : (columns : List Column) (sets : List (List ℕ × Lit)) → listed_fault columns (map set_name sets) ≡ None
    → first_fault (map (set_fault columns) sets) ≡ None → AllByRecursion (SetServes columns) (map (set_of columns) sets)
sets_serve columns sets names values = each_serves columns sets (each_known columns [] (map set_name sets) names) values

-- ---- rows

-- a row that is made column by column
fits_range : (cs : List Column) (a : ℕ) (h : ℕ → Value)
    → ((i j : ℕ) (c : Column) → a + i ≡ j → slice_get cs i ≡ Some c → may_stand c.kind (h j) ≡ true) → fits (map h (range_with_len a (length cs))) cs ≡ true
fits_range [] a h each = refl
fits_range (c ∷ cs) a h each =
    let here : may_stand c.kind (h a) ≡ true = each 0 a c (omega arith) refl in
    let rest : fits (map h (range_with_len (a + 1) (length cs))) cs ≡ true = fits_range cs (a + 1) h (λ i j x s is. each (suc i) j x (omega arith) is) in
    rw (here, rest) refl

-- past the end of a tuple, and within it
past : (k : ℕ) (xs : List Lit) → drop k xs ≡ [] → (get_or xs k lit.Null ≡ lit.Null) × (drop (suc k) xs ≡ [])
past zero [] e = (refl, refl)
past zero (x ∷ xs) e = absurd cc
past (suc k) [] e = (refl, refl)
past (suc k) (x ∷ xs) e = past k xs e

inside : (k : ℕ) (xs : List Lit) (l : Lit) (ls : List Lit) → drop k xs ≡ l ∷ ls → (get_or xs k lit.Null ≡ l) × (drop (suc k) xs ≡ ls)
inside zero [] l ls e = absurd cc
inside zero (x ∷ xs) l ls e = (cc, cc)
inside (suc k) [] l ls e = absurd cc
inside (suc k) (x ∷ xs) l ls e = inside k xs l ls e

no_values : (f : ℕ × Lit → Option NameFault) (ns : List ℕ) → first_fault (map f (zip ns [])) ≡ None
no_values f [] = refl
no_values f (n ∷ ns) = refl

-- the default of a column may stand in it
default_stands : (defaults : List Value) (columns : List Column) (number : ℕ) (column : Column) → fits defaults columns ≡ true
    → slice_get columns number ≡ Some column → may_stand column.kind (get_or defaults number value.Null) ≡ true
default_stands defaults [] number column fit is = absurd cc
default_stands [] (c ∷ cs) number column fit is = absurd cc
default_stands (v ∷ vs) (c ∷ cs) zero column fit is =
    let same : c ≡ column = cc is in
    rw (← same) (both (may_stand c.kind v) (fits vs cs) fit).0
default_stands (v ∷ vs) (c ∷ cs) (suc number) column fit is = default_stands vs cs number column (both (may_stand c.kind v) (fits vs cs) fit).1 is

-- what a column takes from a tuple
module _ (columns : List Column) (number : ℕ) (column : Column) (is_there : slice_get columns number ≡ Some column)
    (default : Value) (by_default : may_stand column.kind default ≡ true) (whole : List Lit) where
  taken_at : (rest : List Lit) (b : Bool) (k n : ℕ) (ns : List ℕ) → drop k whole ≡ rest → nat_eq number n ≡ b
      → first_fault (map (stored_fault columns) (zip (n ∷ ns) rest)) ≡ None
      → ((others : List Lit) → drop (k + 1) whole ≡ others → first_fault (map (stored_fault columns) (zip ns others)) ≡ None
      → may_stand column.kind (taken default whole (position_from (nat_eq number) (k + 1) ns)) ≡ true)
      → may_stand column.kind (taken default whole (cond b (Some k) (position_from (nat_eq number) (k + 1) ns))) ≡ true
  taken_at [] true k n ns is here e further = rw (past k whole is).0 (null_stands column.kind)
  taken_at [] false k n ns is here e further = further [] (rw add-one (past k whole is).1) (no_values (stored_fault columns) ns)
  taken_at (l ∷ ls) true k n ns is here e further =
      let same : number ≡ n = eqb-true number n here in
      let there : of_column columns n (stored (value_of l)) ≡ None =
      (neither (stored_fault columns (n, l)) (first_fault (map (stored_fault columns) (zip ns ls))) e).0 in
      let fault : of_column columns number (stored (value_of l)) ≡ None = rw same there in
      let own : stored (value_of l) column ≡ None = rw is_there at fault in
      rw (inside k whole l ls is).0 (fault_free column.kind column.name (value_of l) own)
  taken_at (l ∷ ls) false k n ns is here e further =
      further ls (rw add-one (inside k whole l ls is).1) (neither (stored_fault columns (n, l)) (first_fault (map (stored_fault columns) (zip ns ls))) e).1

  taken_stands : (numbers : List ℕ) (k : ℕ) (rest : List Lit) → drop k whole ≡ rest
      → first_fault (map (stored_fault columns) (zip numbers rest)) ≡ None
      → may_stand column.kind (taken default whole (position_from (nat_eq number) k numbers)) ≡ true
  taken_stands [] k rest is e = by_default
  taken_stands (n ∷ ns) k rest is e = taken_at rest (nat_eq number n) k n ns is refl e (taken_stands ns (k + 1))

module _ (columns : List Column) (defaults : List Value) (fit : fits defaults columns ≡ true) where
  row_serves : (numbers : List ℕ) (tuple : List Lit) → tuple_fault columns numbers tuple ≡ None
      → fits (row_of (length columns) defaults numbers tuple) columns ≡ true
  row_serves numbers tuple e = fits_range columns 0 (value_in defaults numbers tuple) (λ i j c s is.
      let same : i ≡ j = omega arith in
      let there : slice_get columns j ≡ Some c = rw (← same) is in
      taken_stands columns j c there (get_or defaults j value.Null) (default_stands defaults columns j c fit there) tuple numbers 0 tuple refl e)

  each_row : (numbers : List ℕ) (tuples : List (List Lit)) → first_fault (map (tuple_fault columns numbers) tuples) ≡ None
      → AllByRecursion (λ row. fits row columns ≡ true) (map (row_of (length columns) defaults numbers) tuples)
  each_row numbers [] e = tt
  each_row numbers (tuple ∷ tuples) e =
      let parts = neither (tuple_fault columns numbers tuple) (first_fault (map (tuple_fault columns numbers) tuples)) e in
      (row_serves numbers tuple parts.0, each_row numbers tuples parts.1)

pub rows_serve : (columns : List Column) (defaults : List Value) (names : List (List ℕ)) (tuples : List (List Lit))
    → fits defaults columns ≡ true → 1 ≤ length tuples
    → insert_fault columns names tuples ≡ None → RowsServe (rows_of columns defaults names tuples) columns
rows_serve columns defaults names tuples fit some e =
    let numbers = targets columns names in
    let e1 = neither (listed_fault columns names) _ e in
    let e2 = neither (first_fault (map (count_fault (length numbers)) tuples)) _ e1.1 in
    let e3 = neither (first_fault (map (tuple_fault columns numbers) tuples)) _ e2.1 in
    record { some = rw (length-map tuples (row_of (length columns) defaults numbers)) some; each = each_row columns defaults fit numbers tuples e3.0 }
