-- The columns that the values of a tuple are for: by their places in the tuple, and back.
use Rattle.std.proofs.Common.{◌≡◌, ℕ, zero, suc, ◌+◌, ◌<◌, ◌≤◌, Bool, true, false, cond, List, [], ◌∷◌, ◌++◌, length, drop, get_or, map, Option, Some, None, nat_eq, refl, sym, ap, ◌∙◌, arith, append_assoc}
use Rattle.std.proofs.lemmas.Bool.{eqb-true}
use Rattle.std.proofs.lemmas.Bool.Decides.{nat_tests}
use Rattle.std.proofs.lemmas.List.{map-append, length-map}
use Rattle.std.proofs.lemmas.List.FromFn.{length-range_with_len, get_or-range_with_len}
use Rattle.std.proofs.lemmas.Option.{slice_get-get_or, slice_get_past, slice_get_read}
use Rattle.std.specs.Prelude.{slice_get}
use Rattle.std.specs.List.{position_from, range_with_len}
use Rattle.std.specs.Option.{option_or}
use Rattle.im_values.specs.declared.schema.Column.{Column}
use Rattle.im_values.specs.declared.content.Content.{Content as Value}
use Rattle.im_syntax.specs.declared.literal.Lit.{Lit}
use Rattle.im_names.specs.declared.fault.NameFault.{NameFault}
use Rattle.im_names.specs.Faults.{IsCause}
use Rattle.im_names.specs.Rows.{tuple_fault, stored_fault, source, value_in, row_of}
use Rattle.im_names.proofs.FaultLemmas.{same, earlier}
use Rattle.im_names.proofs.MapLemmas.{range_more}

-- ---- all columns, in order

pub count_of_all : (width : ℕ) → width ≡ length (range_with_len 0 width)
count_of_all width = sym (length-range_with_len 0 width)

pub number_inside : (width i : ℕ) → i < width → Some i ≡ slice_get (range_with_len 0 width) i
number_inside width i lt =
    let long : i < length (range_with_len 0 width) = omega (arith, length-range_with_len 0 width) in
    let is : 0 + i ≡ i = omega arith in
    sym (slice_get-get_or (range_with_len 0 width) i 0 long ∙ ap (λ (k : ℕ). Some k) (get_or-range_with_len 0 width i 0 lt ∙ is))

pub number_past : (width i : ℕ) → width ≤ i → None ≡ slice_get (range_with_len 0 width) i
number_past width i le = sym (slice_get_past (range_with_len 0 width) i (omega (arith, length-range_with_len 0 width)))

behind_first : (a column : ℕ) → nat_eq column a ≡ false → a ≤ column → a + 1 ≤ column
behind_first a column other le = grind (arith, nat_tests)

-- the column is the first of a range, or stands in the rest of it
first_or_later : (n a column : ℕ) (is_first : Bool) (rest : Option ℕ) → nat_eq column a ≡ is_first → a ≤ column → column < a + suc n
    → (a + 1 ≤ column → column < a + 1 + n → Some column ≡ rest) → Some column ≡ cond is_first (Some a) rest
first_or_later n a column true rest is le lt later = ap (λ (k : ℕ). Some k) (eqb-true column a is)
first_or_later n a column false rest is le lt later = later (behind_first a column is le) (omega arith)

stands : (n a column : ℕ) → a ≤ column → column < a + n → Some column ≡ position_from (nat_eq column) a (range_with_len a n)
stands zero a column le lt = absurd (omega arith)
stands (suc n) a column le lt =
    first_or_later n a column (nat_eq column a) (position_from (nat_eq column) (a + 1) (range_with_len (a + 1) n)) refl le lt (stands n (a + 1) column)

not_first : (a column : ℕ) (is_first : Bool) (rest : Option ℕ) → nat_eq column a ≡ is_first → a + 1 ≤ column → None ≡ rest → None ≡ cond is_first (Some a) rest
not_first a column true rest is lt later = let same : column ≡ a = eqb-true column a is in absurd (omega arith)
not_first a column false rest is lt later = later

lacks : (n a column : ℕ) → a + n ≤ column → None ≡ position_from (nat_eq column) a (range_with_len a n)
lacks zero a column le = refl
lacks (suc n) a column le =
    not_first a column (nat_eq column a)
    (position_from (nat_eq column) (a + 1) (range_with_len (a + 1) n)) refl (omega arith) (lacks n (a + 1) column (omega arith))

pub source_inside : (width column : ℕ) → column < width → Some column ≡ source (range_with_len 0 width) column
source_inside width column lt = stands width 0 column (omega arith) (omega arith)

pub source_past : (width column : ℕ) → width ≤ column → None ≡ source (range_with_len 0 width) column
source_past width column le = lacks width 0 column (omega arith)

-- ---- the row of a tuple, column by column

module _ (defaults : List Value) (numbers : List ℕ) (tuple : List Lit) where
  row_more : (k : ℕ) → row_of (k + 1) defaults numbers tuple ≡ row_of k defaults numbers tuple ++ value_in defaults numbers tuple k ∷ []
  row_more k =
      ap (λ (x : List ℕ). map (value_in defaults numbers tuple) x) (range_more k)
      ∙ map-append (value_in defaults numbers tuple) (range_with_len 0 k) (k ∷ [])

  pub row_grows : (k : ℕ) (before values new : List Value) (value : Value)
      → value ≡ value_in defaults numbers tuple k → new ≡ values ++ value ∷ [] → values ≡ before ++ row_of k defaults numbers tuple
      → new ≡ before ++ row_of (k + 1) defaults numbers tuple
  row_grows k before values new value is grown made =
      grown
      ∙ ap (λ (x : List Value). x ++ value ∷ []) made
      ∙ append_assoc before (row_of k defaults numbers tuple) (value ∷ [])
      ∙ ap (λ (x : Value). before ++ (row_of k defaults numbers tuple ++ x ∷ [])) is
      ∙ ap (λ (x : List Value). before ++ x) (sym (row_more k))

  pub row_long : (width : ℕ) → length (row_of width defaults numbers tuple) ≡ width
  row_long width = length-map (range_with_len 0 width) (value_in defaults numbers tuple) ∙ length-range_with_len 0 width

-- ---- the faults of a tuple, value by value

pub drop_at : {A : Type 0} (xs : List A) (i : ℕ) (x : A) → slice_get xs i ≡ Some x → drop i xs ≡ x ∷ drop (i + 1) xs
drop_at [] i x is = absurd cc
drop_at (y ∷ ys) zero x is = let same : y ≡ x = cc in cc
drop_at (y ∷ ys) (suc i) x is = let next : suc i + 1 ≡ suc (i + 1) = omega arith in rw next (drop_at ys i x is)

drop_past : {A : Type 0} (xs : List A) (i : ℕ) → slice_get xs i ≡ None → drop i xs ≡ []
drop_past [] zero is = refl
drop_past [] (suc i) is = refl
drop_past (y ∷ ys) zero is = absurd cc
drop_past (y ∷ ys) (suc i) is = drop_past ys i is

fault_next : (columns : List Column) (numbers : List ℕ) (tuple : List Lit) (i number : ℕ) (lit : Lit) → slice_get numbers i ≡ Some number
    → slice_get tuple i ≡ Some lit
    → tuple_fault columns (drop i numbers) (drop i tuple)
    ≡ option_or (stored_fault columns (number, lit)) (tuple_fault columns (drop (i + 1) numbers) (drop (i + 1) tuple))
fault_next columns numbers tuple i number lit column value = rw (drop_at numbers i number column, drop_at tuple i lit value) refl

no_column : (columns : List Column) (tuple : List Lit) → tuple_fault columns [] tuple ≡ None
no_column columns [] = refl
no_column columns (l ∷ ls) = refl

no_value : (columns : List Column) (numbers : List ℕ) → tuple_fault columns numbers [] ≡ None
no_value columns [] = refl
no_value columns (n ∷ ns) = refl

-- what is still to be checked has the fault of the whole
pub record Rest (columns : List Column) (numbers : List ℕ) (tuple : List Lit) (i : ℕ) : Type 0 where
  pub is : tuple_fault columns (drop i numbers) (drop i tuple) ≡ tuple_fault columns numbers tuple

pub rest_begins : (columns : List Column) (numbers : List ℕ) (tuple : List Lit) → Rest columns numbers tuple 0
rest_begins columns numbers tuple = record { is = refl }

module _ (columns : List Column) (numbers : List ℕ) (tuple : List Lit) (i : ℕ) (rest : Rest columns numbers tuple i) where
  module _ (number : ℕ) (lit : Lit) (column : Some number ≡ slice_get numbers i) (lt : i < length tuple) (value : lit ≡ get_or tuple i lit) where
    split : option_or (stored_fault columns (number, lit)) (tuple_fault columns (drop (i + 1) numbers) (drop (i + 1) tuple)) ≡ tuple_fault columns numbers tuple
    split = sym (fault_next columns numbers tuple i number lit (sym column) (slice_get_read tuple (length tuple) i lit refl lt value)) ∙ rest.is

    pub rest_goes : stored_fault columns (number, lit) ≡ None → Rest columns numbers tuple (i + 1)
    rest_goes none =
        record { is = ap (λ (f : Option NameFault). option_or f (tuple_fault columns (drop (i + 1) numbers) (drop (i + 1) tuple))) (sym none) ∙ split }

    pub rest_fails : (why : NameFault) → IsCause (stored_fault columns (number, lit)) why → IsCause (tuple_fault columns numbers tuple) why
    rest_fails why cause =
        same _ (tuple_fault columns numbers tuple) why split
        (earlier (stored_fault columns (number, lit)) (tuple_fault columns (drop (i + 1) numbers) (drop (i + 1) tuple)) why cause)

  pub no_more_columns : None ≡ slice_get numbers i → tuple_fault columns numbers tuple ≡ None
  no_more_columns none =
      let empty : tuple_fault columns (drop i numbers) (drop i tuple) ≡ None = rw (drop_past numbers i (sym none)) (no_column columns (drop i tuple)) in
      sym rest.is ∙ empty

  pub no_more_values : length tuple ≤ i → tuple_fault columns numbers tuple ≡ None
  no_more_values le =
      let empty : tuple_fault columns (drop i numbers) (drop i tuple) ≡ None =
      rw (drop_past tuple i (slice_get_past tuple i le)) (no_value columns (drop i numbers)) in
      sym rest.is ∙ empty
