-- The stale rows of an extent, from its notes.
use Rattle.std.proofs.Common.{◌≡◌, ℕ, zero, suc, ◌+◌, ◌-◌, ◌*◌, ◌/◌, ◌≤◌, ◌<◌, Bool, true, false, ◌==◌, ◌&&◌, ◌||◌, nat_le, nat_lt, List, [], ◌∷◌, length, filter, Some, is_some, if◌then◌else◌, refl, sym, ap, subst, ◌∙◌, ⊎_elim, arith}
use Rattle.std.specs.List.{range_with_len, slice_get}
use Rattle.std.specs.List.Sorted.{IsStrictlyIncreasing}
use Rattle.std.proofs.Math.Nat.{div-mul-le_self, lt-div-mul-add}
use Rattle.std.proofs.lemmas.Bool.{false≢true, cases_eq, cases_lt, eq-eqb, ne_eqb, le-leb, lt-leb, lt-ltb, le-ltb}
use Rattle.std.proofs.lemmas.List.FromFn.{get_or-range_with_len, length-range_with_len}
use Rattle.std.proofs.lemmas.List.Kept.{IsStrictlyIncreasing-filter}
use Rattle.std.proofs.lemmas.Nat.{div-mul-add}
use Rattle.std.proofs.lemmas.Option.{slice_get-get_or}
use Rattle.im_journal.specs.Stale.{Note, is_in, notes_to, stale_rows_at}
use Rattle.im_journal.proofs.ForCallers.{is_in-stale_rows, same_rising, stale_rows-increasing}
use Rattle.im_history.specs.History.{History}
use Rattle.im_history.specs.Units.{rows_of_extent, stale, touched_between}
use Rattle.im_history.specs.Views.{per_at}
use Rattle.im_directory.specs.Agrees.{IsJournal}
use Rattle.im_directory.specs.Effects.{NoneBehind}
use Rattle.im_directory.proofs.AgreesLemmas.{was_mapped}
use Rattle.im_directory.proofs.NoteLemmas.{AreUpTo}
use Rattle.im_directory.proofs.SoundLemmas.{some_same}

-- ---- the last note

last_below : (scn : ℕ) (notes : List Note) (last : Note) → AreUpTo scn notes → slice_get notes (length notes - 1) ≡ Some last → last.1 ≤ scn
last_below scn [] last upto is = absurd (false≢true (ap is_some is))
last_below scn (note ∷ notes) last upto is =
    let i : ℕ = length (note ∷ notes) - 1 in
    let inside : i < length (note ∷ notes) = omega arith in
    let same = some_same _ _ (sym (slice_get-get_or (note ∷ notes) i last inside) ∙ is) in
    subst (λ (n : Note). n.1 ≤ scn) same (upto i last inside)

-- no note is of a later commit
pub NoneBehind-from : (scn : ℕ) (notes : List Note) → AreUpTo scn notes → NoneBehind scn notes
NoneBehind-from scn notes upto = λ last is.
    let was = was_mapped (λ (n : Note). n.1) (slice_get notes (length notes - 1)) last is in
    let below = last_below scn notes was.was upto was.is in
    omega (arith, below, was.same)

-- ---- the row numbers of an extent

range-increasing : (a n : ℕ) → IsStrictlyIncreasing (range_with_len a n)
range-increasing a n k inside =
    let long = length-range_with_len a n in
    let first = get_or-range_with_len a n k 0 (omega (arith, long, inside)) in
    let second = get_or-range_with_len a n (k + 1) 0 (omega (arith, long, inside)) in
    omega (arith, first, second)

never : (a b : Bool) → a && false ≡ b && false
never true true = refl
never true false = refl
never false true = refl
never false false = refl

in_filter_by : (b : Bool) (p : ℕ → Bool) (x n : ℕ) (rest all : List ℕ) → p x ≡ b → is_in rest n ≡ is_in all n && p n →
    is_in (if b then x ∷ rest else rest) n ≡ ((x == n) || is_in all n) && p n
in_filter_by true p x n rest all is same =
    ⊎_elim (λ (e : x ≡ n). let here : p n ≡ true = ap p (sym e) ∙ is in rw (eq-eqb x n e) (sym here))
    (λ (other : x ≡ n → ⊥). rw (ne_eqb x n other) same)
    (cases_eq x n)
in_filter_by false p x n rest all is same =
    ⊎_elim (λ (e : x ≡ n). let here : p n ≡ false = ap p (sym e) ∙ is in same
    ∙ (ap (λ (b : Bool). is_in all n && b) here ∙ (never (is_in all n) ((x == n) || is_in all n)
    ∙ sym (ap (λ (b : Bool). ((x == n) || is_in all n) && b) here))))
    (λ (other : x ≡ n → ⊥). rw (ne_eqb x n other) same)
    (cases_eq x n)

is_in-filter : (p : ℕ → Bool) (xs : List ℕ) (n : ℕ) → is_in (filter p xs) n ≡ is_in xs n && p n
is_in-filter p [] n = refl
is_in-filter p (x ∷ xs) n = in_filter_by (p x) p x n (filter p xs) xs refl (is_in-filter p xs n)

-- whether a number is in a range
abbrev within : ℕ → ℕ → ℕ → Bool
within a k n = nat_le a n && nat_lt n (a + k)

is_in-range : (a k n : ℕ) → is_in (range_with_len a k) n ≡ within a k n
is_in-range a zero n =
    ⊎_elim (λ (below : n < a). rw (lt-leb a n below) refl)
    (λ (above : a ≤ n). let past : a + 0 ≤ n = omega (arith, above) in rw (le-leb a n above, le-ltb n (a + 0) past) refl)
    (cases_lt n a)
is_in-range a (suc k) n =
    ap (λ (b : Bool). (a == n) || b) (is_in-range (a + 1) k n)
    ∙ ⊎_elim (λ (is : a ≡ n).
    let up : a ≤ n = omega (arith, is) in
    let down : n < a + suc k = omega (arith, is) in
    rw (eq-eqb a n is, le-leb a n up, lt-ltb n (a + suc k) down) refl)
    (λ (other : a ≡ n → ⊥).
    let same : a + 1 + k ≡ a + suc k = omega arith in
    rw (ne_eqb a n other, same)
    (⊎_elim (λ (below : n < a). let far : n < a + 1 = omega (arith, below) in rw (lt-leb (a + 1) n far, lt-leb a n below) refl)
    (λ (above : a ≤ n). let beyond : a + 1 ≤ n = omega (arith, above, other) in rw (le-leb (a + 1) n beyond, le-leb a n above) refl)
    (cases_lt n a)))
    (cases_eq a n)

-- a row number is in its extent
within_extent : (per extent rid : ℕ) → 1 ≤ per → within (extent * per) per rid ≡ (rid / per == extent)
within_extent per extent rid some =
    let floor = div-mul-le_self rid per in
    let roof = lt-div-mul-add {a = rid} {b = per} some in
    ⊎_elim (λ (is : rid / per ≡ extent).
    let start : rid / per * per ≡ extent * per = ap (λ (k : ℕ). k * per) is in
    let up : extent * per ≤ rid = omega (arith, floor, start) in
    let down : rid < extent * per + per = omega (arith, roof, start) in
    rw (eq-eqb (rid / per) extent is, le-leb (extent * per) rid up, lt-ltb rid (extent * per + per) down) refl)
    (λ (other : rid / per ≡ extent → ⊥).
    rw (ne_eqb (rid / per) extent other)
    (⊎_elim (λ (below : rid < extent * per). rw (lt-leb (extent * per) rid below) refl)
    (λ (above : extent * per ≤ rid).
    let past : extent * per + per ≤ rid = ⊎_elim (λ (near : rid < extent * per + per).
    let left : ℕ = rid - extent * per in
    let small : left < per = omega (arith, near, above) in
    let whole : extent * per + left ≡ rid = omega (arith, above) in
    absurd (other (sym (ap (λ (k : ℕ). k / per) whole) ∙ div-mul-add extent per left small)))
    (λ (far : extent * per + per ≤ rid). far)
    (cases_lt rid (extent * per + per)) in
    rw (le-leb (extent * per) rid above, le-ltb rid (extent * per + per) past) refl)
    (cases_lt rid (extent * per))))
    (cases_eq (rid / per) extent)

-- the stale rows of an extent are those that are noted up to an SCN
pub stale-noted : (h : History) (table extent after : ℕ) (notes : List Note) (to : ℕ) → IsJournal h table extent after notes → 1 ≤ per_at h table →
    stale h table extent after to ≡ stale_rows_at notes to
stale-noted h table extent after notes to journal some =
    let per : ℕ = per_at h table in
    same_rising (stale h table extent after to) (stale_rows_at notes to)
    (IsStrictlyIncreasing-filter (touched_between h after to table) (rows_of_extent per extent) (range-increasing (extent * per) per))
    (stale_rows-increasing (notes_to to notes))
    (λ rid.
    is_in-filter (touched_between h after to table) (rows_of_extent per extent) rid
    ∙ (ap (λ (b : Bool). b && touched_between h after to table rid) (is_in-range (extent * per) per rid ∙ within_extent per extent rid some)
    ∙ (sym (journal.each to rid) ∙ sym (is_in-stale_rows (notes_to to notes) rid))))
