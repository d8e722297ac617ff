-- Row numbers in a run, and a run that is put behind others.
use Prim.Native.Nat.{suc}
use Rattle.std.proofs.Common.{◌≡◌, ℕ, ◌+◌, ◌-◌, ◌<◌, ◌≤◌, ◌==◌, Bool, true, false, List, [], ◌∷◌, ◌++◌, length, nat_le, nat_lt, Option, Some, None, if◌then◌else◌, refl, sym, ap, ◌∙◌, ⊎_elim, arith}
use Rattle.std.specs.Prelude.{slice_get}
use Rattle.std.proofs.lemmas.Bool.{cases_Bool, cases_lt, eq-eqb}
use Rattle.std.proofs.lemmas.Bool.Decides.{nat_tests}
use Rattle.im_tables.proofs.Tests.{and-true, eq-true}
use Rattle.im_versions.specs.declared.version.Version.{Version}
use Rattle.im_blocks.specs.declared.run.Run.{Run}
use Rattle.im_blocks.specs.Chains.{newest_scn, only, run_at, run_versions}
use Rattle.im_blocks.specs.Runs.{holds, in_rows, is_in, version_in}
use Rattle.im_blocks.proofs.Places.{push-before, push-here, push-seen}

-- ---- row numbers

-- a row number that lies in so many is one of them
pub record LiesIn (first count r : ℕ) : Type 0 where
  pub from : first ≤ r
  pub to : r < first + count

pub in_rows-true : (first count r : ℕ) → in_rows first count r ≡ true → LiesIn first count r
in_rows-true first count r is =
    let both = and-true (nat_le first r) (nat_lt (r - first) count) is in
    let low = both.0 in
    let high = both.1 in
    record { from = grind (arith, nat_tests, low); to = grind (arith, nat_tests, low, high) }

pub in_rows-from : (first count r : ℕ) → first ≤ r → r < first + count → in_rows first count r ≡ true
in_rows-from first count r from to =
    let low : nat_le first r ≡ true = grind (arith, nat_tests) in
    let high : nat_lt (r - first) count ≡ true = grind (arith, nat_tests) in
    rw (low, high) refl

pub in_rows-below : (first count r : ℕ) → r < first → in_rows first count r ≡ false
in_rows-below first count r below =
    let low : nat_le first r ≡ false = grind (arith, nat_tests) in
    rw low refl

pub in_rows-past : (first count r : ℕ) → first + count ≤ r → in_rows first count r ≡ false
in_rows-past first count r past =
    let low : nat_le first r ≡ true = grind (arith, nat_tests) in
    let high : nat_lt (r - first) count ≡ false = grind (arith, nat_tests) in
    rw (low, high) refl

-- behind the first, those of one fewer from the next on
pub in_rows-next : (first count r : ℕ) → first < r → in_rows (first + 1) count r ≡ in_rows first (suc count) r
in_rows-next first count r later =
    ⊎_elim
    (λ (to : r < first + suc count).
    in_rows-from (first + 1) count r (omega (arith, later)) (omega (arith, to)) ∙ sym (in_rows-from first (suc count) r (omega (arith, later)) to))
    (λ (past : first + suc count ≤ r).
    in_rows-past (first + 1) count r (omega (arith, past)) ∙ sym (in_rows-past first (suc count) r past))
    (cases_lt r (first + suc count))

pub is_in-true : (table first count t r : ℕ) → is_in table first count t r ≡ true → (table ≡ t) × (in_rows first count r ≡ true)
is_in-true table first count t r is =
    let both = and-true (table == t) (in_rows first count r) is in
    (eq-true table t both.0, both.1)

-- none lies in none
pub not_in_none : (table first t r : ℕ) → is_in table first 0 t r ≡ false
not_in_none table first t r =
    ⊎_elim
    (λ (is : is_in table first 0 t r ≡ true).
    let lies = in_rows-true first 0 r ((is_in-true table first 0 t r is).1) in
    let from = lies.from in
    let to = lies.to in
    absurd (omega (arith, from, to)))
    (λ (no : is_in table first 0 t r ≡ false). no)
    (cases_Bool (is_in table first 0 t r))

pub is_in-from : (table first count r : ℕ) → in_rows first count r ≡ true → is_in table first count table r ≡ true
is_in-from table first count r is = rw (eq-eqb table table refl, is) refl

-- one row number alone
pub is_in-one : (table rid t r : ℕ) → (t ≡ table → r ≡ rid → ⊥) → is_in table rid 1 t r ≡ false
is_in-one table rid t r apart =
    ⊎_elim
    (λ (is : is_in table rid 1 t r ≡ true).
    let both = is_in-true table rid 1 t r is in
    let lies = in_rows-true rid 1 r both.1 in
    let from = lies.from in
    let to = lies.to in
    absurd (apart (sym both.0) (omega (arith, from, to))))
    (λ (no : is_in table rid 1 t r ≡ false). no)
    (cases_Bool (is_in table rid 1 t r))

pub is_in-same : (table rid t r : ℕ) → is_in table rid 1 t r ≡ true → (t ≡ table) × (r ≡ rid)
is_in-same table rid t r is =
    let both = is_in-true table rid 1 t r is in
    let lies = in_rows-true rid 1 r both.1 in
    let from = lies.from in
    let to = lies.to in
    (sym both.0, omega (arith, from, to))

pub is_in-here : (table rid : ℕ) → is_in table rid 1 table rid ≡ true
is_in-here table rid = is_in-from table rid 1 rid (in_rows-from rid 1 rid (omega arith) (omega arith))

-- ---- a run behind others

-- what a run shows
abbrev seen_in : ℕ → ℕ → Option Run → List Version
seen_in t r run = run_versions r (only (λ (x : Run). holds x t r) run)

shows_by : (b : Bool) (r : ℕ) (run : Run) → run_versions r (if b then Some run else None) ≡ (if b then version_in run r ∷ [] else [])
shows_by true r run = refl
shows_by false r run = refl

shows : (t r : ℕ) (run : Run) → seen_in t r (Some run) ≡ (if holds run t r then version_in run r ∷ [] else [])
shows t r run = shows_by (holds run t r) r run

-- it shows the rows that it has
pub run-here : (runs : List Run) (run : Run) (t r : ℕ) → holds run t r ≡ true →
    run_versions r (run_at (runs ++ run ∷ []) (length runs) t r) ≡ version_in run r ∷ []
run-here runs run t r is =
    ap (seen_in t r) (push-here runs run) ∙ (shows t r run ∙ ap (λ (b : Bool). if b then version_in run r ∷ [] else []) is)

-- each other row is shown as before
pub run-others : (runs : List Run) (run : Run) (k t r : ℕ) → holds run t r ≡ false →
    run_versions r (run_at (runs ++ run ∷ []) k t r) ≡ run_versions r (run_at runs k t r)
run-others runs run k t r is =
    push-seen (seen_in t r) runs run k (shows t r run ∙ ap (λ (b : Bool). if b then version_in run r ∷ [] else []) is)

-- and so is each row that another run has a version of
pub run-kept : (runs : List Run) (run : Run) (k t r scn : ℕ) → 0 < scn → newest_scn (run_versions r (run_at runs k t r)) ≡ scn →
    run_versions r (run_at (runs ++ run ∷ []) k t r) ≡ run_versions r (run_at runs k t r)
run-kept runs run k t r scn some newest = by (slice_get runs k) refl
  where
    by : (o : Option Run) → slice_get runs k ≡ o → run_versions r (run_at (runs ++ run ∷ []) k t r) ≡ run_versions r (run_at runs k t r)
    by (Some x) is = ap (seen_in t r) (push-before runs run k x is ∙ sym is)
    by None is =
        let none : newest_scn (run_versions r (run_at runs k t r)) ≡ 0 = ap (λ (o : Option Run). newest_scn (seen_in t r o)) is in
        absurd (omega (arith, some, newest, none))

-- the run of a number shows the rows that it has
pub run-shown : (runs : List Run) (run : Run) (k t r : ℕ) → slice_get runs k ≡ Some run → holds run t r ≡ true →
    run_versions r (run_at runs k t r) ≡ version_in run r ∷ []
run-shown runs run k t r at is =
    ap (seen_in t r) at ∙ (shows t r run ∙ ap (λ (b : Bool). if b then version_in run r ∷ [] else []) is)

-- a run that was found
pub record HoldsRun (runs : List Run) (number t r : ℕ) (run : Run) : Type 0 where
  pub at : slice_get runs number ≡ Some run
  pub own : holds run t r ≡ true

pub found_run : (runs : List Run) (number t r : ℕ) (run : Run) → run_at runs number t r ≡ Some run → HoldsRun runs number t r run
found_run runs number t r run found = by (slice_get runs number) refl
  where
    same : (x : Run) → slice_get runs number ≡ Some x → (own : Bool) → holds x t r ≡ own → HoldsRun runs number t r run
    same x is true own =
        let equal : x ≡ run = cc (ap (λ (o : Option Run). only (λ (y : Run). holds y t r) o) is, ap (λ (c : Bool). if c then Some x else None) own, found) in
        record { at = is ∙ ap Some equal; own = ap (λ (y : Run). holds y t r) (sym equal) ∙ own }
    same x is false own =
        absurd (cc (ap (λ (o : Option Run). only (λ (y : Run). holds y t r) o) is, ap (λ (c : Bool). if c then Some x else None) own, found))

    by : (o : Option Run) → slice_get runs number ≡ o → HoldsRun runs number t r run
    by None is = absurd (cc (ap (λ (o : Option Run). only (λ (y : Run). holds y t r) o) is, found))
    by (Some x) is = same x is (holds x t r) refl
