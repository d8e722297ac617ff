-- The lock cells after a write, and after the end of a transaction.
use Rattle.std.proofs.Common.{◌≡◌, ℕ, zero, suc, ◌+◌, ◌<◌, ◌≤◌, Bool, true, false, not, ◌==◌, ◌&&◌, ◌||◌, List, [], ◌∷◌, ◌++◌, All, Some, None, ⊎_elim, refl, sym, ap, ◌∙◌, subst, arith, eq-eqb, ne_eqb, if◌then◌else◌}
use Rattle.std.specs.List.{range_with_len, find}
use Rattle.std.proofs.lemmas.Bool.{cases_Bool, cases_eq, false≢true}
use Rattle.std.proofs.lemmas.List.Elements.{All-head, All-tail}
use Rattle.std.proofs.lemmas.List.Folds.{list_any-append}
use Rattle.im_values.specs.declared.limits.TheConstants.{NUMBERS}
use Rattle.im_tables.proofs.Lists.{find-none, find-one}
use Rattle.im_tables.proofs.Tests.{and-true, eq-true}
use Rattle.im_history.specs.declared.change.Change.{Change}
use Rattle.im_history.specs.declared.entry.What.{What}
use Rattle.im_history.specs.History.{History}
use Rattle.im_history.specs.Touched.{is_to, touches}
use Rattle.im_history.specs.Transactions.{pending, pending_after}
use Rattle.im_history.proofs.Laws.{pending-push}
use Rattle.im_txn.specs.Agrees.{Agrees}
use Rattle.im_txn.specs.Effects.{IsWritten, IsEnded}
use Rattle.im_txn.specs.LockCells.{Locks, lock_of, other_in}
use Rattle.im_txn.specs.Standing.{Standing, activity_at, lock_at, IsFree}
use Rattle.im_txn.proofs.AgreesLemmas.{with_entry, Locked}

-- no other holds a row of the changes
free-at : (cells : Locks) (who : ℕ) (changes : List Change) (table rid : ℕ) →
    All (λ change. other_in who (lock_of cells change.table change.rid) ≡ None) changes → touches changes table rid ≡ true →
    other_in who (lock_of cells table rid) ≡ None
free-at cells who [] table rid free touched = absurd (false≢true touched)
free-at cells who (change ∷ changes) table rid free touched =
    ⊎_elim (λ (here : is_to table rid change ≡ true).
    let same_table : change.table ≡ table = eq-true change.table table (and-true (change.table == table) (change.rid == rid) here).0 in
    let same_rid : change.rid ≡ rid = eq-true change.rid rid (and-true (change.table == table) (change.rid == rid) here).1 in
    let first = All-head (λ (c : Change). other_in who (lock_of cells c.table c.rid) ≡ None) change changes free in
    subst (λ (t : ℕ). other_in who (lock_of cells t rid) ≡ None) same_table
    (subst (λ (r : ℕ). other_in who (lock_of cells change.table r) ≡ None) same_rid first))
    (λ (off : is_to table rid change ≡ false).
    let later : touches changes table rid ≡ true = rw off at touched in
    free-at cells who changes table rid (All-tail (λ (c : Change). other_in who (lock_of cells c.table c.rid) ≡ None) change changes free) later)
    (cases_Bool (is_to table rid change))

none-not : (b : Bool) (owner : ℕ) → (if b then None else Some owner) ≡ None → b ≡ true
none-not true owner none = refl
none-not false owner none = absurd cc

-- a cell that names no other names no other
names-none : (who cell other : ℕ) → other_in who cell ≡ None → (other ≡ who → ⊥) → (cell == suc other) ≡ false
names-none who zero other none apart = ne_eqb 0 (suc other) (λ (e : 0 ≡ suc other). omega arith)
names-none who (suc owner) other none apart =
    let mine : owner ≡ who = eq-true owner who (none-not (owner == who) owner none) in
    ne_eqb (suc owner) (suc other) (λ (e : suc owner ≡ suc other). apart (omega arith))

or-true : (b : Bool) → b || true ≡ true
or-true true = refl
or-true false = refl

or-false : (b : Bool) → b || false ≡ b
or-false true = refl
or-false false = refl

touched-if : (b : Bool) (list : List Change) (what : What) (changes : List Change) (table rid : ℕ) → pending_after list what ≡ list ++ changes →
    touches (if b then pending_after list what else list) table rid ≡
    (if b then touches list table rid || touches changes table rid else touches list table rid)
touched-if true list what changes table rid adds = ap (λ (l : List Change). touches l table rid) adds ∙ list_any-append (is_to table rid) list changes
touched-if false list what changes table rid adds = refl

missed : (b was hit : Bool) → hit ≡ false → (if b then was || hit else was) ≡ was
missed true was hit miss = ap (λ (c : Bool). was || c) miss ∙ or-false was
missed false was hit miss = refl

cell-most : (b : Bool) (x y most : ℕ) → x ≤ most → y ≤ most → (if b then x else y) ≤ most
cell-most true x y most first second = first
cell-most false x y most first second = second

-- the cells after a write of changes whose rows are free
pub Locked-write : (h : History) (who : ℕ) (what : What) (place : ℕ) (changes : List Change) (old new : Standing) →
    ((so_far : List Change) → pending_after so_far what ≡ so_far ++ changes) → Agrees h old → who < NUMBERS → IsFree old who changes →
    IsWritten old new who place changes → Locked (with_entry h who what) new
Locked-write h who what place changes old new adds agrees number free written = record {
  locks = λ table rid other below.
      let list : pending (with_entry h who what) other ≡ (if who == other then pending_after (pending h other) what else pending h other) =
      pending-push h (record { who = who; what = what }) other in
      let touched : touches (pending (with_entry h who what) other) table rid ≡
      (if who == other then touches (pending h other) table rid || touches changes table rid else touches (pending h other) table rid) =
      ap (λ (l : List Change). touches l table rid) list ∙ touched-if (who == other) (pending h other) what changes table rid (adds (pending h other)) in
      ⊎_elim (λ (hit : touches changes table rid ≡ true).
      let cell : lock_at new table rid ≡ who + 1 = written.locks table rid ∙ ap (λ (b : Bool). if b then who + 1 else lock_at old table rid) hit in
      ⊎_elim (λ (is : who ≡ other).
      let yes_cell : (lock_at new table rid == suc other) ≡ true = eq-eqb (lock_at new table rid) (suc other) (omega (arith, cell, is)) in
      yes_cell ∙ sym (touched ∙ rw (eq-eqb who other is, hit) (or-true (touches (pending h other) table rid))))
      (λ (apart : who ≡ other → ⊥).
      let no_cell : (lock_at new table rid == suc other) ≡ false =
      ne_eqb (lock_at new table rid) (suc other) (λ (e : lock_at new table rid ≡ suc other). apart (omega (arith, cell, e))) in
      let was : (lock_at old table rid == suc other) ≡ false =
      names-none who (lock_at old table rid) other (free-at old.locks who changes table rid free.each hit) (λ (e : other ≡ who). apart (sym e)) in
      let untouched : touches (pending h other) table rid ≡ false = sym (agrees.locks table rid other below) ∙ was in
      no_cell ∙ sym (touched ∙ rw (ne_eqb who other apart) untouched))
      (cases_eq who other))
      (λ (miss : touches changes table rid ≡ false).
      let cell : lock_at new table rid ≡ lock_at old table rid = written.locks table rid
      ∙ ap (λ (b : Bool). if b then who + 1 else lock_at old table rid) miss in
      let same : (lock_at new table rid == suc other) ≡ touches (pending h other) table rid = ap (λ (n : ℕ). n == suc other) cell
      ∙ agrees.locks table rid other below in
      same ∙ sym (touched ∙ missed (who == other) (touches (pending h other) table rid) (touches changes table rid) miss))
      (cases_Bool (touches changes table rid));
  holders =
      λ table rid. rw (written.locks table rid) (cell-most (touches changes table rid) (who + 1) (lock_at old table rid) NUMBERS (omega arith)
      (agrees.holders table rid));
}

cleared-if : (b : Bool) (list : List Change) (what : What) (table rid : ℕ) → pending_after list what ≡ [] →
    touches (if b then pending_after list what else list) table rid ≡ (if b then false else touches list table rid)
cleared-if true list what table rid clears = ap (λ (l : List Change). touches l table rid) clears
cleared-if false list what table rid clears = refl

-- the cells after the end of a transaction
pub Locked-end : (h : History) (who : ℕ) (what : What) (old new : Standing) → ((so_far : List Change) → pending_after so_far what ≡ []) → Agrees h old →
    who < NUMBERS → IsEnded old new who → Locked (with_entry h who what) new
Locked-end h who what old new clears agrees number ends = record {
  locks = λ table rid other below.
      let mine : List Change = (activity_at old who).pending in
      let list = pending-push h (record { who = who; what = what }) other in
      let touched : touches (pending (with_entry h who what) other) table rid ≡ (if who == other then false else touches (pending h other) table rid) =
      ap (λ (l : List Change). touches l table rid) list ∙ cleared-if (who == other) (pending h other) what table rid (clears (pending h other)) in
      let held : (lock_at old table rid == suc who) ≡ touches mine table rid = agrees.locks table rid who number
      ∙ ap (λ (l : List Change). touches l table rid) (sym (agrees.changes who)) in
      ⊎_elim (λ (hit : touches mine table rid ≡ true).
      let cell : lock_at new table rid ≡ 0 = ends.locks table rid ∙ ap (λ (b : Bool). if b then 0 else lock_at old table rid) hit in
      let no_cell : (lock_at new table rid == suc other) ≡ false =
      ne_eqb (lock_at new table rid) (suc other) (λ (e : lock_at new table rid ≡ suc other). omega (arith, cell, e)) in
      let owner : lock_at old table rid ≡ suc who = eq-true (lock_at old table rid) (suc who) (held ∙ hit) in
      ⊎_elim (λ (is : who ≡ other). no_cell ∙ sym (touched ∙ rw (eq-eqb who other is) refl))
      (λ (apart : who ≡ other → ⊥).
      let was : (lock_at old table rid == suc other) ≡ false =
      ne_eqb (lock_at old table rid) (suc other) (λ (e : lock_at old table rid ≡ suc other). apart (omega (arith, owner, e))) in
      let untouched : touches (pending h other) table rid ≡ false = sym (agrees.locks table rid other below) ∙ was in
      no_cell ∙ sym (touched ∙ rw (ne_eqb who other apart) untouched))
      (cases_eq who other))
      (λ (miss : touches mine table rid ≡ false).
      let cell : lock_at new table rid ≡ lock_at old table rid = ends.locks table rid ∙ ap (λ (b : Bool). if b then 0 else lock_at old table rid) miss in
      let same = ap (λ (n : ℕ). n == suc other) cell in
      ⊎_elim (λ (is : who ≡ other).
      let free : (lock_at old table rid == suc other) ≡ false = subst (λ (k : ℕ). (lock_at old table rid == suc k) ≡ false) is (held ∙ miss) in
      same ∙ (free ∙ sym (touched ∙ rw (eq-eqb who other is) refl)))
      (λ (apart : who ≡ other → ⊥). same ∙ (agrees.locks table rid other below ∙ sym (touched ∙ rw (ne_eqb who other apart) refl)))
      (cases_eq who other))
      (cases_Bool (touches mine table rid));
  holders =
      λ table rid. rw (ends.locks table rid) (cell-most (touches (activity_at old who).pending table rid) 0 (lock_at old table rid) NUMBERS (omega arith)
      (agrees.holders table rid));
}

and-false : (b : Bool) → b && false ≡ false
and-false true = refl
and-false false = refl

-- the holder that a cell names is the number whose changes touch the row
pub holder-is : (who cell : ℕ) (touch : ℕ → Bool) → cell ≤ NUMBERS → ((other : ℕ) → other < NUMBERS → (cell == suc other) ≡ touch other) →
    other_in who cell ≡ find (λ other. not (other == who) && touch other) (range_with_len 0 NUMBERS)
holder-is who zero touch few names =
    sym (find-none (λ other. not (other == who) && touch other) 0 NUMBERS (λ other from to.
    let free : touch other ≡ false = sym (names other to) ∙ ne_eqb 0 (suc other) (λ (e : 0 ≡ suc other). omega arith) in
    rw free (and-false (not (other == who)))))
holder-is who (suc owner) touch few names =
    let off = λ (other : ℕ) (to : other < NUMBERS) (apart : other ≡ owner → ⊥). sym (names other to)
    ∙ ne_eqb (suc owner) (suc other) (λ (e : suc owner ≡ suc other). apart (omega arith)) in
    ⊎_elim (λ (is : owner ≡ who).
    let none = find-none (λ other. not (other == who) && touch other) 0 NUMBERS (λ other from to.
    ⊎_elim (λ (same : other ≡ who). rw (eq-eqb other who same) refl)
    (λ (apart : other ≡ who → ⊥). rw (off other to (λ (e : other ≡ owner). apart (e ∙ is))) (and-false (not (other == who)))) (cases_eq other who)) in
    rw (eq-eqb owner who is) (sym none))
    (λ (apart : owner ≡ who → ⊥).
    let yes_touch : touch owner ≡ true = sym (names owner (omega arith)) ∙ eq-eqb (suc owner) (suc owner) refl in
    let here : not (owner == who) && touch owner ≡ true = rw (ne_eqb owner who apart) yes_touch in
    let one =
    find-one (λ other. not (other == who) && touch other) 0 NUMBERS owner (omega arith) (omega arith) here
    (λ other to not_it. rw (off other to not_it) (and-false (not (other == who)))) in
    rw (ne_eqb owner who apart) (sym one))
    (cases_eq owner who)
