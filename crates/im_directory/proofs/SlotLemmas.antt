-- What is kept of each extent, read after one of them changed or more were added.
use Rattle.std.proofs.Common.{◌≡◌, ◌≢◌, ℕ, ◌<◌, ◌≤◌, ◌⊎◌, inl, inr, Bool, true, false, ◌==◌, ◌&&◌, List, length, set, Option, Some, None, if◌then◌else◌, refl, sym, ap, subst, ◌∙◌, ⊎_elim, arith, length-set}
use Rattle.std.specs.Prelude.{slice_index_or}
use Rattle.std.specs.Option.{IsSome, unwrap_or}
use Rattle.std.proofs.lemmas.Bool.{cases_lt, cases_eq, eq-eqb, false≢true, ne_eqb}
use Rattle.std.proofs.lemmas.Grind.{get_or-set_at}
use Rattle.std.proofs.lemmas.List.{get_or_past, get_or-set_other}
use Rattle.im_tables.specs.Table.{HasCell, cell_at, found_at, with_cell}
use Rattle.im_tables.proofs.ForCallers.{HasCell-found, HasCell-or-empty, HasCell-where, HasCell-with_cell, cell_at-with_cell, cell_at-with_cell_other, cell_at-with_cell_same, same_cell, unwrap_or-found_at, with_cell-none}
use Rattle.im_tables.proofs.Tests.{and-true, eq-true}
use Rattle.im_directory.specs.Slots.{Slot, nothing, slot_at, told}
use Rattle.im_directory.specs.Steps.{TellsAlike, slots_with}

-- an element of a list changed by a function, if it is there
pub get_or-changed : {X : Type 0} (f : X → X) (xs : List X) (d : X) (i j : ℕ) → (i < length xs) ⊎ (f d ≡ d) →
    slice_index_or (set xs i (f (slice_index_or xs i d))) j d ≡ (if i == j then f (slice_index_or xs j d) else slice_index_or xs j d)
get_or-changed f xs d i j stays =
    ⊎_elim (λ (is : j ≡ i).
    rw (eq-eqb i j (sym is))
    (⊎_elim (λ (inside : i < length xs). get_or-set_at xs i j (f (slice_index_or xs i d)) d is inside ∙ ap (λ (k : ℕ). f (slice_index_or xs k d)) (sym is))
    (λ (past : length xs ≤ i).
    let same : f d ≡ d = ⊎_elim (λ (inside : i < length xs). absurd (omega arith)) (λ (e : f d ≡ d). e) stays in
    let long = length-set xs i (f (slice_index_or xs i d)) in
    get_or_past (set xs i (f (slice_index_or xs i d))) j d (omega (arith, is, long)) ∙ (sym same ∙ ap f (sym (get_or_past xs j d (omega (arith, is))))))
    (cases_lt i (length xs))))
    (λ (other : j ≢ i). rw (ne_eqb i j (λ (e : i ≡ j). other (sym e))) (get_or-set_other xs i j (f (slice_index_or xs i d)) d other))
    (cases_eq j i)

module _ {U : Type 0} where
  changed_by : (b : Bool) (f : Slot U → Slot U) (its this : Slot U) → (b ≡ true → its ≡ this) → (if b then f its else this) ≡ (if b then f this else this)
  changed_by true f its this same = ap f (same refl)
  changed_by false f its this same = refl

  changes : (f : Slot U → Slot U) (slots : List (List (Slot U))) (table extent : ℕ) → HasCell slots table extent ⊎ (f nothing ≡ nothing) →
      HasCell slots table extent ⊎ (f (slot_at slots table extent) ≡ nothing)
  changes f slots table extent stays =
      ⊎_elim (λ (has : HasCell slots table extent). inl has)
      (λ (keeps : f nothing ≡ nothing).
      ⊎_elim (λ (has : HasCell slots table extent). inl has)
      (λ (none : cell_at nothing slots table extent ≡ nothing). inr (ap f none ∙ keeps))
      (HasCell-or-empty nothing slots table extent))
      stays

  -- an extent that is there, or whose absence the change keeps, has changed, and no other one
  pub slot_at-changed : (f : Slot U → Slot U) (slots : List (List (Slot U))) (table extent t e : ℕ) → HasCell slots table extent ⊎ (f nothing ≡ nothing) →
      slot_at (slots_with f table extent slots) t e ≡ (if (table == t) && (extent == e) then f (slot_at slots t e) else slot_at slots t e)
  slot_at-changed f slots table extent t e stays =
      cell_at-with_cell nothing slots table extent (f (slot_at slots table extent)) t e (changes f slots table extent stays)
      ∙ changed_by ((table == t) && (extent == e)) f (slot_at slots table extent) (slot_at slots t e)
      (λ is. let both = and-true (table == t) (extent == e) is in
      ap (λ (k : ℕ). slot_at slots k extent) (eq-true table t both.0) ∙ ap (λ (k : ℕ). slot_at slots t k) (eq-true extent e both.1))

  -- the slot that was found
  pub slot_at-found : (slots : List (List (Slot U))) (table extent : ℕ) (slot : Slot U) → found_at slots table extent ≡ Some slot →
      slot ≡ slot_at slots table extent
  slot_at-found slots table extent slot is =
      ap (λ (o : Option (Slot U)). unwrap_or o nothing) (sym is) ∙ unwrap_or-found_at nothing slots table extent

  -- the slot that was found has changed
  pub slots_with-found : (f : Slot U → Slot U) (slots : List (List (Slot U))) (table extent : ℕ) (slot after : Slot U) →
      found_at slots table extent ≡ Some slot → after ≡ f slot → with_cell table extent after slots ≡ slots_with f table extent slots
  slots_with-found f slots table extent slot after is changed =
      ap (λ (s : Slot U). with_cell table extent s slots) (changed ∙ ap f (slot_at-found slots table extent slot is))

  -- where none was found, nothing has changed
  pub slots_with-none : (f : Slot U → Slot U) (slots : List (List (Slot U))) (table extent : ℕ) → found_at slots table extent ≡ None →
      slots ≡ slots_with f table extent slots
  slots_with-none f slots table extent none = sym (with_cell-none slots table extent (f (slot_at slots table extent)) none)

  -- and nothing is kept of it
  pub slot_at-none : (slots : List (List (Slot U))) (table extent : ℕ) → found_at slots table extent ≡ None → nothing ≡ slot_at slots table extent
  slot_at-none slots table extent none = ap (λ (o : Option (Slot U)). unwrap_or o nothing) (sym none) ∙ unwrap_or-found_at nothing slots table extent

  -- all is read as before where nothing changes
  pub TellsAlike-none : (slots : List (List (Slot U))) → TellsAlike slots slots
  TellsAlike-none slots = record { each = λ table extent. refl; room = λ table extent has. has }

  -- where of the slot that was found the same is read, all is read as before
  pub TellsAlike-found : (slots : List (List (Slot U))) (table extent : ℕ) (slot after : Slot U) →
      found_at slots table extent ≡ Some slot → told after ≡ told slot → TellsAlike slots (with_cell table extent after slots)
  TellsAlike-found slots table extent slot after is same = record {
    each = λ t e.
        ⊎_elim
        (λ (here : (t ≡ table) × (e ≡ extent)). rw (here.0, here.1)
        (ap told (cell_at-with_cell_same nothing slots table extent after (HasCell-found slots table extent slot is))
        ∙ (same ∙ ap told (slot_at-found slots table extent slot is))))
        (λ (apart : t ≡ table → e ≡ extent → ⊥). ap told (cell_at-with_cell_other nothing slots table extent after t e apart))
        (same_cell table extent t e);
    room = HasCell-with_cell slots table extent after;
  }

  -- where a build lives, there is a slot
  pub HasCell-growing : (slots : List (List (Slot U))) (table extent : ℕ) → IsSome (slot_at slots table extent).growing → HasCell slots table extent
  HasCell-growing slots table extent some =
      HasCell-where nothing slots table extent
      (λ (none : slot_at slots table extent ≡ nothing). absurd (false≢true (subst (λ (s : Slot U). IsSome s.growing) none some)))
