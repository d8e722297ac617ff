-- What each kind of step tells the pass that makes it, of its seat before and after.
use Rattle.std.specs.Prelude.{◌≡◌, ◌≢◌, ℕ, ◌⊎◌, List, [], ◌∷◌, true, Option, Some, None}
use Rattle.atomic_table.specs.Table.{Me}
use Rattle.im_turn.specs.Logs.{AreInLine, Begins, GrewByOthers}
use Rattle.im_turn.specs.inner.Views.{Recalls, taken, loaded, added, returned, compared}
use Rattle.im_turn.specs.declared.turn.TheConstants.{HOME}
use Rattle.im_turn.specs.declared.view.View.{View}
use Rattle.im_turn.specs.declared.view.Phase.TheVariants.{Idle, Holding}

-- a seat of the turn: its view, and the slots that it carries
abbrev pub SeatState : Type 0 → Type 0 → Type 0
SeatState Value Item = Me (Option Value) (View Item)

-- a pass between two calls: it is idle and carries nothing, or it has the value and carries the emptied slot
pub record IsSettled {Value Item : Type 0} (who : Item → ℕ) (seat : SeatState Value Item) : Type 0 where
  pub live : seat.0.live ≡ true
  pub recalls : Recalls who seat.0
  pub carries : ((seat.0.phase ≡ Idle) × (seat.1 ≡ [])) ⊎ ((seat.0.phase ≡ Holding) × (seat.1 ≡ (0, None) ∷ []))

-- a pass that is idle, and carries nothing
pub record IsFree {Value Item : Type 0} (who : Item → ℕ) (seat : SeatState Value Item) : Type 0 where
  pub live : seat.0.live ≡ true
  pub recalls : Recalls who seat.0
  pub idle : seat.0.phase ≡ Idle
  pub carries : seat.1 ≡ []

-- a pass that has the value, and carries the emptied slot
pub record IsHolder {Value Item : Type 0} (who : Item → ℕ) (seat : SeatState Value Item) : Type 0 where
  pub live : seat.0.live ≡ true
  pub recalls : Recalls who seat.0
  pub has : seat.0.phase ≡ Holding
  pub carries : seat.1 ≡ (0, None) ∷ []

-- a pass that has the value, and carries the slot with this value in it
pub record IsFilled {Value Item : Type 0} (value : Value) (seat : SeatState Value Item) : Type 0 where
  pub live : seat.0.live ≡ true
  pub has : seat.0.phase ≡ Holding
  pub carries : seat.1 ≡ (0, Some value) ∷ []

-- the pass has the value, whose log is what it had seen and then entries of others
pub record Took {Value Item : Type 0} (logs : Value → List Item) (who : Item → ℕ) (fixed_of : Value → List ℕ)
    (before after : SeatState Value Item) : Type 0 where
  pub value : Value
  pub is : after ≡ (taken (logs value) before.0, (0, Some value) ∷ [])
  pub grew : GrewByOthers who before.0.who before.0.seen (logs value)
  pub same_fixed : fixed_of value ≡ before.0.fixed

-- the exchange that takes, of the flag that it found: it changes nothing where the value is out
abbrev pub takes : {Value Item : Type 0} → (Value → List Item) → (Item → ℕ) → (Value → List ℕ) → SeatState Value Item → ℕ → SeatState Value Item → Type 0
takes logs who fixed_of before found after =
    (found ≡ HOME → Took logs who fixed_of before after) × (found ≢ HOME → after ≡ before)

-- the load that records what is seen
abbrev pub loads : {Value Item : Type 0} → SeatState Value Item → SeatState Value Item → Type 0
loads before after = after ≡ (loaded before.0, before.1)

-- the add to the count, of the entries that the value in the slot has gained
abbrev pub adds : {Value Item : Type 0} → (Value → List Item) → SeatState Value Item → SeatState Value Item → Type 0
adds {Value} logs before after =
    (value : Value) → before.1 ≡ (0, Some value) ∷ [] → after ≡ (added (logs value) before.0, before.1)

-- the exchange that gives
abbrev pub gives_back : {Value Item : Type 0} → SeatState Value Item → SeatState Value Item → Type 0
gives_back before after = after ≡ (returned before.0, [])

-- a load that changes nothing, and shows that a new pass has no entries yet
abbrev pub recalls : {Value Item : Type 0} → (Item → ℕ) → SeatState Value Item → SeatState Value Item → Type 0
recalls who before after = (after ≡ before) × Recalls who before.0

-- the load that compares: one of the two logs begins the other, and the longer one, which both begin, is seen
pub record Compares {Value Item : Type 0} (who : Item → ℕ) (before after : SeatState Value Item) : Type 0 where
  pub is : after ≡ (compared before.0, before.1)
  pub in_line : AreInLine before.0.seen before.0.held
  pub seen_begins : Begins before.0.seen (compared before.0).seen
  pub found_begins : Begins before.0.held (compared before.0).seen
  pub recalls : Recalls who (compared before.0)
