-- The rule of the turn: a fact about its two words, its slot and the views of all passes, which holds between any two steps.
-- In plain words, there is one history, and:
-- - the first word is the number of its entries;
-- - what a live pass has seen, and what it has found and not yet seen, begins it;
-- - the own entries of a live pass, and those that are kept of a pass that has ended, are all that their number has in it
--   since the base;
-- - a number that is neither 0 nor given has no entry in it since the base;
-- - no two live passes have one number, and none has that of a pass that has ended; each of these numbers was given by the
--   first pass, or is 0, which is its own;
-- - what is fixed, and the base, are the same for all live passes, and the base is not past its end;
-- - while the value is at home, its log is the history, what is fixed in it is what the passes say, and no live pass has it;
-- - while the value is out, just one live pass has it;
-- - from the exchange that takes until the load, what that pass has found is the history;
-- - from the load until the exchange that gives, what that pass has seen is the history.
-- Views of passes that have ended are not live, and nothing is said of them. `logs`, `who` and `fixed_of` are what `Logged`
-- says of the value and of its entries.
use Rattle.std.specs.Prelude.{◌≡◌, ◌≢◌, ℕ, ◌≤◌, ◌⊎◌, List, [], ◌∷◌, true, All, Contains, Option, Some, length}
use mathlib.Core.Option.{none, some}
use lib.ListN.{get_elem?}
use Rattle.atomic_table.specs.Table.{State}
use Rattle.im_turn.specs.Logs.{entries_since, Begins}
use Rattle.im_turn.specs.inner.Views.{Recalls}
use Rattle.im_turn.specs.declared.turn.TheConstants.{HOME, OUT}
use Rattle.im_turn.specs.declared.view.View.{View}
use Rattle.im_turn.specs.declared.view.Phase.TheVariants.{Idle, Taken, Holding}

-- the one history, the numbers that were given, the passes that have ended with their entries, what is fixed, and the base
pub record Account (Item : Type 0) : Type 0 where
  pub log : List Item
  pub gave : List ℕ
  pub olds : List (ℕ × List Item)
  pub fixed : List ℕ
  pub base : ℕ

-- what a live view says is so
pub record Fits {Item : Type 0} (who : Item → ℕ) (account : Account Item) (v : View Item) : Type 0 where
  pub sees : Begins v.seen account.log
  pub found : Begins v.held account.log
  pub recalls : Recalls who v
  pub all_own : entries_since who v.who account.base account.log ≡ v.mine
  pub not_ended : All (λ old. old.0 ≢ v.who) account.olds
  pub given : (v.who ≡ 0) ⊎ Contains account.gave v.who
  pub first : v.who ≡ 0 → (v.gave ≡ account.gave) × (v.olds ≡ account.olds)
  pub same_fixed : v.fixed ≡ account.fixed
  pub same_base : v.base ≡ account.base

-- a live view stands at this seat
pub record IsAt {Item : Type 0} (views : List (View Item)) (seat : ℕ) (v : View Item) : Type 0 where
  pub there : get_elem? views seat ≡ some v
  pub live : v.live ≡ true

-- a pass that has ended: its entries are all that its number has in the history, and the number was given
pub record HasEnded {Item : Type 0} (who : Item → ℕ) (account : Account Item) (old : ℕ × List Item) : Type 0 where
  pub all_own : entries_since who old.0 account.base account.log ≡ old.1
  pub given : Contains account.gave old.0

-- all live views fit the history, no two have one number, and a number that was not given has no entry
pub record Roster {Item : Type 0} (who : Item → ℕ) (account : Account Item) (views : List (View Item)) : Type 0 where
  pub fits : (seat : ℕ) (v : View Item) → IsAt views seat v → Fits who account v
  pub ended : All (HasEnded who account) account.olds
  pub strangers : (n : ℕ) → n ≢ 0 → ¬ Contains account.gave n → entries_since who n account.base account.log ≡ []
  pub apart : (seat other : ℕ) (v w : View Item) → IsAt views seat v → IsAt views other w → v.who ≡ w.who → seat ≡ other
  pub past_base : account.base ≤ length account.log

module _ {Value Item : Type 0} (logs : Value → List Item) (fixed_of : Value → List ℕ) (log : List Item) (fixed : List ℕ)
    (s : State (Option Value) (View Item)) where
  -- the value is at home: its log is the history, and no live view has it
  pub record IsHome : Type 0 where
    pub value : Value
    pub words : s.words ≡ length log ∷ HOME ∷ []
    pub homes : s.homes ≡ some (Some value) ∷ []
    pub whole : logs value ≡ log
    pub same_fixed : fixed_of value ≡ fixed
    pub idle : (seat : ℕ) (v : View Item) → IsAt s.views seat v → v.phase ≡ Idle

-- the view has the value: before the load it has found the history, and from the load on it has seen it
abbrev pub HasValue : {Item : Type 0} → List Item → View Item → Type 0
HasValue log v = ((v.phase ≡ Taken) × (v.held ≡ log)) ⊎ ((v.phase ≡ Holding) × (v.seen ≡ log))

-- the value is out with one live view, and all other live views are idle
pub record IsOut {Value Item : Type 0} (log : List Item) (s : State (Option Value) (View Item)) : Type 0 where
  pub holder : ℕ
  pub view : View Item
  pub words : s.words ≡ length log ∷ OUT ∷ []
  pub homes : s.homes ≡ none ∷ []
  pub there : IsAt s.views holder view
  pub has : HasValue log view
  pub others : (seat : ℕ) (v : View Item) → IsAt s.views seat v → seat ≢ holder → v.phase ≡ Idle

-- the rule: there is one history, which all live views fit, and the value is at home or out
pub record OneHistory {Value Item : Type 0} (logs : Value → List Item) (who : Item → ℕ) (fixed_of : Value → List ℕ)
    (s : State (Option Value) (View Item)) : Type 0 where
  pub account : Account Item
  pub roster : Roster who account s.views
  pub place : IsHome logs fixed_of account.log account.fixed s ⊎ IsOut account.log s
