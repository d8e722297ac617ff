-- Nobody leaves by a line whose turns add no Leave.
use Rattle.std.proofs.Common.{◌≡◌, ℕ, ◌==◌, ◌&&◌, ◌||◌, Bool, true, false, [], ◌∷◌, ◌++◌, Option, Some, None, refl, ap, ◌∙◌, inl, inr, append-nil}
use Rattle.std.specs.Prelude.{⊤}
use Rattle.im_history.specs.declared.entry.Entry.{Entry}
use Rattle.im_history.specs.declared.entry.What.{What}
use Rattle.im_history.specs.History.{History}
use Rattle.im_history.specs.Leaves.{has_left, is_leave}
use Rattle.im_history.proofs.LeaveLaws.{has_left-push}
use Rattle.im_plan.specs.Goes.{After, Goes, Lacks, PlayedLine, Others}
use Rattle.im_plan.specs.Plan.{Plan, End, Turn, counted, made}
use Rattle.im_statements.proofs.OtherLaws.{stays-after}

-- it is no Leave
abbrev pub IsNoLeave : Option What → Type 0
IsNoLeave None = ⊤
IsNoLeave (Some entry) = is_leave entry ≡ false

left-made : (h : History) (who number : ℕ) (added : Option What) → IsNoLeave added
    → has_left (h ++ made who added) number ≡ has_left h number
left-made h who number None stays = ap (λ (log : History). has_left log number) (append-nil h)
left-made h who number (Some entry) stays =
    has_left-push h (record { who = who; what = entry }) number
    ∙ (ap (λ (b : Bool). has_left h number || ((who == number) && b)) stays ∙ or_never (has_left h number) (who == number))
  where
    or_never : (a b : Bool) → (a || (b && false)) ≡ a
    or_never true b = refl
    or_never false true = refl
    or_never false false = refl

left-other : (number : ℕ) (h : History) (entry : Entry) → (entry.who == number) ≡ false → has_left (h ++ entry ∷ []) number ≡ has_left h number
left-other number h entry other =
    has_left-push h entry number
    ∙ (ap (λ (b : Bool). has_left h number || (b && is_leave entry.what)) other ∙ or_no (has_left h number))
  where
    or_no : (a : Bool) → (a || false) ≡ a
    or_no true = refl
    or_no false = refl

left-after : (mine : ℕ → Bool) (number : ℕ) (old at : History) → mine number ≡ true → After (Others mine) old at
    → has_left at number ≡ has_left old number
left-after mine number = stays-after (λ h. has_left h number) number (left-other number) mine

-- ---- plans that add none

-- no turn of the plan adds a Leave
abbrev pub AddsNoLeave : {R : Type 0} → Plan R → Type 0
AddsNoLeave (End value) = ⊤
AddsNoLeave (Turn decides adds on) = (at : History) → IsNoLeave (adds at) × AddsNoLeave (on at)

module _ (mine : ℕ → Bool) (number : ℕ) (is_mine : mine number ≡ true) where
  pub goes-left : {R : Type 0} (who : ℕ) (h : History) (plan : Plan R) (result : R) (new : History) → AddsNoLeave plan → Goes (Others mine) who h plan result new
      → has_left new number ≡ has_left h number
  goes-left who h (End value) result new stays goes = left-after mine number h new is_mine goes.after
  goes-left who h (Turn decides adds on) result new stays goes =
      goes-left who (goes.0 ++ made who (adds goes.0)) (on goes.0) result new (stays goes.0).1 goes.2
      ∙ (left-made goes.0 who number (adds goes.0) (stays goes.0).0 ∙ left-after mine number h goes.0 is_mine goes.1)

  lacks-left : {R : Type 0} (who : ℕ) (amending : ℕ → Plan R) (k : ℕ) (h : History) (plan : Plan R) (result : R) (new : History)
      → ((n : ℕ) → AddsNoLeave (amending n)) → AddsNoLeave plan → Lacks (Others mine) who amending k h plan result new → has_left new number ≡ has_left h number
  lacks-left who amending k h (End value) result new amended stays lacks = goes-left who h (amending k) result new (amended k) lacks
  lacks-left who amending k h (Turn decides adds on) result new amended stays lacks = elim lacks [
    | inl goes ↦ goes-left who h (amending k) result new (amended k) goes
    | inr later ↦
        lacks-left who amending (counted (adds later.0) k) (later.0 ++ made who (adds later.0)) (on later.0) result new amended (stays later.0).1 later.3
        ∙ (left-made later.0 who number (adds later.0) (stays later.0).0 ∙ left-after mine number h later.0 is_mine later.1)
  ]

  pub line-left : {R : Type 0} (who : ℕ) (amending : ℕ → Plan R) (old : History) (plan : Plan R) (result : R) (new : History)
      → ((n : ℕ) → AddsNoLeave (amending n)) → AddsNoLeave plan → PlayedLine (Others mine) who amending old plan result new → has_left new number ≡ has_left old number
  line-left who amending old plan result new amended stays line = elim line.whole.played [
    | inl goes ↦ goes-left who old plan result new stays goes
    | inr lacks ↦ lacks-left who amending 0 old plan result new amended stays lacks
  ]
