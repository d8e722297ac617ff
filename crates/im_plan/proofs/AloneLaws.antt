-- With nobody between its turns, a line goes as the machine plays it, whole or cut.
use Rattle.std.proofs.Common.{◌≡◌, ℕ, zero, suc, ◌+◌, ◌≤◌, ◌&&◌, inl, inr, Bool, false, [], ◌++◌, Option, Some, None, is_some, refl, sym, ap, ◌∙◌, subst, arith, append-nil, add-zero, zero-add}
use Rattle.std.proofs.lemmas.Bool.Decides.{nat_tests}
use Rattle.im_history.specs.declared.entry.What.{What}
use Rattle.im_history.specs.History.{History}
use Rattle.im_plan.specs.Alone.{Played, play, cut, still, undecided, IsMachine}
use Rattle.im_plan.specs.Goes.{After, Nobody, Goes, Lacks, PlayedLine}
use Rattle.im_plan.specs.Plan.{Plan, End, Turn, made, counted}

-- nobody adds anything
pub same_after : (old new : History) → After Nobody old new → new ≡ old
same_after old new after = after.log ∙ (ap (λ (h : History). old ++ h) after.lawful.none ∙ append-nil old)

pub play-goes : {R : Type 0} (who : ℕ) (old : History) (plan : Plan R) (result : R) (new : History) → Goes Nobody who old plan result new
    → play who old plan ≡ record { result = result; history = new }
play-goes who old (End value) result new goes = rw (goes.value_is, same_after old new goes.after) refl
play-goes {R} who old (Turn decides adds on) result new goes =
    subst (λ (at : History). play who (at ++ made who (adds at)) (on at) ≡ record { result = result; history = new }) (same_after old goes.0 goes.1)
    (play-goes who (goes.0 ++ made who (adds goes.0)) (on goes.0) result new goes.2)

-- where no more entries are to be made, memory lacks at once
cut-zero : {R : Type 0} (who : ℕ) (amends : ℕ → Plan R) (k : ℕ) (old : History) (plan : Plan R) → cut who amends k 0 old plan ≡ play who old (amends k)
cut-zero who amends k old (End value) = refl
cut-zero who amends k old (Turn decides adds on) = refl

-- a turn that added so many entries, with so many to be made after it
cut-turn : {R : Type 0} (who : ℕ) (amends : ℕ → Plan R) (k left : ℕ) (old : History) (decides : Bool) (adds : History → Option What) (on : History → Plan R)
    → cut who amends k (counted (adds old) left) old (Turn decides adds on) ≡ cut who amends k left (old ++ made who (adds old)) (on old)
cut-turn {R} who amends k left old decides adds on = by_turn (counted (adds old) left) ∙ by_count (adds old) left
  where
    turn : Option What → ℕ → Played R
    turn added zero = play who old (amends k)
    turn added (suc left) = cut who amends k (still added left) (old ++ made who added) (on old)

    by_turn : (left : ℕ) → cut who amends k left old (Turn decides adds on) ≡ turn (adds old) left
    by_turn zero = refl
    by_turn (suc left) = refl

    by_count : (added : Option What) (left : ℕ) → turn added (counted added left) ≡ cut who amends k left (old ++ made who added) (on old)
    by_count None zero = sym (cut-zero who amends k (old ++ []) (on old) ∙ ap (λ (h : History). play who h (amends k)) (append-nil old))
    by_count None (suc left) = refl
    by_count (Some what) left = refl

counted-add : (added : Option What) (k left : ℕ) → counted added k + left ≡ k + counted added left
counted-add None k left = refl
counted-add (Some what) k left = omega arith

counted-le : (added : Option What) (m n : ℕ) → m ≤ n → counted added m ≤ counted added n
counted-le None m n h = h
counted-le (Some what) m n h = omega arith

-- memory lacked when `left` more entries were made
record IsCut {R : Type 0} (who : ℕ) (amends : ℕ → Plan R) (k : ℕ) (old : History) (plan : Plan R) (result : R) (new : History) : Type 0 where
  pub left : ℕ
  pub within : left ≤ undecided who old plan
  pub same : cut who amends (k + left) left old plan ≡ record { result = result; history = new }

lacks-cut : {R : Type 0} (who : ℕ) (amends : ℕ → Plan R) (k : ℕ) (old : History) (plan : Plan R) (result : R) (new : History)
    → Lacks Nobody who amends k old plan result new → IsCut who amends k old plan result new
lacks-cut who amends k old (End value) result new lacks =
    record { left = 0; within = omega arith; same = rw add-zero (play-goes who old (amends k) result new lacks) }
lacks-cut {R} who amends k old (Turn decides adds on) result new lacks = elim lacks [
  | inl amended ↦ record { left = 0; within = omega arith; same = rw add-zero (play-goes who old (amends k) result new amended) }
  | inr later ↦ onward later.0 (same_after old later.0 later.1) later.2
      (lacks-cut who amends (counted (adds later.0) k) (later.0 ++ made who (adds later.0)) (on later.0) result new later.3)
]
  where
    here : History → Type 0
    here at = IsCut who amends (counted (adds at) k) (at ++ made who (adds at)) (on at) result new

    gone : ((decides && is_some (adds old)) ≡ false) → here old → IsCut who amends k old (Turn decides adds on) result new
    gone undone cut_there = record {
      left = counted (adds old) cut_there.left;
      within = rw undone (counted-le (adds old) cut_there.left _ cut_there.within);
      same =
          ap (λ (n : ℕ). cut who amends n (counted (adds old) cut_there.left) old (Turn decides adds on)) (sym (counted-add (adds old) k cut_there.left))
          ∙ (cut-turn who amends (counted (adds old) k + cut_there.left) cut_there.left old decides adds on ∙ cut_there.same);
    }

    onward : (at : History) → at ≡ old → ((decides && is_some (adds at)) ≡ false) → here at → IsCut who amends k old (Turn decides adds on) result new
    onward at e undone cut_there = gone (subst (λ (h : History). (decides && is_some (adds h)) ≡ false) e undone) (subst here e cut_there)

-- a line that is played with nobody between is the machine's
pub line_alone : {R : Type 0} (who : ℕ) (amends : ℕ → Plan R) (old : History) (plan : Plan R) (result : R) (new : History)
    → PlayedLine Nobody who amends old plan result new → IsMachine who amends old plan result new
line_alone who amends old plan result new line = elim line.whole.played [
  | inl goes ↦ record { lacked = None; lawful = refl; same = play-goes who old plan result new goes }
  | inr lacks ↦ lacked_so (lacks-cut who amends 0 old plan result new lacks)
]
  where
    lacked_so : IsCut who amends 0 old plan result new → IsMachine who amends old plan result new
    lacked_so c = record { lacked = Some c.left; lawful = grind (arith, nat_tests); same = rw zero-add at c.same }
