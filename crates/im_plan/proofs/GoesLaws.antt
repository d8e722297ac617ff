-- How a line goes while others come between its turns: others first, others last, and more others.
use Rattle.std.proofs.Common.{◌≡◌, ℕ, ◌&&◌, inl, inr, Bool, false, [], ◌++◌, Option, is_some, sym, ap, ◌∙◌, append-nil, append_assoc}
use Rattle.std.proofs.lemmas.List.Elements.{All-nil, All-append}
use Rattle.im_history.specs.declared.entry.Entry.{Entry}
use Rattle.im_history.specs.declared.entry.What.{What}
use Rattle.im_history.specs.History.{History}
use Rattle.im_plan.specs.Goes.{After, MayGoOn, Others, Ends, Goes, Lacks, Rest}
use Rattle.im_plan.specs.Plan.{Plan, End, Turn, made, counted}

-- ---- others alone

module _ (others : History → Type 0) (on : MayGoOn others) where
  -- nobody came
  pub after-here : (h : History) → After others h h
  after-here h = record { between = []; lawful = on.none; log = sym (append-nil h) }

  -- some came, and then others
  pub after-after : (old at new : History) → After others old at → After others at new → After others old new
  after-after old at new first second = record {
    between = first.between ++ second.between;
    lawful = on.both first.between second.between first.lawful second.lawful;
    log = second.log ∙ (ap (λ (h : History). h ++ second.between) first.log ∙ append_assoc old first.between second.between);
  }

-- ---- others first, and last

module _ {R : Type 0} (others : History → Type 0) (on : MayGoOn others) (who : ℕ) where
  ends-first : (old at : History) (value result : R) (new : History) → After others old at → Ends others at value result new → Ends others old value result new
  ends-first old at value result new first ends = record { value_is = ends.value_is; after = after-after others on old at new first ends.after }

  pub goes-first : (old at : History) (plan : Plan R) (result : R) (new : History) → After others old at → Goes others who at plan result new
      → Goes others who old plan result new
  goes-first old at (End value) result new first goes = ends-first old at value result new first goes
  goes-first old at (Turn decides adds then_on) result new first goes = (goes.0, after-after others on old at goes.0 first goes.1, goes.2)

  pub goes-last : (old : History) (plan : Plan R) (result : R) (at new : History) → Goes others who old plan result at → After others at new
      → Goes others who old plan result new
  goes-last old (End value) result at new goes last = record { value_is = goes.value_is; after = after-after others on old at new goes.after last }
  goes-last old (Turn decides adds then_on) result at new goes last =
      (goes.0, goes.1, goes-last (goes.0 ++ made who (adds goes.0)) (then_on goes.0) result at new goes.2 last)

  module _ (amends : ℕ → Plan R) where
    pub lacks-first : (k : ℕ) (old at : History) (plan : Plan R) (result : R) (new : History) → After others old at
        → Lacks others who amends k at plan result new → Lacks others who amends k old plan result new
    lacks-first k old at (End value) result new first lacks = goes-first old at (amends k) result new first lacks
    lacks-first k old at (Turn decides adds then_on) result new first lacks = elim lacks [
      | inl amended ↦ inl (goes-first old at (amends k) result new first amended)
      | inr later ↦ inr (later.0, after-after others on old at later.0 first later.1, later.2, later.3)
    ]

    -- others came before the rest of a line
    pub rest-first : (k : ℕ) (old at : History) (plan : Plan R) (result : R) (new : History) → After others old at
        → Rest others who amends k at plan result new → Rest others who amends k old plan result new
    rest-first k old at plan result new first rest = record {
      played = elim rest.played [
        | inl goes ↦ inl (goes-first old at plan result new first goes)
        | inr lacks ↦ inr (lacks-first k old at plan result new first lacks)
      ];
    }

    pub lacks-last : (k : ℕ) (old : History) (plan : Plan R) (result : R) (at new : History) → Lacks others who amends k old plan result at
        → After others at new → Lacks others who amends k old plan result new
    lacks-last k old (End value) result at new lacks last = goes-last old (amends k) result at new lacks last
    lacks-last k old (Turn decides adds then_on) result at new lacks last = elim lacks [
      | inl amended ↦ inl (goes-last old (amends k) result at new amended last)
      | inr later ↦ inr (
        later.0,
        later.1,
        later.2,
        lacks-last (counted (adds later.0) k) (later.0 ++ made who (adds later.0)) (then_on later.0) result at new later.3 last,
      )
    ]

    -- others came behind the rest of a line
    pub rest-last : (k : ℕ) (old : History) (plan : Plan R) (result : R) (at new : History) → Rest others who amends k old plan result at
        → After others at new → Rest others who amends k old plan result new
    rest-last k old plan result at new rest last = record {
      played = elim rest.played [
        | inl goes ↦ inl (goes-last old plan result at new goes last)
        | inr lacks ↦ inr (lacks-last k old plan result at new lacks last)
      ];
    }

    -- a turn at a place that others led to, and what is left of the line behind it. Memory may run out there, unless the turn
    -- decided
    pub rest-turn : (k : ℕ) (old at : History) (decides : Bool) (adds : History → Option What) (then_on : History → Plan R) (result : R)
        (new : History) → After others old at → ((decides && is_some (adds at)) ≡ false)
        → Rest others who amends (counted (adds at) k) (at ++ made who (adds at)) (then_on at) result new
        → Rest others who amends k old (Turn decides adds then_on) result new
    rest-turn k old at decides adds then_on result new first undecided rest = record {
      played = elim rest.played [
        | inl goes ↦ inl (at, first, goes)
        | inr lacks ↦ inr (inr (at, first, undecided, lacks))
      ];
    }

    -- a turn behind which the line goes to its end
    pub rest-goes : (k : ℕ) (old at : History) (decides : Bool) (adds : History → Option What) (then_on : History → Plan R) (result : R)
        (new : History) → After others old at → Goes others who (at ++ made who (adds at)) (then_on at) result new
        → Rest others who amends k old (Turn decides adds then_on) result new
    rest-goes k old at decides adds then_on result new first goes = record { played = inl (at, first, goes) }

    -- memory runs out before the next turn
    pub rest-amended : (k : ℕ) (old : History) (plan : Plan R) (result : R) (new : History) → Goes others who old (amends k) result new
        → Rest others who amends k old plan result new
    rest-amended k old (End value) result new goes = record { played = inr goes }
    rest-amended k old (Turn decides adds then_on) result new goes = record { played = inr (inl goes) }

-- ---- more others

module _ (others more : History → Type 0) (wider : (h : History) → others h → more h) where
  pub after-wider : (old new : History) → After others old new → After more old new
  after-wider old new after = record { between = after.between; lawful = wider after.between after.lawful; log = after.log }

module _ {R : Type 0} (others more : History → Type 0) (wider : (h : History) → others h → more h) (who : ℕ) where
  pub goes-wider : (old : History) (plan : Plan R) (result : R) (new : History) → Goes others who old plan result new → Goes more who old plan result new
  goes-wider old (End value) result new goes = record { value_is = goes.value_is; after = after-wider others more wider old new goes.after }
  goes-wider old (Turn decides adds then_on) result new goes =
      (goes.0, after-wider others more wider old goes.0 goes.1, goes-wider (goes.0 ++ made who (adds goes.0)) (then_on goes.0) result new goes.2)

  pub lacks-wider : (amends : ℕ → Plan R) (k : ℕ) (old : History) (plan : Plan R) (result : R) (new : History)
      → Lacks others who amends k old plan result new → Lacks more who amends k old plan result new
  lacks-wider amends k old (End value) result new lacks = goes-wider old (amends k) result new lacks
  lacks-wider amends k old (Turn decides adds then_on) result new lacks = elim lacks [
    | inl amended ↦ inl (goes-wider old (amends k) result new amended)
    | inr later ↦ inr (
      later.0,
      after-wider others more wider old later.0 later.1,
      later.2,
      lacks-wider amends (counted (adds later.0) k) (later.0 ++ made who (adds later.0)) (then_on later.0) result new later.3,
    )
  ]

  -- what is left of a line may also go among more others
  pub rest-wider : (amends : ℕ → Plan R) (k : ℕ) (old : History) (plan : Plan R) (result : R) (new : History)
      → Rest others who amends k old plan result new → Rest more who amends k old plan result new
  rest-wider amends k old plan result new rest = record {
    played = elim rest.played [
      | inl goes ↦ inl (goes-wider old plan result new goes)
      | inr lacks ↦ inr (lacks-wider amends k old plan result new lacks)
    ];
  }

-- ---- others of other numbers

pub others-go_on : (mine : ℕ → Bool) → MayGoOn (Others mine)
others-go_on mine = record {
  none = record { apart = All-nil (λ (entry : Entry). mine entry.who ≡ false) };
  both = λ first second a b. record { apart = All-append (λ (entry : Entry). mine entry.who ≡ false) first second a.apart b.apart };
}

pub others-wider : (mine fewer : ℕ → Bool) → ((number : ℕ) → mine number ≡ false → fewer number ≡ false) → (h : History) → Others mine h → Others fewer h
others-wider mine fewer wider h others = record { apart = λ k d within. wider _ (others.apart k d within) }
