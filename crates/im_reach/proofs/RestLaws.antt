-- How a line that is played over a side of a store goes by its plan, turn by turn, whatever the line answers.
use Rattle.std.proofs.Common.{◌≡◌, ℕ, suc, ◌+◌, ◌&&◌, Bool, true, false, [], ◌++◌, Option, Some, None, is_some, refl, sym, ap, ◌∙◌, subst, inl, inr, append-nil, append_assoc, arith}
use Rattle.std.proofs.lemmas.List.Elements.{All-append, All-nil}
use Rattle.im_history.specs.declared.entry.Entry.{Entry}
use Rattle.im_history.specs.declared.entry.What.{What}
use Rattle.im_history.specs.History.{History, behind}
use Rattle.im_plan.specs.Goes.{After, Goes, Lacks, Others, Rest}
use Rattle.im_plan.specs.Plan.{Plan, End, Turn, made, counted}
use Rattle.im_plan.proofs.GoesLaws.{others-go_on, rest-amended, rest-first, rest-turn}
use Rattle.im_reach.specs.Rests.{Counted, IsDecided, IsKeeping, IsRest, Logged, Onward, Went}
use Rattle.im_reach.specs.Sides.{Added, AreOthers, Found, Known, Missed, StoreSide, speaks}

-- ---- others

abbrev pub Mine : StoreSide → History → Type 0
Mine side = Others (speaks side)

-- others of a side have numbers that it does not speak for
pub others-of : (side : StoreSide) (old at : History) → After (AreOthers side) old at → After (Mine side) old at
others-of side old at after = record { between = after.between; lawful = record { apart = after.lawful.apart }; log = after.log }

-- nobody came
pub nobody-came : (side : StoreSide) (h : History) → After (AreOthers side) h h
nobody-came side h = record {
  between = [];
  lawful = record { alone = λ alone. refl; apart = All-nil (λ (entry : Entry). speaks side entry.who ≡ false) };
  log = sym (append-nil h);
}

pub here : (side : StoreSide) (h : History) → After (Mine side) h h
here side h = others-of side h h (nobody-came side h)

-- some came, and then others
pub both-came : (side : StoreSide) (old at new : History) → After (AreOthers side) old at → After (AreOthers side) at new → After (AreOthers side) old new
both-came side old at new first second = record {
  between = first.between ++ second.between;
  lawful = record {
    alone = λ alone. ap (λ (h : History). h ++ second.between) (first.lawful.alone alone) ∙ second.lawful.alone alone;
    apart = All-append (λ (entry : Entry). speaks side entry.who ≡ false) first.between second.between first.lawful.apart second.lawful.apart;
  };
  log = second.log ∙ (ap (λ (h : History). h ++ second.between) first.log ∙ append_assoc old first.between second.between);
}

-- ---- what is kept

pub keeps-logged : IsKeeping Logged
keeps-logged = record {
  same = λ old. refl;
  both = λ old middle new first second. second ∙ ap (λ (s : Known). record s { log = new.log }) first;
  side = λ old new kept. ap (λ (s : Known). s.side) kept;
  logged = λ old log. refl;
}

pub keeps-counted : IsKeeping Counted
keeps-counted = record {
  same = λ old. refl;
  both = λ old middle new first second. second ∙ ap (λ (s : Known). record s { log = new.log; misses = new.misses }) first;
  side = λ old new kept. ap (λ (s : Known). s.side) kept;
  logged = λ old log. refl;
}

-- what keeps all but the history keeps all but it and the count
pub counted-logged : (old new : Known) → Logged old new → Counted old new
counted-logged old new now = now ∙ ap (λ (misses : ℕ). record old { log = new.log; misses = misses }) (sym (ap (λ (s : Known). s.misses) now))

-- a call began no build
pub went-missed : (old new : Known) (P : History → Type 0) → Missed old new P → Went Counted old new
went-missed old new P found = subst (Went Counted old) (sym found.now) (record { after = found.after; now = refl })

-- a call added an entry
pub onward-added : (who : ℕ) (old new : Known) (entry : History → What) (P : History → Type 0) → (added : Added old new who entry P)
    → Onward who old new (entry added.at) added.at
onward-added who old new entry P added = record { after = added.after; now = added.now }

and-false : (b : Bool) → (b && false) ≡ false
and-false true = refl
and-false false = refl

-- nothing was made, or this entry was
made-none : (who : ℕ) (h : History) (o : Option What) → o ≡ None → h ≡ h ++ made who o
made-none who h o none = sym (ap (λ (o : Option What). h ++ made who o) none ∙ append-nil h)

made-some : (who : ℕ) (h : History) (o : Option What) (what : What) → o ≡ Some what → behind h who what ≡ h ++ made who o
made-some who h o what is = ap (λ (o : Option What). h ++ made who o) (sym is)

module _ (keeps : Known → Known → Type 0) (keeping : IsKeeping keeps) where
  -- a call added nothing
  pub went-found : (old new : Known) (P : History → Type 0) → Found old new P → Went keeps old new
  went-found old new P found = subst (Went keeps old) (sym found.now) (record { after = found.after; now = keeping.logged old found.at })

  -- there was no call
  pub went-here : (old : Known) → Went keeps old old
  went-here old = record { after = nobody-came old.side old.log; now = keeping.same old }

  onward-kept : (who : ℕ) (old new : Known) (what : What) (at : History) → Onward who old new what at → keeps old new
  onward-kept who old new what at onward = subst (keeps old) (sym onward.now) (keeping.logged old (behind at who what))

  -- ---- memory does not run out any more

  module _ {R : Type 0} (who : ℕ) where
    -- a line is at its end
    pub decided-end : (old : Known) (plan : Plan R) (outcome : R) → plan ≡ End outcome → IsDecided keeps who old plan outcome old
    decided-end old plan outcome is =
        subst (λ (p : Plan R). IsDecided keeps who old p outcome old) (sym is)
        (record {
          kept = keeping.same old;
          goes = record { value_is = refl; after = here old.side old.log };
        })

    -- a turn at a place that others led to, and the line behind it
    decided-turn : (old middle new : Known) (decides : Bool) (adds : History → Option What) (on : History → Plan R) (outcome : R) (at : History)
        → After (AreOthers old.side) old.log at → keeps old middle → middle.log ≡ at ++ made who (adds at)
        → IsDecided keeps who middle (on at) outcome new → IsDecided keeps who old (Turn decides adds on) outcome new
    decided-turn old middle new decides adds on outcome at after kept is later = record {
      kept = keeping.both old middle new kept later.kept;
      goes = (
        at,
        others-of old.side old.log at after,
        subst (λ (h : History). Goes (Mine old.side) who h (on at) outcome new.log) is
            (subst (λ (side : StoreSide). Goes (Mine side) who middle.log (on at) outcome new.log) (keeping.side old middle kept) later.goes),
      );
    }

    -- a turn that added nothing
    pub decided-nothing : (old middle new : Known) (decides : Bool) (adds : History → Option What) (on : History → Plan R) (outcome : R)
        → Went keeps old middle → adds middle.log ≡ None → IsDecided keeps who middle (on middle.log) outcome new
        → IsDecided keeps who old (Turn decides adds on) outcome new
    decided-nothing old middle new decides adds on outcome went none later =
        decided-turn old middle new decides adds on outcome middle.log went.after went.now
        (made-none who middle.log (adds middle.log) none) later

    -- a turn that added this entry
    pub decided-adds : (old middle new : Known) (decides : Bool) (adds : History → Option What) (what : What) (at : History)
        (on : History → Plan R) (outcome : R) → Onward who old middle what at → adds at ≡ Some what
        → IsDecided keeps who middle (on at) outcome new → IsDecided keeps who old (Turn decides adds on) outcome new
    decided-adds old middle new decides adds what at on outcome onward is later =
        decided-turn old middle new decides adds on outcome at onward.after (onward-kept who old middle what at onward)
        (ap (λ (s : Known). s.log) onward.now ∙ made-some who at (adds at) what is) later

  -- ---- memory may run out

  module _ {R : Type 0} (who : ℕ) (amends : ℕ → Plan R) where
    -- it did not
    pub rest-decided : (k : ℕ) (old new : Known) (plan : Plan R) (outcome : R) → IsDecided keeps who old plan outcome new
        → IsRest keeps who amends k old plan outcome new
    rest-decided k old new plan outcome decided = record { kept = decided.kept; rest = record { played = inl decided.goes } }

    -- it did, and the line is amended
    pub rest-lacks : (k : ℕ) (old new : Known) (plan : Plan R) (outcome : R) → IsDecided keeps who old (amends k) outcome new
        → IsRest keeps who amends k old plan outcome new
    rest-lacks k old new plan outcome amended = record {
      kept = amended.kept;
      rest = rest-amended (Mine old.side) (others-go_on (speaks old.side)) who amends k old.log plan outcome new.log amended.goes;
    }

    -- a line is at its end
    pub rest-end : (k : ℕ) (old : Known) (plan : Plan R) (outcome : R) → plan ≡ End outcome → IsRest keeps who amends k old plan outcome old
    rest-end k old plan outcome is = rest-decided k old old plan outcome (decided-end who old plan outcome is)

    -- others came first
    pub rest-went : (k : ℕ) (old middle new : Known) (plan : Plan R) (outcome : R) → Went keeps old middle
        → IsRest keeps who amends k middle plan outcome new → IsRest keeps who amends k old plan outcome new
    rest-went k old middle new plan outcome went later = record {
      kept = keeping.both old middle new went.now later.kept;
      rest = rest-first (Mine old.side) (others-go_on (speaks old.side)) who amends k old.log middle.log plan outcome new.log
          (others-of old.side old.log middle.log went.after)
          (subst (λ (side : StoreSide). Rest (Mine side) who amends k middle.log plan outcome new.log) (keeping.side old middle went.now) later.rest);
    }

    -- a turn at a place that others led to, and what is left of the line behind it
    rest-turned : (k : ℕ) (old middle new : Known) (decides : Bool) (adds : History → Option What) (on : History → Plan R) (outcome : R) (at : History)
        → After (AreOthers old.side) old.log at → keeps old middle → middle.log ≡ at ++ made who (adds at) → ((decides && is_some (adds at)) ≡ false)
        → IsRest keeps who amends (counted (adds at) k) middle (on at) outcome new → IsRest keeps who amends k old (Turn decides adds on) outcome new
    rest-turned k old middle new decides adds on outcome at after kept is undecided later = record {
      kept = keeping.both old middle new kept later.kept;
      rest = rest-turn (Mine old.side) (others-go_on (speaks old.side)) who amends k old.log at decides adds on outcome new.log
          (others-of old.side old.log at after) undecided
          (subst (λ (h : History). Rest (Mine old.side) who amends (counted (adds at) k) h (on at) outcome new.log) is
          (subst (λ (side : StoreSide). Rest (Mine side) who amends (counted (adds at) k) middle.log (on at) outcome new.log)
          (keeping.side old middle kept) later.rest));
    }

    -- a turn that added nothing
    pub rest-nothing : (k : ℕ) (old middle new : Known) (decides : Bool) (adds : History → Option What) (on : History → Plan R) (outcome : R)
        → Went keeps old middle → adds middle.log ≡ None → IsRest keeps who amends k middle (on middle.log) outcome new
        → IsRest keeps who amends k old (Turn decides adds on) outcome new
    rest-nothing k old middle new decides adds on outcome went none later =
        rest-turned k old middle new decides adds on outcome middle.log went.after went.now (made-none who middle.log (adds middle.log) none)
        (ap (λ (o : Option What). decides && is_some o) none ∙ and-false decides)
        (subst (λ (o : Option What). IsRest keeps who amends (counted o k) middle (on middle.log) outcome new) (sym none) later)

    -- a turn that added this entry, and does not decide
    pub rest-adds : (k : ℕ) (old middle new : Known) (adds : History → Option What) (what : What) (at : History) (on : History → Plan R)
        (outcome : R) → Onward who old middle what at → adds at ≡ Some what → IsRest keeps who amends (k + 1) middle (on at) outcome new
        → IsRest keeps who amends k old (Turn false adds on) outcome new
    rest-adds k old middle new adds what at on outcome onward is later =
        rest-turned k old middle new false adds on outcome at onward.after (onward-kept who old middle what at onward)
        (ap (λ (s : Known). s.log) onward.now ∙ made-some who at (adds at) what is) refl
        (subst (λ (o : Option What). IsRest keeps who amends (counted o k) middle (on at) outcome new) (sym is)
        (subst (λ (n : ℕ). IsRest keeps who amends n middle (on at) outcome new) more later))
      where
        more : k + 1 ≡ suc k
        more = omega arith

    -- a turn that added the entry that decides
    pub rest-decides : (k : ℕ) (old middle new : Known) (decides : Bool) (adds : History → Option What) (what : What) (at : History)
        (on : History → Plan R) (outcome : R) → Onward who old middle what at → adds at ≡ Some what
        → IsDecided keeps who middle (on at) outcome new → IsRest keeps who amends k old (Turn decides adds on) outcome new
    rest-decides k old middle new decides adds what at on outcome onward is later =
        rest-decided k old new (Turn decides adds on) outcome
        (decided-adds who old middle new decides adds what at on outcome onward is later)

    -- and the line is at its end
    pub rest-last : (k : ℕ) (old new : Known) (decides : Bool) (adds : History → Option What) (what : What) (at : History)
        (on : History → Plan R) (outcome : R) → Onward who old new what at → adds at ≡ Some what → on at ≡ End outcome
        → IsRest keeps who amends k old (Turn decides adds on) outcome new
    rest-last k old new decides adds what at on outcome onward is ends =
        rest-decides k old new new decides adds what at on outcome onward is (decided-end who new (on at) outcome ends)

-- ---- a line makes the history longer

pub record IsLonger (old new : History) : Type 0 where
  pub more : History
  pub log : new ≡ old ++ more

longer-turn : (others : History → Type 0) (old at entries new : History) → After others old at → IsLonger (at ++ entries) new → IsLonger old new
longer-turn others old at entries new after later = record {
  more = after.between ++ (entries ++ later.more);
  log =
      later.log
      ∙ (append_assoc at entries later.more
      ∙ (ap (λ (h : History). h ++ (entries ++ later.more)) after.log ∙ append_assoc old after.between (entries ++ later.more)));
}

module _ {R : Type 0} (others : History → Type 0) (who : ℕ) where
  goes-longer : (old : History) (plan : Plan R) (outcome : R) (new : History) → Goes others who old plan outcome new → IsLonger old new
  goes-longer old (End value) outcome new goes = record { more = goes.after.between; log = goes.after.log }
  goes-longer old (Turn decides adds on) outcome new goes =
      longer-turn others old goes.0 (made who (adds goes.0)) new goes.1
      (goes-longer (goes.0 ++ made who (adds goes.0)) (on goes.0) outcome new goes.2)

  lacks-longer : (amends : ℕ → Plan R) (k : ℕ) (old : History) (plan : Plan R) (outcome : R) (new : History)
      → Lacks others who amends k old plan outcome new → IsLonger old new
  lacks-longer amends k old (End value) outcome new lacks = goes-longer old (amends k) outcome new lacks
  lacks-longer amends k old (Turn decides adds on) outcome new lacks = elim lacks [
    | inl amended ↦ goes-longer old (amends k) outcome new amended
    | inr later ↦
        longer-turn others old later.0 (made who (adds later.0)) new later.1
        (lacks-longer amends (counted (adds later.0) k) (later.0 ++ made who (adds later.0)) (on later.0) outcome new later.3)
  ]

  longer-rest : (amends : ℕ → Plan R) (k : ℕ) (old : History) (plan : Plan R) (outcome : R) (new : History)
      → Rest others who amends k old plan outcome new → IsLonger old new
  longer-rest amends k old plan outcome new rest = elim rest.played [
    | inl goes ↦ goes-longer old plan outcome new goes
    | inr lacks ↦ lacks-longer amends k old plan outcome new lacks
  ]

pub rest-longer : {R : Type 0} {keeps : Known → Known → Type 0} {who k : ℕ} {amends : ℕ → Plan R} (old new : Known) (plan : Plan R) (outcome : R)
    → IsRest keeps who amends k old plan outcome new → IsLonger old.log new.log
rest-longer {R} {keeps} {who} {k} {amends} old new plan outcome rest =
    longer-rest (Others (speaks old.side)) who amends k old.log plan outcome new.log rest.rest
