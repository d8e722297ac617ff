-- What a call of a shared store says, of what the store said at its turn.
use Rattle.std.proofs.Common.{◌≡◌, ◌≢◌, ℕ, ◌==◌, ◌++◌, [], ◌∷◌, Bool, true, false, List, drop, length, Result, Ok, Err, refl, sym, ap, ◌∙◌, subst, arith}
use Rattle.std.specs.Prelude.{IfOk, OnOk, OnErr}
use Rattle.std.proofs.lemmas.Bool.Decides.{nat_tests}
use Rattle.std.proofs.lemmas.List.Elements.{All-weaker}
use Rattle.im_core.specs.declared.answers.Offer.{Offer}
use Rattle.im_core.specs.declared.answers.Offer.TheVariants.{Task, Idle}
use Rattle.im_core.specs.declared.answers.Switched.{Switched}
use Rattle.im_core.specs.declared.answers.Switched.TheVariants.{Done, AreaFull, Cancelled}
use Rattle.im_core.specs.Answers.{IsOffer, IsSwitch}
use Rattle.im_core.specs.Seen.{Adds, Seen}
use Rattle.im_history.specs.declared.entry.Entry.{Entry}
use Rattle.im_history.specs.declared.entry.What.{What}
use Rattle.im_history.specs.declared.entry.What.TheVariants.{Cancel, Switch}
use Rattle.im_history.specs.declared.task.Task.{Task as TaskInfo}
use Rattle.im_history.specs.declared.refused.Refused.{Refused}
use Rattle.im_history.specs.History.{History}
use Rattle.im_history.specs.Legal.{IsLawful}
use Rattle.im_history.specs.Queue.{build_of}
use Rattle.im_history.specs.Units.{Content}
use Rattle.im_plan.specs.Goes.{After}
use Rattle.im_reach.specs.Sides.{AreOthers, speaks}
use Rattle.im_store.specs.Sides.{SharedState, fixed_of, known_by, limits_of, side_of, who_of}
use Rattle.im_store.specs.inner.Turns.{Gave, Grew, Took}
use Rattle.im_store.proofs.OtherLaws.{WentOn}
use Rattle.im_turn.specs.Logs.{GrewByOthers}
use Rattle.im_turn.specs.Passes.{PassState}
use Rattle.im_turn.proofs.ForCallers.{grew_by_none, grew_by_one}

-- ---- numbers

-- the number that a side speaks for
pub number_is : (mine who : ℕ) → (mine == who) ≡ true → mine ≡ who
number_is mine who same = grind (arith, nat_tests, same)

other_is : (mine number : ℕ) → number ≢ mine → (mine == number) ≡ false
other_is mine number apart = by (mine == number) refl
  where
    by : (b : Bool) → (mine == number) ≡ b → (mine == number) ≡ false
    by false is = is
    by true is = absurd (apart (sym (number_is mine number is)))

other_number : (mine who number : ℕ) → (mine == who) ≡ true → (mine == number) ≡ false → (number == who) ≡ false
other_number mine who number same apart = by (number == who) refl
  where
    by : (b : Bool) → (number == who) ≡ b → (number == who) ≡ false
    by false is = is
    by true is =
        let all : mine ≡ number = number_is mine who same ∙ sym (number_is number who is) in
        let both : (mine == number) ≡ true = grind (arith, nat_tests, all) in
        absurd cc

-- ---- taking the store

-- entries of other numbers are those of others
pub others_came : (old : PassState Entry) (log : History) → GrewByOthers who_of old.who old.seen log → After (AreOthers (side_of old)) old.seen log
others_came old log grew = record {
  between = grew.between;
  lawful = record {
    alone = λ alone. absurd cc;
    apart =
        All-weaker (λ (e : Entry). who_of e ≢ old.who) (λ (e : Entry). speaks (side_of old) e.who ≡ false)
        (λ e apart. other_is old.who e.who apart) grew.between grew.others;
  };
  log = grew.is;
}

-- what the store says at its turn is of a history on which others alone went on
pub went_on : (old mid : PassState Entry) (core : Seen) (who : ℕ) → Took old mid core → speaks (side_of old) who ≡ true
    → WentOn core.limits who old.seen core.log
went_on old mid core who took mine = record {
  between = took.after.between;
  is = took.after.log;
  apart =
      All-weaker (λ (e : Entry). speaks (side_of old) e.who ≡ false) (λ (e : Entry). (e.who == who) ≡ false)
      (λ e apart. other_number old.who who e.who mine apart) took.after.between took.after.lawful.apart;
  legal = took.lawful.legal;
}

-- the same of a side as it stands at the call
pub mine_in : {side now : SharedState} (who : ℕ) → side ≡ now → speaks (known_by now.pass now.misses).side who ≡ true
    → speaks (side_of side.pass) who ≡ true
mine_in who same mine = ap (λ (s : SharedState). speaks (side_of s.pass) who) same ∙ mine

pub went_since : {side now : SharedState} {mid : PassState Entry} {core : Seen} (who : ℕ) → side ≡ now → Took side.pass mid core
    → speaks (known_by now.pass now.misses).side who ≡ true → WentOn core.limits who now.pass.seen core.log
went_since {side} {now} {mid} {core} who same took mine =
    subst (λ (s : SharedState). WentOn core.limits who s.pass.seen core.log) same
    (went_on side.pass mid core who took (mine_in who same mine))

-- ---- giving it back

module _ {old mid : PassState Entry} {core : Seen} (took : Took old mid core) where
  seen_is : mid.seen ≡ core.log
  seen_is = ap (λ (p : PassState Entry). p.seen) took.pass

  fixed_is : fixed_of core.limits ≡ mid.fixed
  fixed_is = took.fixed ∙ sym (ap (λ (p : PassState Entry). p.fixed) took.pass)

  who_is : mid.who ≡ old.who
  who_is = ap (λ (p : PassState Entry). p.who) took.pass

  -- as it was taken
  pub grew_not : {after : Seen} → after ≡ core → Grew mid after
  grew_not {after} same = record {
    own = grew_by_none who_of mid.who mid.seen after.log (ap (λ (s : Seen). s.log) same ∙ sym seen_is);
    fixed = ap (λ (s : Seen). fixed_of s.limits) same ∙ fixed_is;
  }

  -- with one entry more
  pub grew_once : {after : Seen} (who : ℕ) (what : What) → speaks (side_of old) who ≡ true → Adds core who what after → Grew mid after
  grew_once {after} who what mine adds = record {
    own =
        grew_by_one who_of mid.who mid.seen after.log (record { who = who; what = what }) (sym (number_is old.who who mine) ∙ sym who_is)
        (ap (λ (s : Seen). s.log) adds ∙ ap (λ (h : History). h ++ record { who = who; what = what } ∷ []) (sym seen_is));
    fixed = ap (λ (s : Seen). fixed_of s.limits) adds ∙ fixed_is;
  }

  pub grew_either : {A : Type 0} {after : Seen} (answer : Result A Refused) (who : ℕ) (what : What) → speaks (side_of old) who ≡ true
      → OnOk answer (Adds core who what after) → OnErr answer (after ≡ core) → Grew mid after
  grew_either (Ok a) who what mine adds same = grew_once who what mine adds
  grew_either (Err why) who what mine adds same = grew_not same

  -- by the build that comes next, if there is one
  pub grew_offer : {after : Seen} (answer : Result Offer Refused) (who : ℕ) → speaks (side_of old) who ≡ true
      → IfOk answer (λ offer. IsOffer core who offer after) → OnErr answer (after ≡ core) → Grew mid after
  grew_offer (Ok (Task task)) who mine offered same = grew_once who (build_of core.log offered.0) mine offered.3
  grew_offer (Ok (Idle place left)) who mine offered same = grew_not offered.3
  grew_offer (Err why) who mine offered same = grew_not same

  -- by the end of a build
  pub grew_switched : {U : Type 0} {after : Seen} (content : U → Content) (who : ℕ) (task : TaskInfo) (switched : Switched U)
      → speaks (side_of old) who ≡ true → IsSwitch content core who task switched after → Grew mid after
  grew_switched content who task (Done place sum before) mine is = grew_once who (Switch task.id) mine is.5
  grew_switched content who task (AreaFull place need free) mine is = grew_once who (Cancel task.id true) mine is.5
  grew_switched content who task (Cancelled place at) mine is = grew_once who (Cancel task.id false) mine is.2

-- what was given back is lawful, as its pass has seen it
pub was_given : (old new : PassState Entry) (core : Seen)
    → new ≡ record old { holding = false; seen = core.log; mine = old.mine ++ drop (length old.seen) core.log } → Grew old core
    → IsLawful core.limits core.log → Gave old new core
was_given old new core is grew lawful = record {
  pass = is;
  lawful =
      subst (λ (h : History). IsLawful (limits_of new.fixed) h) (sym (ap (λ (p : PassState Entry). p.seen) is))
      (subst (λ (f : List ℕ). IsLawful (limits_of f) core.log) (grew.fixed ∙ sym (ap (λ (p : PassState Entry). p.fixed) is)) lawful);
}
