-- What a pass has seen of a store, beside the whole history of the store once it is closed.
use Rattle.std.proofs.Common.{◌≡◌, ◌≢◌, ℕ, ◌==◌, Bool, true, false, All, List, [], ◌∷◌, ◌++◌, Contains, map, refl, sym, ap, ◌∙◌, subst, arith}
use Rattle.std.proofs.lemmas.Bool.Decides.{nat_tests}
use Rattle.std.proofs.lemmas.List.Elements.{All-cons, All-head, All-nil, All-tail, All-weaker}
use Rattle.im_history.specs.declared.entry.Entry.{Entry}
use Rattle.im_history.specs.declared.limits.Limits.{Limits}
use Rattle.im_history.specs.History.{History}
use Rattle.im_history.specs.Legal.{IsLawful}
use Rattle.im_plan.specs.Goes.{After}
use Rattle.im_race.specs.inner.Closing.{IsClosed}
use Rattle.im_race.specs.Jobs.{OthersThan}
use Rattle.im_store.specs.Sides.{limits_of, who_of}
use Rattle.im_turn.specs.Logs.{Begins, entries_of, entries_since}
use Rattle.im_turn.specs.Passes.{KnowsOwn, PassState, numbers_of}
use Rattle.im_turn.proofs.LogLemmas.{begins_trans, entries_of-others, others_alone, others_of_none}

-- others alone came behind what a pass has seen
pub others-behind : (who base : ℕ) (pass : PassState Entry) (log : History) → pass.who ≡ who → pass.base ≡ base → KnowsOwn who_of pass → Begins pass.seen log
    → entries_since who_of pass.who base log ≡ pass.mine → After (OthersThan who) pass.seen log
others-behind who base pass log number from knows begins same =
    let grew = others_alone who_of pass.who pass.base begins knows.past_base same_since in
    record {
      between = grew.between;
      log = grew.is;
      lawful = record {
        apart =
            All-weaker (λ (entry : Entry). who_of entry ≢ pass.who) (λ (entry : Entry). (who == entry.who) ≡ false)
            (λ entry other. subst (λ (n : ℕ). (n == entry.who) ≡ false) number (let e : (pass.who == entry.who) ≡ false = grind (arith, nat_tests, other) in e))
            grew.between grew.others;
      };
    }
  where
    same_since : entries_since who_of pass.who pass.base log ≡ entries_since who_of pass.who pass.base pass.seen
    same_since = subst (λ (n : ℕ). entries_since who_of pass.who n log ≡ pass.mine) (sym from) same ∙ sym knows.own

is-true : (b : Bool) → (b ≡ false → ⊥) → b ≡ true
is-true true not = refl
is-true false not = absurd (not refl)

-- entries are those of numbers that take part, where no other number has one
pub all-take_part : (takes : ℕ → Bool) (log : History) → ((n : ℕ) → takes n ≡ false → entries_of who_of n log ≡ [])
    → All (λ (entry : Entry). takes entry.who ≡ true) log
all-take_part takes [] none = All-nil (λ (entry : Entry). takes entry.who ≡ true)
all-take_part takes (entry ∷ log) none =
    All-cons (λ (e : Entry). takes e.who ≡ true) entry log
    (is-true (takes entry.who) (λ apart. All-head (λ (e : Entry). who_of e ≢ entry.who) entry log
    (others_of_none who_of entry.who (entry ∷ log) (none entry.who apart)) refl))
    (all-take_part takes log (λ n apart.
    entries_of-others who_of n log
    (All-tail (λ (e : Entry). who_of e ≢ n) entry log (others_of_none who_of n (entry ∷ log) (none n apart)))))

-- ---- the closing itself

pub all-unmap : {X Y : Type 0} (P : Y → Type 0) (f : X → Y) (xs : List X) → All P (map f xs) → All (λ x. P (f x)) xs
all-unmap P f [] all = All-nil (λ x. P (f x))
all-unmap P f (x ∷ xs) all =
    All-cons (λ y. P (f y)) x xs (All-head P (f x) (map f xs) all) (all-unmap P f xs (All-tail P (f x) (map f xs) all))

-- what is kept of passes that were joined
abbrev pub kept_of : List (PassState Entry) → List (ℕ × History)
kept_of passes = map (λ (pass : PassState Entry). (pass.who, pass.mine)) passes

pub numbers-of_kept : (passes : List (PassState Entry)) → numbers_of (kept_of passes) ≡ map (λ (pass : PassState Entry). pass.who) passes
numbers-of_kept [] = refl
numbers-of_kept (pass ∷ passes) = ap (λ (numbers : List ℕ). pass.who ∷ numbers) (numbers-of_kept passes)

pub joined-numbers : (first joined : PassState Entry) (passes : List (PassState Entry)) → first.olds ≡ []
    → joined ≡ record first { seen = joined.seen; olds = first.olds ++ kept_of passes }
    → map (λ (pass : PassState Entry). pass.who) passes ≡ first.gave → numbers_of joined.olds ≡ joined.gave
joined-numbers first joined passes none is gave =
    ap numbers_of (ap (λ (p : PassState Entry). p.olds) is ∙ ap (λ (l : List (ℕ × History)). l ++ kept_of passes) none)
    ∙ (numbers-of_kept passes ∙ (gave ∙ sym (ap (λ (p : PassState Entry). p.gave) is)))

pub closed : (first joined : PassState Entry) (passes : List (PassState Entry)) (limits : Limits) (log all : History) → first.who ≡ 0 → first.olds ≡ []
    → joined ≡ record first { seen = joined.seen; olds = first.olds ++ kept_of passes } → Begins first.seen joined.seen
    → All (λ (pass : PassState Entry). Begins pass.seen joined.seen) passes → Begins joined.seen log
    → entries_since who_of 0 joined.base log ≡ joined.mine → All (λ (old : ℕ × History). entries_since who_of old.0 joined.base log ≡ old.1) joined.olds
    → ((n : ℕ) → n ≢ 0 → ¬ Contains (numbers_of joined.olds) n → entries_since who_of n joined.base log ≡ []) → limits ≡ limits_of joined.fixed
    → IsLawful limits log → all ≡ log → IsClosed first passes all
closed first joined passes limits log all zeroth none is first_begins each_begins begins own olds others limits_are lawful all_is =
    subst (IsClosed first passes) (sym all_is)
    (record {
      begins = begins_trans first_begins begins;
      each_begins =
          All-weaker (λ (pass : PassState Entry). Begins pass.seen joined.seen) (λ (pass : PassState Entry). Begins pass.seen log)
          (λ pass b. begins_trans b begins) passes each_begins;
      each_own =
          all-unmap (λ (old : ℕ × History). entries_since who_of old.0 first.base log ≡ old.1) (λ (pass : PassState Entry). (pass.who, pass.mine)) passes
          (subst (All (λ (old : ℕ × History). entries_since who_of old.0 first.base log ≡ old.1)) olds_are
          (subst (λ (b : ℕ). All (λ (old : ℕ × History). entries_since who_of old.0 b log ≡ old.1) joined.olds) base_is olds));
      own =
          ap (λ (n : ℕ). entries_since who_of n first.base log) zeroth
          ∙ (ap (λ (b : ℕ). entries_since who_of 0 b log) (sym base_is) ∙ (own ∙ ap (λ (p : PassState Entry). p.mine) is));
      others = λ n ne apart.
          ap (λ (b : ℕ). entries_since who_of n b log) (sym base_is)
          ∙ others n (λ zero_is. ne (zero_is ∙ sym zeroth))
          (subst (λ (ns : List ℕ). ¬ Contains ns n) (sym (ap numbers_of olds_are ∙ numbers-of_kept passes)) apart);
      lawful = subst (λ (l : Limits). IsLawful l log) (limits_are ∙ ap (λ (p : PassState Entry). limits_of p.fixed) is) lawful;
    })
  where
    olds_are : joined.olds ≡ kept_of passes
    olds_are = ap (λ (p : PassState Entry). p.olds) is ∙ ap (λ (l : List (ℕ × History)). l ++ kept_of passes) none

    base_is : joined.base ≡ first.base
    base_is = ap (λ (p : PassState Entry). p.base) is
