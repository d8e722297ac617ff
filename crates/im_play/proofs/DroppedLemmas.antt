-- The builds that the background of a script holds are dropped: with nobody between, that is played.
use Rattle.std.proofs.Common.{◌≡◌, ℕ, Bool, true, false, All, List, [], ◌∷◌, ◌++◌, map, inl, refl, sym, ap, ap₂, ◌∙◌, subst, append-nil, arith}
use Rattle.std.proofs.lemmas.Bool.Decides.{nat_tests}
use Rattle.std.proofs.lemmas.List.Elements.{All-head}
use Rattle.im_history.specs.declared.entry.Entry.{Entry}
use Rattle.im_history.specs.declared.limits.Limits.{Limits}
use Rattle.im_history.specs.declared.task.Task.{Task}
use Rattle.im_history.specs.History.{History}
use Rattle.im_plan.specs.Alone.{play}
use Rattle.im_plan.specs.Goes.{After, Goes, PlayedLine as Whole, Others}
use Rattle.im_plan.specs.Plan.{Plan, End, Turn, made}
use Rattle.im_play.specs.Between.{IsBetween, machine_of}
use Rattle.im_play.specs.Machine.{Machine, without_builds}
use Rattle.im_play.specs.Requests.{BACKGROUND, script_limits}
use Rattle.im_play.proofs.SessionsLemmas.{holding-new, others-agree}
use Rattle.im_play.proofs.ThereLemmas.{there-dropped}
use Rattle.im_reach.specs.Sides.{Known, StoreSide, speaks}
use Rattle.im_session.specs.Sessions.{Kept, state_of}
use Rattle.im_session.proofs.ForCallers.{IsOwn, line-alone, line-own}
use Rattle.im_statements.specs.Background.{drop_all}
use Rattle.im_worker.specs.Background as background
use Rattle.im_worker.specs.Background.{tasks_of}

-- ---- nobody comes between

module _ (mine : ℕ → Bool) (all : (number : ℕ) → mine number ≡ true) where
  none-between : (between : History) → All (λ entry. mine entry.who ≡ false) between → between ≡ []
  none-between [] apart = refl
  none-between (entry ∷ rest) apart =
      let both : true ≡ false = sym (all entry.who) ∙ All-head (λ (e : Entry). mine e.who ≡ false) entry rest apart in
      absurd cc

  still : (old at : History) → After (Others mine) old at → at ≡ old
  still old at after =
      after.log ∙ (ap (λ (h : History). old ++ h) (none-between after.between after.lawful.apart) ∙ append-nil old)

  goes-played : {R : Type 0} (who : ℕ) (old : History) (plan : Plan R) (result : R) (new : History) → Goes (Others mine) who old plan result new
      → new ≡ (play who old plan).history
  goes-played who old (End value) result new goes = still old new goes.after
  goes-played who old (Turn decides adds on) result new goes =
      subst (λ (at : History). new ≡ (play who (at ++ made who (adds at)) (on at)).history) (still old goes.0 goes.1)
      (goes-played who (goes.0 ++ made who (adds goes.0)) (on goes.0) result new goes.2)

-- ---- the builds are dropped

module _ (sessions : List Kept) (kept after : background.Kept) (old new : Known) (between : IsBetween old sessions kept)
    (dropped : background.IsDropped kept old after new) where
  who-is : kept.who ≡ BACKGROUND
  who-is = between.holding.who

  dropping : Whole (Others (speaks old.side)) kept.who (λ k. End tt) old.log (drop_all (tasks_of kept.builds)) tt new.log
  dropping = record { whole = record { played = inl dropped.goes } }

  kept-own : IsOwn kept.who old.log new.log
  kept-own =
      line-own kept.who (λ k. End tt) old.log (drop_all (tasks_of kept.builds)) tt new.log
      (line-alone old.side kept.who (λ k. End tt) old.log (drop_all (tasks_of kept.builds)) tt new.log between.side dropping)

  pub between-dropped : background.Agrees after new → IsBetween new sessions after
  between-dropped agrees = record {
    side = ap (λ (k : Known). k.side) dropped.known ∙ between.side;
    limits = subst (λ (l : Limits). l ≡ script_limits l.area) (sym (ap (λ (k : Known). k.limits) dropped.known)) between.limits;
    count = between.count;
    agree =
        others-agree BACKGROUND old new (subst (λ (n : ℕ). IsOwn n old.log new.log) who-is kept-own) 0 sessions
        (λ number above one. grind (arith, nat_tests, one)) between.agree;
    holding = holding-new after new (dropped.same ∙ who-is) agrees;
    there = there-dropped kept after old new between.side (let e = who-is in omega (arith, e)) kept-own dropped between.there;
  }

  pub limits-dropped : new.limits ≡ old.limits
  limits-dropped = ap (λ (k : Known). k.limits) dropped.known

  pub machine-dropped : machine_of new sessions after ≡ without_builds (machine_of old sessions kept)
  machine-dropped = ap₂ machine history_is (ap (λ (builds : List background.Ready). tasks_of builds) dropped.none)
    where
      machine : History → List Task → Machine
      machine history builds = record { history = history; states = map (λ session. state_of session.cursors) sessions; builds = builds }

      history_is : new.log ≡ (play BACKGROUND old.log (drop_all (tasks_of kept.builds))).history
      history_is =
          subst (λ (n : ℕ). new.log ≡ (play n old.log (drop_all (tasks_of kept.builds))).history) who-is
          (goes-played (speaks old.side) (λ number. ap (λ (s : StoreSide). speaks s number) between.side) kept.who old.log
          (drop_all (tasks_of kept.builds)) tt new.log dropped.goes)
