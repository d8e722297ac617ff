-- A directory goes on to agree with a history when a build begins.
use Rattle.std.proofs.Common.{◌≡◌, ℕ, ◌+◌, ◌==◌, Bool, true, false, List, [], ◌∷◌, ◌++◌, length, Option, Some, None, if◌then◌else◌, refl, sym, ap, subst, ◌∙◌, arith}
use Rattle.std.specs.Option.{option_or}
use Rattle.std.proofs.lemmas.Bool.{eq-eqb, eqb-true, eqb-false, ne_eqb}
use Rattle.std.proofs.lemmas.List.{length_push}
use Rattle.im_history.specs.declared.entry.Entry.{Entry}
use Rattle.im_history.specs.declared.entry.What.TheVariants.{Build}
use Rattle.im_history.specs.declared.task.Held.{Held}
use Rattle.im_history.specs.History.{History}
use Rattle.im_history.specs.Legal.{Exists}
use Rattle.im_history.specs.Units.{Content, builds, held_at, is_on, living}
use Rattle.im_history.proofs.BuildLaws.{held_at-build}
use Rattle.im_history.proofs.UnitLaws.{builds-push, held-push, living-push, unit-push}
use Rattle.im_directory.specs.Agreement.{next_build}
use Rattle.im_directory.specs.Agrees.{Agrees, IsGrowth, scn_of}
use Rattle.im_directory.specs.Effects.{IsBegun}
use Rattle.im_directory.specs.Slots.{Growth, Kept, Told, build_in, held_among, told_at}
use Rattle.im_directory.proofs.AgreesLemmas.{IsGrowth-quiet, IsStock-quiet, or_first, or_none_after, or_second}
use Rattle.im_directory.proofs.HeldLemmas.{held-begun}
use Rattle.im_directory.proofs.JournalLemmas.{IsJournal-begun}
use Rattle.im_directory.proofs.SoundLemmas.{IsBeginning, IsBeginning-begun, IsSound-begun, ap_if, build_past, on_parts, same_either, some_same}
use Rattle.im_directory.proofs.WaitLemmas.{waits-push}

module _ {U : Type 0} (content : U → Content) where
  -- a build of the next number begins after this history
  record Begins (h : History) (who table extent : ℕ) (trickle : Bool) (old new : Kept U) : Type 0 where
    agrees : Agrees content h old
    exists : Exists h table
    free : living h table extent ≡ None
    begun : IsBegun old new (next_build h who table extent trickle)

  -- the history after it
  abbrev after_begin : History → ℕ → ℕ → ℕ → Bool → History
  after_begin h who table extent trickle = h ++ record { who = who; what = Build (builds h + 1) table extent trickle } ∷ []

  module _ (h : History) (who table extent : ℕ) (trickle : Bool) (old new : Kept U) (begins : Begins h who table extent trickle old new) where
    number_is : builds h + 1 ≡ length old.builds + 1
    number_is = let same = begins.agrees.numbered in omega (arith, same)

    beginning : IsBeginning old new (next_build h who table extent trickle)
    beginning = IsBeginning-begun old new (next_build h who table extent trickle) number_is begins.begun

    held_by : (b : Bool) (other : ℕ) → (other == builds h + 1) ≡ b →
        (if b then Some (next_build h who table extent trickle) else build_in old other) ≡ option_or (held_at h other)
        (if builds h + 1 == other then Some (next_build h who table extent trickle) else None)
    held_by true other is =
        let same : other ≡ builds h + 1 = eqb-true other (builds h + 1) is in
        let long = number_is in
        let none : held_at h other ≡ None = sym (begins.agrees.held other) ∙ build_past old.builds other (omega (arith, same, long)) in
        sym (or_second (held_at h other) _ none ∙ ap (λ (c : Bool). if c then Some (next_build h who table extent trickle) else None)
        (eq-eqb (builds h + 1) other (sym same)))
    held_by false other is =
        let apart = eqb-false other (builds h + 1) is in
        begins.agrees.held other
        ∙ sym (ap (λ (c : Bool). option_or (held_at h other) (if c then Some (next_build h who table extent trickle) else None))
        (ne_eqb (builds h + 1) other (λ e. apart (sym e))) ∙ or_none_after (held_at h other))

    held_begun : (other : ℕ) → build_in new other ≡ held_at (after_begin h who table extent trickle) other
    held_begun other =
        let started = beginning in
        started.builds other ∙ (held_by (other == builds h + 1) other refl ∙ sym (held_at-build h who (builds h + 1) table extent trickle other))

    current_same : (t e : ℕ) → (told_at new t e).current ≡ (told_at old t e).current
    current_same t e =
        ap (λ (told : Told U). told.current) (begins.begun.slots t e)
        ∙ (ap_if (λ (told : Told U). told.current) (is_on t e (next_build h who table extent trickle)) _ (told_at old t e)
        ∙ sym (same_either (is_on t e (next_build h who table extent trickle)) (told_at old t e).current))

    waits_same : (t e : ℕ) → (told_at new t e).waits ≡ (told_at old t e).waits
    waits_same t e =
        ap (λ (told : Told U). told.waits) (begins.begun.slots t e)
        ∙ (ap_if (λ (told : Told U). told.waits) (is_on t e (next_build h who table extent trickle)) _ (told_at old t e)
        ∙ sym (same_either (is_on t e (next_build h who table extent trickle)) (told_at old t e).waits))

    growth_by : (b : Bool) (t e : ℕ) (growth : Growth) → is_on t e (next_build h who table extent trickle) ≡ b →
        (if b then Some (record { id = builds h + 1; notes = [] }) else (told_at old t e).growing) ≡ Some growth →
        IsGrowth content (after_begin h who table extent trickle) t e growth
    growth_by true t e growth on is =
        let parts = on_parts t e (next_build h who table extent trickle) on in
        let exists : Exists h t = subst (Exists h) parts.0 begins.exists in
        let started = beginning in
        subst (λ (g : Growth). IsGrowth content (after_begin h who table extent trickle) t e g) (some_same _ _ is) (record {
          held = next_build h who table extent trickle;
          is = sym (held_begun (builds h + 1))
              ∙ (started.builds (builds h + 1)
              ∙ ap (λ (c : Bool). if c then Some (next_build h who table extent trickle) else build_in old (builds h + 1))
              (eq-eqb (builds h + 1) (builds h + 1) refl));
          journal = IsJournal-begun h (record { who = who; what = Build (builds h + 1) table extent trickle }) t e refl exists;
        })
    growth_by false t e growth off is =
        let kept = begins.agrees.growth t e growth is in
        IsGrowth-quiet content h (record { who = who; what = Build (builds h + 1) table extent trickle }) t e growth kept kept.held refl
        (held_at-build h who (builds h + 1) table extent trickle growth.id ∙ or_first (held_at h growth.id) _ kept.held kept.is)
        refl

    agrees_begun : Agrees content (after_begin h who table extent trickle) new
    agrees_begun =
        let entry : Entry = record { who = who; what = Build (builds h + 1) table extent trickle } in
        let started = beginning in
        record {
          numbered =
              ap length begins.begun.builds ∙ (length_push old.builds (Some (next_build h who table extent trickle))
              ∙ (sym number_is ∙ sym (builds-push h entry)));
          sound =
              IsSound-begun old new (next_build h who table extent trickle) number_is refl (begins.agrees.living table extent
              ∙ begins.free) begins.begun begins.agrees.sound;
          held = held_begun;
          all =
              ap held_among begins.begun.builds
              ∙ (held-begun old.builds (next_build h who table extent trickle)
              ∙ (ap (λ (held : List Held). held ++ next_build h who table extent trickle ∷ []) begins.agrees.all ∙ sym (held-push h entry)));
          units = λ t e. ap (scn_of content) (current_same t e) ∙ (begins.agrees.units t e ∙ sym (unit-push h entry t e));
          living = λ t e.
              started.living t e
              ∙ (ap (λ (n : Option ℕ). if is_on t e (next_build h who table extent trickle) then Some (builds h + 1) else n) (begins.agrees.living t e)
              ∙ sym (living-push h entry t e));
          waits = λ t e. waits_same t e ∙ (begins.agrees.waits t e ∙ sym (waits-push h entry t e));
          stock = λ t e stock is. IsStock-quiet content h entry t e stock refl (begins.agrees.stock t e stock (sym (current_same t e) ∙ is));
          growth = λ t e growth is.
              growth_by (is_on t e (next_build h who table extent trickle)) t e growth refl
              (sym (ap_if (λ (told : Told U). told.growing) (is_on t e (next_build h who table extent trickle)) _ (told_at old t e))
              ∙ (sym (ap (λ (told : Told U). told.growing) (begins.begun.slots t e)) ∙ is));
        }

  pub Agrees-begin : (h : History) (who table extent : ℕ) (trickle : Bool) (held : Held) (old new : Kept U) → Agrees content h old → Exists h table →
      living h table extent ≡ None → held ≡ next_build h who table extent trickle → IsBegun old new held →
      Agrees content (after_begin h who table extent trickle) new
  Agrees-begin h who table extent trickle held old new agrees exists free is begun =
      agrees_begun h who table extent trickle old new (record { agrees = agrees; exists = exists; free = free; begun = subst (IsBegun old new) is begun })
