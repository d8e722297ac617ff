-- What came of what the words ask for.
use Rattle.std.proofs.Common.{◌≡◌, ℕ, List, Option, None, Some, Result, Ok, Err, OnErr, ◌⊎◌, inl, inr, sym, ◌∙◌, subst}
use Rattle.im_race.specs.Race.{IsRaceOf}
use Rattle.im_race.specs.Report.{Report}
use Rattle.im_shell.specs.Play.{AreMeant, DoneFor, InPartFor, IsRaced, IsTextOf, IsUncounted, OfScript, Writes, WritesPart}
use Rattle.im_shell.specs.Reports.{report_text}
use Rattle.im_shell.specs.inner.Sent.{SendsPart}
use Rattle.im_words.specs.declared.asked.Asked.{Asked}
use Rattle.im_words.specs.declared.mode.Mode.{Mode}
use Rattle.im_words.specs.declared.mode.Mode.TheVariants.{Run, Race, Gen}
use Rattle.im_words.specs.Command.{Takes}

-- of a race a prefix of its report was written
pub OnErr-raced : {T E : Type 0} (same : Type 0) (result : Result T E)
    (area workers turns : ℕ) (script : List ℕ) (before after : Option (List ℕ)) (report : Report)
    → IsRaceOf area workers turns script report → OnErr result (SendsPart before after (report_text report))
    → OnErr result (same ⊎ WritesPart (IsRaced area workers turns script) before after)
OnErr-raced same (Ok value) area workers turns script before after report lawful part = tt
OnErr-raced same (Err error) area workers turns script before after report lawful part =
    inr (record {
      text = part.sends.sent;
      rest = part.left;
      is = record { report = report; lawful = lawful; text_is = sym part.sends.split };
      took = part.sends.took;
    })

-- a prefix of some text was written
pub OnErr-part : (A P : Type 0) {T E : Type 0} (result : Result T E) → OnErr result P → OnErr result (A ⊎ P)
OnErr-part A P (Ok value) part = tt
OnErr-part A P (Err error) part = inr part

-- and so of what was asked for
pub OnErr-asked : (A : Type 0) {T E : Type 0} (result : Result T E) (mode : Mode) (asked : Asked) (script : List ℕ) (before after : Option (List ℕ))
    (steps_before steps_after : ℕ) → mode ≡ Race → OnErr result (A ⊎ WritesPart (IsRaced asked.area asked.workers asked.turns script) before after)
    → OnErr result (((mode ≡ Race) × A) ⊎ WritesPart (IsTextOf mode asked script steps_before steps_after) before after)
OnErr-asked A (Ok value) mode asked script before after steps_before steps_after is part = tt
OnErr-asked A (Err error) mode asked script before after steps_before steps_after is (inl kept) = inl (is, kept)
OnErr-asked A (Err error) mode asked script before after steps_before steps_after is (inr part) =
    inr (subst (λ (m : Mode). WritesPart (IsTextOf m asked script steps_before steps_after) before after) (sym is) part)

-- what holds of the script that was played is a fact of the script
of-script : (mode : Mode) (asked : Asked) (left : Option (List ℕ)) (P : List ℕ → Type 0) (script played : List ℕ)
    → OfScript mode asked left (λ bytes. bytes ≡ script) → played ≡ script → P played → OfScript mode asked left P
of-script Run asked None P script played is same holds = tt
of-script Run asked (Some bytes) P script played is same holds = subst P (same ∙ sym is) holds
of-script Race asked None P script played is same holds = tt
of-script Race asked (Some bytes) P script played is same holds = subst P (same ∙ sym is) holds
of-script Gen asked left P script played is same holds = subst P (same ∙ sym is) holds

module _ (words : List (List ℕ)) (asked : Asked) (left before after : Option (List ℕ)) (script played : List ℕ) (taken : Takes words asked)
    (meant : AreMeant words asked) (is : OfScript asked.mode asked left (λ bytes. bytes ≡ script)) (same : played ≡ script) where
  -- it was done
  pub done-for : (steps_before steps_after : ℕ) → Writes (IsTextOf asked.mode asked played steps_before steps_after) before after
      → DoneFor words left before after steps_before steps_after
  done-for steps_before steps_after does = record {
    asked = asked;
    taken = taken;
    meant = meant;
    holds =
        of-script asked.mode asked left (λ bytes. Writes (IsTextOf asked.mode asked bytes steps_before steps_after) before after) script played is same
        does;
  }

  -- or in part
  pub in-part-for : {A : Type 0} (steps_before steps_after : ℕ)
      → ((asked.mode ≡ Race) × A) ⊎ WritesPart (IsTextOf asked.mode asked played steps_before steps_after) before after
      → (A × IsUncounted words steps_before steps_after) ⊎ InPartFor words left before after steps_before steps_after
  in-part-for steps_before steps_after (inl (race, kept)) = inl (kept, inr (record { asked = asked; taken = taken; race = race }))
  in-part-for steps_before steps_after (inr does) = inr (record {
    asked = asked;
    taken = taken;
    meant = meant;
    holds =
        of-script asked.mode asked left (λ bytes. WritesPart (IsTextOf asked.mode asked bytes steps_before steps_after) before after) script played is same
        does;
  })
