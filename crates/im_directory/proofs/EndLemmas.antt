-- A directory goes on to agree with a history when a build ends.
use Rattle.std.proofs.Common.{◌≡◌, ℕ, ◌-◌, ◌==◌, ◌||◌, Bool, true, false, not, [], ◌∷◌, ◌++◌, length, filter, set, Option, Some, None, is_some, if◌then◌else◌, refl, sym, ap, ap₂, subst, ◌∙◌, length-set}
use Rattle.std.specs.Option.{option_map}
use Rattle.std.proofs.lemmas.Bool.{false≢true, ne_eqb}
use Rattle.im_history.specs.declared.entry.Entry.{Entry}
use Rattle.im_history.specs.declared.entry.What.TheVariants.{Switch, Cancel}
use Rattle.im_history.specs.declared.task.Held.{Held}
use Rattle.im_history.specs.History.{History}
use Rattle.im_history.specs.Queue.{waits}
use Rattle.im_history.specs.Units.{Content, content_at, held as all_held, held_at, is_id, is_on, switched, unit as unit_at, unless_ended}
use Rattle.im_history.proofs.BuildLaws.{held_at-cancel, held_at-switch}
use Rattle.im_history.proofs.ContentLaws.{content_at-push}
use Rattle.im_history.proofs.UnitLaws.{builds-push, held-push, is_quiet, living-push, unit-push}
use Rattle.im_directory.specs.Agrees.{Agrees, IsGrowth, IsJournal, IsStock, scn_of}
use Rattle.im_directory.specs.Effects.{IsCancelled, IsSwitched, ended_in, grown, unless_of}
use Rattle.im_directory.specs.Slots.{Growth, Kept, Stock, Told, build_in, held_among, told_at}
use Rattle.im_directory.specs.Sound.{IsSound}
use Rattle.im_directory.proofs.AgreesLemmas.{IsGrowth-quiet, IsStock-quiet, was_mapped}
use Rattle.im_directory.proofs.HeldLemmas.{held-ended}
use Rattle.im_directory.proofs.JournalLemmas.{IsJournal-quiet}
use Rattle.im_directory.proofs.SoundLemmas.{IsEnding-cancelled, IsEnding-switched, IsSound-ended, ap_if, build_some, living_on, living_own, on_parts, same_either, some_same}
use Rattle.im_directory.proofs.WaitLemmas.{waits-cancel, waits-push}

-- a living build that is left is not the one that ended
left_by : (b : Bool) (id : ℕ) (growth left : Growth) → (growth.id == id) ≡ b → (if b then None else Some growth) ≡ Some left →
    ((left.id == id) ≡ false) × (Some growth ≡ Some left)
left_by true id growth left is found = absurd (false≢true (ap is_some found))
left_by false id growth left is found = (ap (λ (g : Growth). g.id == id) (sym (some_same _ _ found)) ∙ is, found)

left_of : (id : ℕ) (o : Option Growth) (left : Growth) → unless_of id o ≡ Some left → ((left.id == id) ≡ false) × (o ≡ Some left)
left_of id None left found = absurd (false≢true (ap is_some found))
left_of id (Some growth) left found = left_by (growth.id == id) id growth left refl found

module _ {U : Type 0} (content : U → Content) where
  -- a living build that is left stays held
  growth_kept : (h : History) (entry : Entry) (old : Kept U) (table extent id : ℕ) (growth : Growth) → is_quiet entry.what ≡ true → Agrees content h old →
      held_at (h ++ entry ∷ []) growth.id ≡ (if growth.id == id then None else held_at h growth.id) → (growth.id == id) ≡ false →
      (told_at old table extent).growing ≡ Some growth → IsGrowth content (h ++ entry ∷ []) table extent growth
  growth_kept h entry old table extent id growth quiet agrees held apart is =
      let kept = agrees.growth table extent growth is in
      IsGrowth-quiet content h entry table extent growth kept kept.held quiet (held
      ∙ (ap (λ (b : Bool). if b then None else held_at h growth.id) apart ∙ kept.is)) refl

  -- the living build of another extent than that of a held build is another one
  growth_off : (h : History) (id : ℕ) (held : Held) (old : Kept U) (t e : ℕ) (growth : Growth) → IsSound old → build_in old id ≡ Some held →
      is_on t e held ≡ false → (told_at old t e).growing ≡ Some growth → (growth.id == id) ≡ false
  growth_off h id held old t e growth sound is off found =
      ne_eqb growth.id id (λ same.
      false≢true (sym off ∙ living_on old t e id held sound is (ap (option_map (λ (g : Growth). g.id)) found ∙ ap Some same)))

  -- a held build of this number is not among them any more
  all_ended : (h : History) (id : ℕ) (held : Held) (old : Kept U) → Agrees content h old → build_in old id ≡ Some held →
      held_among (set old.builds (held.task.id - 1) None) ≡ filter (λ held. not (is_id id held)) (all_held h)
  all_ended h id held old agrees is =
      let number : held.task.id ≡ id = agrees.sound.numbered id held is in
      ap (λ (k : ℕ). held_among (set old.builds (k - 1) None)) number
      ∙ (held-ended old.builds id agrees.sound.numbered (build_some old.builds id held is)
      ∙ ap (filter (λ held. not (is_id id held))) agrees.all)

  -- ---- without its unit

  -- a held build of this number ends without its unit after this history
  record Cancels (h : History) (id : ℕ) (full : Bool) (held : Held) (old new : Kept U) : Type 0 where
    agrees : Agrees content h old
    is : held_at h id ≡ Some held
    cancelled : IsCancelled old new held full

  module _ (h : History) (who id : ℕ) (full : Bool) (held : Held) (old new : Kept U) (cancels : Cancels h id full held old new) where
    -- the history after it
    abbrev after_cancel : History
    after_cancel = h ++ record { who = who; what = Cancel id full } ∷ []

    cancelled_is : build_in old id ≡ Some held
    cancelled_is = cancels.agrees.held id ∙ cancels.is

    cancelled_number : held.task.id ≡ id
    cancelled_number = cancels.agrees.sound.numbered id held cancelled_is

    current_kept : (t e : ℕ) → (told_at new t e).current ≡ (told_at old t e).current
    current_kept t e =
        ap (λ (told : Told U). told.current) (cancels.cancelled.slots t e)
        ∙ (ap_if (λ (told : Told U). told.current) (is_on t e held) (ended_in held.task.id full (told_at old t e)) (told_at old t e)
        ∙ sym (same_either (is_on t e held) (told_at old t e).current))

    waits_ended : (t e : ℕ) → (told_at new t e).waits ≡ waits after_cancel t e
    waits_ended t e =
        ap (λ (told : Told U). told.waits) (cancels.cancelled.slots t e)
        ∙ (ap_if (λ (told : Told U). told.waits) (is_on t e held) (ended_in held.task.id full (told_at old t e)) (told_at old t e)
        ∙ (ap (λ (w : Bool). if is_on t e held then w || full else w) (cancels.agrees.waits t e) ∙ waits-cancel h who id full held t e cancels.is))

    growth_spared : (b : Bool) (t e : ℕ) (growth : Growth) → is_on t e held ≡ b →
        (if b then unless_of held.task.id (told_at old t e).growing else (told_at old t e).growing) ≡ Some growth → IsGrowth content after_cancel t e growth
    growth_spared true t e growth on found =
        let left = left_of held.task.id (told_at old t e).growing growth found in
        let apart : (growth.id == id) ≡ false = ap (λ (k : ℕ). growth.id == k) (sym cancelled_number) ∙ left.0 in
        growth_kept h (record {
          who = who;
          what = Cancel id full;
        }) old t e id growth refl cancels.agrees (held_at-cancel h who id full growth.id) apart left.1
    growth_spared false t e growth off found =
        let apart = growth_off h id held old t e growth cancels.agrees.sound cancelled_is off found in
        growth_kept h (record {
          who = who;
          what = Cancel id full;
        }) old t e id growth refl cancels.agrees (held_at-cancel h who id full growth.id) apart found

    agrees_cancelled : Agrees content after_cancel new
    agrees_cancelled =
        let entry : Entry = record { who = who; what = Cancel id full } in
        let agrees = cancels.agrees in
        let ending = IsEnding-cancelled old new id full held agrees.sound cancelled_is cancels.cancelled in
        let long : length (set old.builds (held.task.id - 1) None) ≡ length old.builds = length-set old.builds (held.task.id - 1) None in
        record {
          numbered = ap length cancels.cancelled.builds ∙ (long ∙ (agrees.numbered ∙ sym (builds-push h entry)));
          sound = IsSound-ended old new id ending agrees.sound;
          held =
              λ other. ending.builds other ∙ (ap (λ (o : Option Held). if other == id then None else o) (agrees.held other)
              ∙ sym (held_at-cancel h who id full other));
          all = ap held_among cancels.cancelled.builds ∙ (all_ended h id held old agrees cancelled_is ∙ sym (held-push h entry));
          units = λ t e. ap (scn_of content) (current_kept t e) ∙ (agrees.units t e ∙ sym (unit-push h entry t e));
          living = λ t e. ending.living t e ∙ (ap (unless_ended id) (agrees.living t e) ∙ sym (living-push h entry t e));
          waits = waits_ended;
          stock = λ t e stock found. IsStock-quiet content h entry t e stock refl (agrees.stock t e stock (sym (current_kept t e) ∙ found));
          growth =
              λ t e growth found. growth_spared (is_on t e held) t e growth refl
              (sym (ap_if (λ (told : Told U). told.growing) (is_on t e held) (ended_in held.task.id full (told_at old t e)) (told_at old t e))
              ∙ (sym (ap (λ (told : Told U). told.growing) (cancels.cancelled.slots t e)) ∙ found));
        }

  pub Agrees-cancel : (h : History) (who id : ℕ) (full : Bool) (held : Held) (old new : Kept U) → Agrees content h old → held_at h id ≡ Some held →
      IsCancelled old new held full → Agrees content (h ++ record { who = who; what = Cancel id full } ∷ []) new
  Agrees-cancel h who id full held old new agrees is cancelled =
      agrees_cancelled h who id full held old new (record { agrees = agrees; is = is; cancelled = cancelled })

  -- ---- with its unit

  -- a living build of this number, whose unit holds what it is to hold, becomes current after this history
  record Switches (h : History) (id : ℕ) (held : Held) (unit : U) (old new : Kept U) : Type 0 where
    agrees : Agrees content h old
    is : held_at h id ≡ Some held
    alive : held.killed ≡ None
    holds : content unit ≡ content_at h held.task.table held.task.extent held.task.scn
    switched : IsSwitched old new held unit

  -- what is kept of the living build
  record IsBuilt (h : History) (old : Kept U) (table extent : ℕ) (held : Held) : Type 0 where
    growth : Growth
    is : (told_at old table extent).growing ≡ Some growth
    journal : IsJournal h table extent held.task.scn growth.notes

  module _ (h : History) (who id : ℕ) (held : Held) (unit : U) (old new : Kept U) (switches : Switches h id held unit old new) where
    build_is : build_in old id ≡ Some held
    build_is = switches.agrees.held id ∙ switches.is

    built : (t e : ℕ) → is_on t e held ≡ true → IsBuilt h old t e held
    built t e on =
        let living = living_own old t e id held switches.agrees.sound build_is switches.alive on in
        let was = was_mapped (λ (g : Growth). g.id) (told_at old t e).growing id living in
        let kept = switches.agrees.growth t e was.was was.is in
        let same : kept.held ≡ held = some_same _ _ (sym kept.is ∙ (ap (held_at h) (sym was.same) ∙ switches.is)) in
        record { growth = was.was; is = was.is; journal = subst (λ (b : Held). IsJournal h t e b.task.scn was.was.notes) same kept.journal }

    scn_is : (content unit).scn ≡ held.task.scn
    scn_is = ap (λ (c : Content). c.scn) switches.holds

    -- what is read of an extent whose build was switched in, or not
    abbrev told_by : Bool → ℕ → ℕ → Told U
    told_by b t e = if b then record (told_at old t e) { current = grown unit (told_at old t e).growing; growing = None } else told_at old t e

    unit_by : (b : Bool) (t e : ℕ) → is_on t e held ≡ b → scn_of content (told_by b t e).current ≡ (if b then Some held.task.scn else unit_at h t e)
    unit_by true t e on =
        let kept = built t e on in
        ap (λ (o : Option Growth). scn_of content (grown unit o)) kept.is ∙ ap Some scn_is
    unit_by false t e off = switches.agrees.units t e

    stock_by : (b : Bool) (t e : ℕ) (stock : Stock U) → is_on t e held ≡ b → (told_by b t e).current ≡ Some stock →
        IsStock content (h ++ record { who = who; what = Switch id } ∷ []) t e stock
    stock_by true t e stock on found =
        let entry : Entry = record { who = who; what = Switch id } in
        let kept = built t e on in
        let parts = on_parts t e held on in
        let same : record { unit = unit; notes = kept.growth.notes } ≡ stock = some_same _ _ (sym (ap (grown unit) kept.is) ∙ found) in
        let here : content_at h held.task.table held.task.extent held.task.scn ≡ content_at h t e held.task.scn =
        ap₂ (λ (table extent : ℕ). content_at h table extent held.task.scn) parts.0 parts.1 in
        subst (λ (s : Stock U). IsStock content (h ++ entry ∷ []) t e s) same (record {
          holds = switches.holds
              ∙ (here
              ∙ (sym (content_at-push h entry t e held.task.scn kept.journal.exists kept.journal.from) ∙ ap (content_at (h ++ entry ∷ []) t e) (sym scn_is)));
          journal =
              subst (λ (n : ℕ). IsJournal (h ++ entry ∷ []) t e n kept.growth.notes) (sym scn_is)
              (IsJournal-quiet h entry t e held.task.scn kept.growth.notes refl kept.journal);
        })
    stock_by false t e stock off found = IsStock-quiet content h (record { who = who; what = Switch id }) t e stock refl (switches.agrees.stock t e stock found)

    waits_switched : (t e : ℕ) → (told_at new t e).waits ≡ (told_at old t e).waits
    waits_switched t e =
        ap (λ (told : Told U). told.waits) (switches.switched.slots t e)
        ∙ (ap_if (λ (told : Told U). told.waits) (is_on t e held) _ (told_at old t e)
        ∙ sym (same_either (is_on t e held) (told_at old t e).waits))

    growth_by : (b : Bool) (t e : ℕ) (growth : Growth) → is_on t e held ≡ b → (told_by b t e).growing ≡ Some growth →
        IsGrowth content (h ++ record { who = who; what = Switch id } ∷ []) t e growth
    growth_by true t e growth on found = absurd (false≢true (ap is_some found))
    growth_by false t e growth off found =
        let apart = growth_off h id held old t e growth switches.agrees.sound build_is off found in
        growth_kept h (record {
          who =
              who;
          what = Switch id;
        }) old t e id growth refl switches.agrees (held_at-switch h who id growth.id) apart found

    agrees_switched : Agrees content (h ++ record { who = who; what = Switch id } ∷ []) new
    agrees_switched =
        let entry : Entry = record { who = who; what = Switch id } in
        let agrees = switches.agrees in
        let ending = IsEnding-switched old new id held unit agrees.sound build_is switches.alive switches.switched in
        let long : length (set old.builds (held.task.id - 1) None) ≡ length old.builds = length-set old.builds (held.task.id - 1) None in
        record {
          numbered = ap length switches.switched.builds ∙ (long ∙ (agrees.numbered ∙ sym (builds-push h entry)));
          sound = IsSound-ended old new id ending agrees.sound;
          held =
              λ other. ending.builds other ∙ (ap (λ (o : Option Held). if other == id then None else o) (agrees.held other)
              ∙ sym (held_at-switch h who id other));
          all = ap held_among switches.switched.builds ∙ (all_ended h id held old agrees build_is ∙ sym (held-push h entry));
          units = λ t e.
              ap (λ (told : Told U). scn_of content told.current) (switches.switched.slots t e)
              ∙ (unit_by (is_on t e held) t e refl
              ∙ sym (unit-push h entry t e ∙ ap (switched t e (unit_at h t e)) switches.is));
          living = λ t e. ending.living t e ∙ (ap (unless_ended id) (agrees.living t e) ∙ sym (living-push h entry t e));
          waits = λ t e. waits_switched t e ∙ (agrees.waits t e ∙ sym (waits-push h entry t e));
          stock =
              λ t e stock found. stock_by (is_on t e held) t e stock refl (sym (ap (λ (told : Told U). told.current) (switches.switched.slots t e)) ∙ found);
          growth =
              λ t e growth found. growth_by (is_on t e held) t e growth refl (sym (ap (λ (told : Told U). told.growing) (switches.switched.slots t e))
              ∙ found);
        }

  pub Agrees-switch : (h : History) (who id : ℕ) (held : Held) (unit : U) (old new : Kept U) → Agrees content h old → held_at h id ≡ Some held →
      held.killed ≡ None → content unit ≡ content_at h held.task.table held.task.extent held.task.scn → IsSwitched old new held unit →
      Agrees content (h ++ record { who = who; what = Switch id } ∷ []) new
  Agrees-switch h who id held unit old new agrees is alive holds switched =
      agrees_switched h who id held unit old new (record { agrees = agrees; is = is; alive = alive; holds = holds; switched = switched })
