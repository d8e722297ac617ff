-- The extent of each held build has a place, and the builds are sound, after each call.
use Rattle.std.proofs.Common.{◌≡◌, ℕ, ◌+◌, ◌==◌, Bool, true, false, List, length, Option, Some, is_some, if◌then◌else◌, refl, sym, ap, subst, ◌∙◌}
use Rattle.std.proofs.lemmas.Bool.{false≢true}
use Rattle.std.specs.Option.{option_map}
use Rattle.im_tables.specs.Table.{HasCell, IsGrown}
use Rattle.im_tables.proofs.ForCallers.{HasCell-grown, HasCell-with_cell}
use Rattle.im_history.specs.declared.entry.What.{What}
use Rattle.im_history.specs.declared.entry.What.TheVariants.{Evict}
use Rattle.im_history.specs.declared.task.Held.{Held}
use Rattle.im_history.specs.declared.task.Task.{Task}
use Rattle.im_history.specs.Transactions.{or_here}
use Rattle.im_history.specs.Units.{drops, killed_by}
use Rattle.im_directory.specs.Effects.{IsBegun, IsNew}
use Rattle.im_directory.specs.Slots.{Growth, Kept, Slot, Told, build_among, build_in, nothing, slot_at, told, told_at}
use Rattle.im_directory.specs.Sound.{IsSound}
use Rattle.im_directory.specs.Steps.{AreRested, slots_with}
use Rattle.im_directory.specs.inner.Placed.{IsOut, IsPlaced}
use Rattle.im_directory.proofs.EffectLemmas.{kept_of}
use Rattle.im_directory.proofs.SoundLemmas.{IsBeginning-begun, IsEnding, IsKilling, IsSound-ended, IsSound-killed, IsSound-new, IsSound-reads, ap_if, build_in-new, build_mapped, kept_build, killed_from, some_same}

task_by : (b : Bool) (place : ℕ) (held : Held) → (if b then record held { killed = or_here place held.killed } else held).task ≡ held.task
task_by true place held = refl
task_by false place held = refl

module _ {U : Type 0} where
  -- each extent that has a place has one still
  abbrev pub KeepsPlaces : List (List (Slot U)) → List (List (Slot U)) → Type 0
  KeepsPlaces old new = (table extent : ℕ) → HasCell old table extent → HasCell new table extent

  -- where one extent changed
  pub changed_keeps : (f : Slot U → Slot U) (old new : List (List (Slot U))) (table extent : ℕ) → new ≡ slots_with f table extent old →
      KeepsPlaces old new
  changed_keeps f old new table extent changed = λ t e has.
      subst (λ (s : List (List (Slot U))). HasCell s t e) (sym changed)
      (HasCell-with_cell old table extent (f (slot_at old table extent)) t e has)

  -- where more extents have a place
  pub grown_keeps : (old new : List (List (Slot U))) → IsGrown nothing old new → KeepsPlaces old new
  grown_keeps old new grown = λ t e. HasCell-grown nothing old new t e grown

  -- where more have one, and then one of them changed
  pub begun_keeps : (f : Slot U → Slot U) (old mid new : List (List (Slot U))) (table extent : ℕ) → IsGrown nothing old mid →
      new ≡ slots_with f table extent mid → KeepsPlaces old new
  begun_keeps f old mid new table extent grown changed = λ t e has.
      changed_keeps f mid new table extent changed t e (grown_keeps old mid grown t e has)

  pub IsPlaced-new : (kept : Kept U) → IsNew kept → IsPlaced kept
  IsPlaced-new kept new = record {
    sound = IsSound-new kept new;
    room = λ id held is. absurd (false≢true (ap is_some (sym (build_in-new kept id new) ∙ is)));
  }

  -- no build began or ended
  pub IsPlaced-same : (old new : List (List (Slot U))) (kept : Kept U) → kept.slots ≡ old → KeepsPlaces old new →
      IsSound (kept_of new kept.builds) → IsPlaced kept → IsPlaced (kept_of new kept.builds)
  IsPlaced-same old new kept same keeps sound placed = record {
    sound = sound;
    room = λ id held is. keeps held.task.table held.task.extent (subst (λ s. HasCell s held.task.table held.task.extent) same (placed.room id held is));
  }

  begun_room : (b : Bool) (old new : Kept U) (held other : Held) (id : ℕ) → KeepsPlaces old.slots new.slots →
      HasCell new.slots held.task.table held.task.extent → IsPlaced old →
      (if b then Some held else build_in old id) ≡ Some other → HasCell new.slots other.task.table other.task.extent
  begun_room true old new held other id keeps here placed is =
      subst (λ (h : Held). HasCell new.slots h.task.table h.task.extent) (some_same held other is) here
  begun_room false old new held other id keeps here placed is = keeps other.task.table other.task.extent (placed.room id other is)

  -- a build began
  pub IsPlaced-begun : (old new : Kept U) (held : Held) → held.task.id ≡ length old.builds + 1 → IsBegun old new held →
      KeepsPlaces old.slots new.slots → HasCell new.slots held.task.table held.task.extent → IsSound new → IsPlaced old → IsPlaced new
  IsPlaced-begun old new held next begun keeps here sound placed =
      let begins = IsBeginning-begun old new held next begun in
      record {
        sound = sound;
        room = λ id other is. begun_room (id == held.task.id) old new held other id keeps here placed (sym (begins.builds id) ∙ is);
      }

  -- a build ended
  pub IsPlaced-ended : (old new : Kept U) (id : ℕ) → IsEnding old new id → KeepsPlaces old.slots new.slots → IsPlaced old → IsPlaced new
  IsPlaced-ended old new id ending keeps placed = record {
    sound = IsSound-ended old new id ending placed.sound;
    room = λ other held is.
        keeps held.task.table held.task.extent
        (placed.room other held (kept_build (other == id) (build_in old other) held (sym (ending.builds other) ∙ is)).1);
  }

  -- an extent is out of the column store
  IsKilling-out : (old new : Kept U) (place table extent : ℕ) → IsOut old new place table extent → IsKilling old new place (Evict table extent)
  IsKilling-out old new place table extent out = record {
    builds = λ id.
        ap (λ (b : List (Option Held)). build_among b id) out.builds
        ∙ build_mapped (option_map (killed_by place (Evict table extent))) old.builds id refl;
    living = λ t e.
        ap (λ (told : Told U). option_map (λ (g : Growth). g.id) told.growing) (out.slots t e)
        ∙ ap_if (λ (told : Told U). option_map (λ (g : Growth). g.id) told.growing) (drops t e (Evict table extent)) _ (told_at old t e);
  }

  pub IsPlaced-out : (old new : Kept U) (place table extent : ℕ) → IsOut old new place table extent → KeepsPlaces old.slots new.slots →
      IsPlaced old → IsPlaced new
  IsPlaced-out old new place table extent out keeps placed =
      let what : What = Evict table extent in
      let killing = IsKilling-out old new place table extent out in
      record {
        sound = IsSound-killed old new place what killing placed.sound;
        room = λ id held is.
            let was = killed_from place what (build_in old id) held (sym (killing.builds id) ∙ is) in
            let task : was.held.task ≡ held.task =
            sym (ap (λ (h : Held). h.task) was.same ∙ task_by (drops was.held.task.table was.held.task.extent what) place was.held) in
            subst (λ (t : Task). HasCell new.slots t.table t.extent) task
            (keeps was.held.task.table was.held.task.extent (placed.room id was.held was.is));
      }

  -- no extent waits any more
  pub IsPlaced-rested : (kept : Kept U) (slots : List (List (Slot U))) → AreRested kept.slots slots → IsPlaced kept → IsPlaced (kept_of slots kept.builds)
  IsPlaced-rested kept slots rested placed = record {
    sound = IsSound-reads kept (kept_of slots kept.builds) (record {
      builds = λ id. refl;
      living = λ table extent. ap (λ (s : Slot U). option_map (λ (g : Growth). g.id) (told s).growing) (rested.each table extent);
    }) placed.sound;
    room = λ id held is. rested.room held.task.table held.task.extent (placed.room id held is);
  }
