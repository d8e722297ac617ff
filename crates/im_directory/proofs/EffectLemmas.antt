-- What each call leaves, from what it does to the slots and the builds.
use Rattle.std.proofs.Common.{◌≡◌, ℕ, zero, suc, ◌-◌, ◌≤◌, ◌<◌, inl, inr, ◌⊎◌, Bool, true, false, ◌==◌, ◌&&◌, ◌||◌, List, [], ◌∷◌, ◌++◌, length, map, set, Option, Some, None, is_some, IsSome, if◌then◌else◌, refl, sym, ap, ap₂, subst, ◌∙◌, ⊎_elim, arith, length-set}
use Rattle.std.specs.Prelude.{slice_index_or}
use Rattle.std.specs.Option.{option_map, ForSome}
use Rattle.std.specs.declared.alloc.Global.{Global}
use Rattle.std.specs.declared.sync.Arc.{Arc}
use Rattle.std.proofs.lemmas.Bool.{false≢true, and_parts, and_from, cases_eq, eq-eqb, eqb-true, ne_eqb}
use Rattle.std.proofs.lemmas.List.{ext_get_or, get_or-map, length-map}
use Rattle.im_history.specs.declared.change.Change.{Change}
use Rattle.im_history.specs.declared.entry.What.TheVariants.{Evict}
use Rattle.im_history.specs.declared.look.TableInfo.{TableInfo}
use Rattle.im_history.specs.declared.task.Held.{Held}
use Rattle.im_history.specs.Transactions.{or_here}
use Rattle.im_history.specs.Units.{drops, is_on, killed_by}
use Rattle.im_tables.specs.Table.{HasCell, IsGrown}
use Rattle.im_directory.specs.declared.journals.Current.{Current}
use Rattle.im_directory.specs.declared.journals.Growing.{Growing}
use Rattle.im_directory.specs.Effects.{HasRoom, IsBefore, IsBegun, IsCancelled, IsNoted, IsSwitched, NoneBehind, SameTold, grown, unless_of}
use Rattle.im_directory.specs.Slots.{Growth, Kept, Slot, Stock, Told, build_among, build_in, growth, living_in, nothing, slot_at, stock, told}
use Rattle.im_directory.specs.Sound.{IsSound}
use Rattle.im_directory.specs.Steps.{AreBefore, AreNoted, HasNotesRoom, TellsAlike, builds_killed, current_grown, growing_unless, killed_at, slot_begun, slot_cancelled, slot_dropped, slot_switched, slots_with}
use Rattle.im_directory.specs.inner.Placed.{IsOut}
use Rattle.im_directory.proofs.SlotLemmas.{slot_at-changed, get_or-changed}
use Rattle.im_directory.proofs.SoundLemmas.{ap_if, on_parts, living_on, living_own, build_some}

-- what holds of an image holds before
ForSome-before : {X Y : Type 0} (f : X → Y) (P : X → Type 0) (Q : Y → Type 0) (o : Option X) → ((x : X) → Q (f x) → P x) → ForSome (option_map f o) Q →
    ForSome o P
ForSome-before f P Q None step holds = λ x is. absurd (false≢true (ap is_some is))
ForSome-before f P Q (Some y) step holds = λ x is. let same : y ≡ x = cc in subst P same (step y (holds (f y) refl))

growth_unless : (id : ℕ) (o : Option Growing) → option_map growth (growing_unless id o) ≡ unless_of id (option_map growth o)
growth_unless id None = refl
growth_unless id (Some growing) = ap_if (option_map growth) (growing.id == id) None (Some growing)

unless_of-other : (id : ℕ) (o : Option Growth) → (option_map (λ (g : Growth). g.id) o ≡ Some id → ⊥) → unless_of id o ≡ o
unless_of-other id None other = refl
unless_of-other id (Some growth) other = rw (ne_eqb growth.id id (λ (e : growth.id ≡ id). other (ap Some e))) refl

some_before : (o : Option Growing) (id : ℕ) → option_map (λ (g : Growth). g.id) (option_map growth o) ≡ Some id → IsSome o
some_before None id is = ap is_some is
some_before (Some growing) id is = refl

number_after : (o : Option Growing) → option_map (λ (g : Growth). g.id) (option_map growth o) ≡ option_map (λ (g : Growing). g.id) o
number_after None = refl
number_after (Some growing) = refl

here_again : (place : ℕ) (o : Option ℕ) → (o ≡ None → ⊥) → or_here place o ≡ o
here_again place None dead = absurd (dead refl)
here_again place (Some p) dead = refl

-- an extent is that of a build, with the two sides turned
abbrev is_on_by : Held → ℕ → ℕ → Bool
is_on_by held table extent = (table == held.task.table) && (extent == held.task.extent)

on_sides : (held : Held) (table extent : ℕ) → is_on_by held table extent ≡ true → is_on table extent held ≡ true
on_sides held table extent on =
    let parts = and_parts _ _ on in
    and_from _ _ (eq-eqb held.task.table table (sym (eqb-true table held.task.table parts.0)))
    (eq-eqb held.task.extent extent (sym (eqb-true extent held.task.extent parts.1)))

sides_on : (held : Held) (table extent : ℕ) → is_on table extent held ≡ true → is_on_by held table extent ≡ true
sides_on held table extent on =
    let parts = on_parts table extent held on in
    and_from _ _ (eq-eqb table held.task.table (sym parts.0)) (eq-eqb extent held.task.extent (sym parts.1))

length_killed : (place : ℕ) (living : Option ℕ) (builds : List (Option Held)) → length (builds_killed place living builds) ≡ length builds
length_killed place None builds = refl
length_killed place (Some id) builds = length-set builds (id - 1) (option_map (killed_at place) (build_among builds id))

build_before : (builds : List (Option Held)) (id : ℕ) → 1 ≤ id → build_among builds id ≡ slice_index_or builds (id - 1) None
build_before builds zero some = absurd (omega (arith, some))
build_before builds (suc before) some = let same : suc before - 1 ≡ before = omega arith in ap (λ (k : ℕ). slice_index_or builds k None) (sym same)

-- one place of the builds, once the living build is killed
killed_read : (place : ℕ) (living : Option ℕ) (builds : List (Option Held)) (k : ℕ) (after : Option Held) → ((id : ℕ) → living ≡ Some id → 1 ≤ id) →
    (living ≡ Some (suc k) → option_map (killed_at place) (slice_index_or builds k None) ≡ after) →
    ((living ≡ Some (suc k) → ⊥) → slice_index_or builds k None ≡ after) → slice_index_or (builds_killed place living builds) k None ≡ after
killed_read place None builds k after some same other = other (λ is. false≢true (ap is_some is))
killed_read place (Some id) builds k after some same other =
    let from : 1 ≤ id = some id refl in
    ap (λ (b : Option Held). slice_index_or (set builds (id - 1) (option_map (killed_at place) b)) k None) (build_before builds id from)
    ∙ (get_or-changed (option_map (killed_at place)) builds None (id - 1) k (inr refl)
    ∙ ⊎_elim (λ (is : id - 1 ≡ k).
    let number : id ≡ suc k = omega arith in
    rw (eq-eqb (id - 1) k is) (same (ap Some number)))
    (λ (apart : id - 1 ≡ k → ⊥).
    rw (ne_eqb (id - 1) k apart) (other (λ (e : Some id ≡ Some (suc k)). let number : id ≡ suc k = cc in apart (omega (arith, number)))))
    (cases_eq (id - 1) k))

-- a build that was killed before is killed no further
pub killed_again : (place : ℕ) (held : Held) → (held.killed ≡ None → ⊥) → killed_at place held ≡ held
killed_again place held dead = ap (λ (k : Option ℕ). record held { killed = k }) (here_again place held.killed dead)

module _ {U : Type 0} where
  -- what is kept, by its parts
  abbrev pub kept_of : List (List (Slot U)) → List (Option Held) → Kept U
  kept_of slots builds = record { slots = slots; builds = builds }

  abbrev told_of : Option (Stock U) → Option Growth → Bool → Told U
  told_of current growing waits = record { current = current; growing = growing; waits = waits }

  pub SameTold-kept : (old new : List (List (Slot U))) (builds : List (Option Held)) → IsGrown nothing old new →
      SameTold (kept_of old builds) (kept_of new builds)
  SameTold-kept old new builds keeps = record { slots = λ table extent. ap told (keeps.cells table extent); builds = refl }

  pub SameTold-alike : (old new : List (List (Slot U))) (builds : List (Option Held)) → TellsAlike old new → SameTold (kept_of old builds) (kept_of new builds)
  SameTold-alike old new builds alike = record { slots = alike.each; builds = refl }

  pub IsNoted-made : (old new : List (List (Slot U))) (builds : List (Option Held)) (tables : List TableInfo) (scn : ℕ) (changes : List Change) →
      AreNoted old new tables scn changes → IsNoted (kept_of old builds) (kept_of new builds) tables scn changes
  IsNoted-made old new builds tables scn changes noted = record { slots = noted.each; builds = refl }

  pub HasRoom-made : (slots : List (List (Slot U))) (builds : List (Option Held)) (tables : List TableInfo) (changes : List Change) →
      HasNotesRoom slots tables changes → HasRoom (kept_of slots builds) tables changes
  HasRoom-made slots builds tables changes room =
      record { current = λ table extent. (room.each table extent).current; growing = λ table extent. (room.each table extent).growing }

  pub HasNotesRoom-from : (kept : Kept U) (tables : List TableInfo) (changes : List Change) → HasRoom kept tables changes →
      HasNotesRoom kept.slots tables changes
  HasNotesRoom-from kept tables changes room =
      record { each = λ table extent. record { current = room.current table extent; growing = room.growing table extent } }

  pub AreBefore-from : (kept : Kept U) (scn : ℕ) → IsBefore kept scn → AreBefore kept.slots scn
  AreBefore-from kept scn before = record {
    each = λ table extent. record {
      current =
          ForSome-before stock (λ (c : Current U). NoneBehind scn c.journal.notes) (λ (s : Stock U). NoneBehind scn s.notes)
          (slot_at kept.slots table extent).current (λ c holds. holds) (before.current table extent);
      growing =
          ForSome-before growth (λ (g : Growing). NoneBehind scn g.journal.notes) (λ (g : Growth). NoneBehind scn g.notes)
          (slot_at kept.slots table extent).growing (λ g holds. holds) (before.growing table extent);
    };
  }

  -- what is read of each extent once one of them changed
  told_changed : (f : Slot U → Slot U) (slots : List (List (Slot U))) (held : Held) (table extent : ℕ) →
      HasCell slots held.task.table held.task.extent ⊎ (f nothing ≡ nothing) →
      told (slot_at (slots_with f held.task.table held.task.extent slots) table extent) ≡
      (if is_on table extent held then told (f (slot_at slots table extent)) else told (slot_at slots table extent))
  told_changed f slots held table extent keeps =
      ap told (slot_at-changed f slots held.task.table held.task.extent table extent keeps)
      ∙ ap_if told (is_on table extent held) (f (slot_at slots table extent)) (slot_at slots table extent)

  begun_made : (old mid : List (List (Slot U))) (builds : List (Option Held)) (held : Held) → IsGrown nothing old mid →
      HasCell mid held.task.table held.task.extent → IsBegun (kept_of old builds)
      (kept_of (slots_with (slot_begun held.task.id) held.task.table held.task.extent mid) (builds ++ Some held ∷ [])) held
  begun_made old mid builds held keeps place = record {
    slots = λ table extent.
        ap told (slot_at-changed (slot_begun held.task.id) mid held.task.table held.task.extent table extent (inl place))
        ∙ (ap_if told (is_on table extent held) (slot_begun held.task.id (slot_at mid table extent)) (slot_at mid table extent)
        ∙ ap (λ (t : Told U). if is_on table extent held then record t { growing = Some (record { id = held.task.id; notes = [] }) } else t)
        (ap told (keeps.cells table extent)));
    builds = refl;
  }

  pub IsBegun-made : (old mid after : List (List (Slot U))) (builds new : List (Option Held)) (held : Held) → IsGrown nothing old mid →
      HasCell mid held.task.table held.task.extent → after ≡ slots_with (slot_begun held.task.id) held.task.table held.task.extent mid →
      new ≡ builds ++ Some held ∷ [] → IsBegun (kept_of old builds) (kept_of after new) held
  IsBegun-made old mid after builds new held keeps place made pushed =
      subst (λ (k : Kept U). IsBegun (kept_of old builds) k held) (sym (ap₂ kept_of made pushed)) (begun_made old mid builds held keeps place)

  -- ---- a build ends

  grown_current : (unit : Arc U Global) (o : Option Growing) → option_map stock (option_map (current_grown unit) o) ≡ grown unit.value (option_map growth o)
  grown_current unit None = refl
  grown_current unit (Some growing) = refl

  pub IsSwitched-made : (old after : List (List (Slot U))) (builds new : List (Option Held)) (id : ℕ) (held : Held) (unit : Arc U Global) →
      held.task.id ≡ id → after ≡ slots_with (slot_switched unit) held.task.table held.task.extent old → new ≡ set builds (id - 1) None →
      IsSwitched (kept_of old builds) (kept_of after new) held unit.value
  IsSwitched-made old after builds new id held unit number made ended = record {
    slots = λ table extent.
        ap (λ (s : List (List (Slot U))). told (slot_at s table extent)) made
        ∙ (told_changed (slot_switched unit) old held table extent (inr refl)
        ∙ ap (λ (c : Option (Stock U)). if is_on table extent held then told_of c None (slot_at old table extent).waits else told (slot_at old table extent))
        (grown_current unit (slot_at old table extent).growing));
    builds = ended ∙ ap (λ (k : ℕ). set builds (k - 1) None) (sym number);
  }

  pub IsCancelled-made : (old after : List (List (Slot U))) (builds new : List (Option Held)) (id : ℕ) (full : Bool) (held : Held) →
      IsSound (kept_of old builds) → HasCell old held.task.table held.task.extent → build_among builds id ≡ Some held →
      after ≡ slots_with (slot_cancelled id full) held.task.table held.task.extent old → new ≡ set builds (id - 1) None →
      IsCancelled (kept_of old builds) (kept_of after new) held full
  IsCancelled-made old after builds new id full held sound place is made ended =
      let number : held.task.id ≡ id = sound.numbered id held is in
      record {
        slots = λ table extent.
            ap (λ (s : List (List (Slot U))). told (slot_at s table extent)) made
            ∙ (ap (λ (k : ℕ). told (slot_at (slots_with (slot_cancelled k full) held.task.table held.task.extent old) table extent)) (sym number)
            ∙ (told_changed (slot_cancelled held.task.id full) old held table extent (inl place)
            ∙ ap
            (λ (g : Option Growth). if is_on table extent held
            then told_of (told (slot_at old table extent)).current g ((slot_at old table extent).waits || full)
            else told (slot_at old table extent))
            (growth_unless held.task.id (slot_at old table extent).growing)));
        builds = ended ∙ ap (λ (k : ℕ). set builds (k - 1) None) (sym number);
      }

  -- the living build of an extent is kept in its slot
  pub has_growing : (slots : List (List (Slot U))) (builds : List (Option Held)) (id : ℕ) (held : Held) → IsSound (kept_of slots builds) →
      build_among builds id ≡ Some held → held.killed ≡ None → IsSome (slot_at slots held.task.table held.task.extent).growing
  has_growing slots builds id held sound is alive = some_before (slot_at slots held.task.table held.task.extent).growing id (sound.lives id held is alive)

  -- ---- extents are taken out

  pub kill_held : (slots : List (List (Slot U))) (builds : List (Option Held)) (table extent : ℕ) → IsSound (kept_of slots builds) →
      ForSome (option_map (λ (g : Growing). g.id) (slot_at slots table extent).growing) (λ id. IsSome (build_among builds id))
  kill_held slots builds table extent sound = λ id is.
      let was = sound.living table extent id (number_after (slot_at slots table extent).growing ∙ is) in
      ap is_some was.is

  -- what an Evict makes of a build: it kills that of its number
  evicted_by : (b : Bool) (kept : Kept U) (place table extent id : ℕ) (held : Held) → IsSound kept → build_in kept id ≡ Some held →
      is_on_by held table extent ≡ b → (living_in kept table extent ≡ Some id → ⊥) → (if b then killed_at place held else held) ≡ held
  evicted_by true kept place table extent id held sound is on other =
      killed_again place held (λ alive. other (living_own kept table extent id held sound is alive (on_sides held table extent on)))
  evicted_by false kept place table extent id held sound is off other = refl

  -- the living build is on the extent of the Evict
  evicted_living : (kept : Kept U) (place table extent id : ℕ) (held : Held) → IsSound kept → build_in kept id ≡ Some held →
      living_in kept table extent ≡ Some id → killed_by place (Evict table extent) held ≡ killed_at place held
  evicted_living kept place table extent id held sound is living =
      ap (λ (b : Bool). if b then killed_at place held else held) (sides_on held table extent (living_on kept table extent id held sound is living))

  build_some_of : (kept : Kept U) (table extent id : ℕ) → IsSound kept → living_in kept table extent ≡ Some id → 1 ≤ id
  build_some_of kept table extent id sound lives = let was = sound.living table extent id lives in build_some kept.builds id was.held was.is

  evicted_at : (kept : Kept U) (place table extent id : ℕ) (living : Option ℕ) (build : Option Held) → IsSound kept → build_in kept id ≡ build →
      living_in kept table extent ≡ living → (living ≡ Some id →
      option_map (killed_at place) build ≡ option_map (killed_by place (Evict table extent)) build) × ((living ≡ Some id → ⊥) →
      build ≡ option_map (killed_by place (Evict table extent)) build)
  evicted_at kept place table extent id living None sound is lives = (λ same. refl, λ other. refl)
  evicted_at kept place table extent id living (Some held) sound is lives = (
    λ same. ap Some (sym (evicted_living kept place table extent id held sound is (lives ∙ same))),
    λ other. ap Some (sym (evicted_by (is_on_by held table extent) kept place table extent id held sound is refl (λ same. other (sym lives ∙ same)))),
  )

  killed_list : (kept : Kept U) (place table extent : ℕ) (living : Option ℕ) → IsSound kept → living_in kept table extent ≡ living →
      builds_killed place living kept.builds ≡ map (option_map (killed_by place (Evict table extent))) kept.builds
  killed_list kept place table extent living sound lives =
      let f = option_map (killed_by place (Evict table extent)) in
      let long : length (map f kept.builds) ≡ length kept.builds = length-map kept.builds f in
      let short = length_killed place living kept.builds in
      ext_get_or None (builds_killed place living kept.builds) (map f kept.builds) (omega (arith, long, short))
      (λ k inside.
      let within : k < length kept.builds = omega (arith, short, inside) in
      let both = evicted_at kept place table extent (suc k) living (build_in kept (suc k)) sound refl lives in
      killed_read place living kept.builds k (f (build_in kept (suc k))) (λ id is. build_some_of kept table extent id sound (lives ∙ is)) both.0 both.1
      ∙ sym (get_or-map f kept.builds k None None within))

  pub IsOut-evicted : (slots after : List (List (Slot U))) (builds new : List (Option Held)) (place table extent : ℕ) (living : Option ℕ) →
      IsSound (kept_of slots builds) → living ≡ option_map (λ (g : Growing). g.id) (slot_at slots table extent).growing →
      after ≡ slots_with slot_dropped table extent slots → new ≡ builds_killed place living builds →
      IsOut (kept_of slots builds) (kept_of after new) place table extent
  IsOut-evicted slots after builds new place table extent living sound is made killed = record {
    slots = λ t e.
        ap (λ (s : List (List (Slot U))). told (slot_at s t e)) made
        ∙ (ap told (slot_at-changed slot_dropped slots table extent t e (inr refl))
        ∙ ap_if told (drops t e (Evict table extent)) (slot_dropped (slot_at slots t e)) (slot_at slots t e));
    builds = killed ∙ killed_list (kept_of slots builds) place table extent living sound (number_after (slot_at slots table extent).growing ∙ sym is);
  }
