-- Builds stand by their numbers, and those that nothing killed are living, after each call.
use Rattle.std.proofs.Common.{◌≡◌, ℕ, zero, suc, ◌+◌, ◌-◌, ◌≤◌, ◌<◌, inr, Bool, true, false, ◌==◌, List, [], ◌∷◌, ◌++◌, length, map, set, Option, Some, None, is_some, if◌then◌else◌, refl, sym, ap, ap₂, subst, ◌∙◌, ⊎_elim, arith}
use Rattle.std.specs.Prelude.{slice_index_or}
use Rattle.std.specs.Option.{option_map}
use Rattle.std.proofs.lemmas.Bool.{false≢true, and_parts, and_from, cases_Bool, cases_eq, cases_lt, eq-eqb, eqb-true, ne_eqb}
use Rattle.std.proofs.lemmas.List.{get_or_past, get_or-map, get_or_append_left, get_or_push, length_push, length-map}
use Rattle.im_history.specs.declared.entry.What.{What}
use Rattle.im_history.specs.declared.task.Held.{Held}
use Rattle.im_history.specs.Transactions.{or_here}
use Rattle.im_history.specs.Units.{drops, is_on, killed_by, unless_ended}
use Rattle.im_journal.specs.Stale.{Note}
use Rattle.im_tables.proofs.ForCallers.{cell_at-nil}
use Rattle.im_directory.specs.Effects.{IsBegun, IsCancelled, IsDropped, IsNew, IsNoted, IsSwitched, SameTold, ended_in, notes_of, rested_in, unless_of, with_notes}
use Rattle.im_directory.specs.Slots.{Growth, Kept, Slot, Told, build_among, build_in, living_in, nothing, slot_at, told, told_at}
use Rattle.im_history.specs.declared.change.Change.{Change}
use Rattle.im_history.specs.declared.look.TableInfo.{TableInfo}
use Rattle.im_directory.specs.Sound.{IsLiving, IsSound}
use Rattle.im_directory.proofs.SlotLemmas.{get_or-changed}

pub ap_if : {X Y : Type 0} (f : X → Y) (b : Bool) (x y : X) → f (if b then x else y) ≡ (if b then f x else f y)
ap_if f true x y = refl
ap_if f false x y = refl

pub same_either : {X : Type 0} (b : Bool) (x : X) → x ≡ (if b then x else x)
same_either true x = refl
same_either false x = refl

-- ---- single builds and numbers

pub on_parts : (table extent : ℕ) (held : Held) → is_on table extent held ≡ true → (held.task.table ≡ table) × (held.task.extent ≡ extent)
on_parts table extent held on =
    let parts = and_parts _ _ on in
    (eqb-true held.task.table table parts.0, eqb-true held.task.extent extent parts.1)

pub on_own : (held : Held) → is_on held.task.table held.task.extent held ≡ true
on_own held = and_from _ _ (eq-eqb held.task.table held.task.table refl) (eq-eqb held.task.extent held.task.extent refl)

pub kept_build : (b : Bool) (o : Option Held) (held : Held) → (if b then None else o) ≡ Some held → (b ≡ false) × (o ≡ Some held)
kept_build true o held is = absurd (false≢true (ap is_some is))
kept_build false o held is = (refl, is)

kept_number : (b : Bool) (id x other : ℕ) → (x == id) ≡ b → (if b then None else Some x) ≡ Some other → ((other == id) ≡ false) × (Some x ≡ Some other)
kept_number true id x other same is = absurd (false≢true (ap is_some is))
kept_number false id x other same is =
    let equal : x ≡ other = cc in
    (ap (λ (k : ℕ). k == id) (sym equal) ∙ same, is)

kept_living : (id : ℕ) (o : Option ℕ) (other : ℕ) → unless_ended id o ≡ Some other → ((other == id) ≡ false) × (o ≡ Some other)
kept_living id None other is = absurd (false≢true (ap is_some is))
kept_living id (Some x) other is = kept_number (x == id) id x other refl is

-- a living build that is not the one that ends stays
unless_other : (id : ℕ) (o : Option ℕ) → (o ≡ Some id → ⊥) → unless_ended id o ≡ o
unless_other id None other = refl
unless_other id (Some x) other = rw (ne_eqb x id (λ (e : x ≡ id). other (ap Some e))) refl

unless_same : (id : ℕ) → unless_ended id (Some id) ≡ None
unless_same id = rw (eq-eqb id id refl) refl

number_by : (b : Bool) (growth : Growth) → option_map (λ (g : Growth). g.id) (if b then None else Some growth) ≡ (if b then None else Some growth.id)
number_by true growth = refl
number_by false growth = refl

number_unless : (id : ℕ) (o : Option Growth) → option_map (λ (g : Growth). g.id) (unless_of id o) ≡ unless_ended id (option_map (λ (g : Growth). g.id) o)
number_unless id None = refl
number_unless id (Some growth) = number_by (growth.id == id) growth

pub number_noted : (notes : List Note) (o : Option Growth) → option_map (λ (g : Growth). g.id)
    (option_map (λ (g : Growth). record g { notes = with_notes notes g.notes }) o) ≡ option_map (λ (g : Growth). g.id) o
number_noted notes None = refl
number_noted notes (Some growth) = refl

one_before : (id before : ℕ) → 1 ≤ id → (id - 1 == before) ≡ (suc before == id)
one_before id before some =
    ⊎_elim (λ (is : suc before ≡ id). let less : id - 1 ≡ before = omega arith in eq-eqb (id - 1) before less ∙ sym (eq-eqb (suc before) id is))
    (λ (other : suc before ≡ id → ⊥). ne_eqb (id - 1) before (λ (e : id - 1 ≡ before). other (omega arith)) ∙ sym (ne_eqb (suc before) id other))
    (cases_eq (suc before) id)

build_ended : (builds : List (Option Held)) (id other : ℕ) → 1 ≤ id →
    build_among (set builds (id - 1) None) other ≡ (if other == id then None else build_among builds other)
build_ended builds id zero some = same_either (0 == id) None
build_ended builds id (suc before) some =
    get_or-changed (λ (b : Option Held). None) builds None (id - 1) before (inr refl)
    ∙ ap (λ (b : Bool). if b then None else slice_index_or builds before None) (one_before id before some)

pub build_some : (builds : List (Option Held)) (id : ℕ) (held : Held) → build_among builds id ≡ Some held → 1 ≤ id
build_some builds zero held is = absurd (false≢true (ap is_some is))
build_some builds (suc before) held is = omega arith

pub build_none : (id : ℕ) → build_among [] id ≡ None
build_none zero = refl
build_none (suc before) = get_or_past [] before None (omega arith)

-- a number past the end is of no build
pub build_past : (builds : List (Option Held)) (id : ℕ) → length builds + 1 ≤ id → build_among builds id ≡ None
build_past builds zero past = refl
build_past builds (suc before) past = get_or_past builds before None (omega (arith, past))

build_begun : (builds : List (Option Held)) (held : Held) (id : ℕ) → held.task.id ≡ length builds + 1 →
    build_among (builds ++ Some held ∷ []) id ≡ (if id == held.task.id then Some held else build_among builds id)
build_begun builds held zero next = let other : 0 ≡ held.task.id → ⊥ = λ e. omega (arith, e, next) in rw (ne_eqb 0 held.task.id other) refl
build_begun builds held (suc before) next =
    ⊎_elim (λ (inside : before < length builds).
    let other : suc before ≡ held.task.id → ⊥ = λ e. omega (arith, e, next, inside) in
    rw (ne_eqb (suc before) held.task.id other) (get_or_append_left builds (Some held ∷ []) None before inside))
    (λ (past : length builds ≤ before).
    ⊎_elim (λ (last : before ≡ length builds).
    let same : suc before ≡ held.task.id = omega (arith, next, last) in
    rw (eq-eqb (suc before) held.task.id same) (get_or_push builds (Some held) None before (sym last)))
    (λ (beyond : before ≡ length builds → ⊥).
    let long = length_push builds (Some held) in
    let other : suc before ≡ held.task.id → ⊥ = λ e. beyond (omega (arith, e, next)) in
    rw (ne_eqb (suc before) held.task.id other) (get_or_past (builds ++ Some held ∷ []) before None (omega (arith, long, past, beyond))
    ∙ sym (get_or_past builds before None past)))
    (cases_eq before (length builds)))
    (cases_lt before (length builds))

pub build_mapped : (f : Option Held → Option Held) (builds : List (Option Held)) (id : ℕ) → f None ≡ None →
    build_among (map f builds) id ≡ f (build_among builds id)
build_mapped f builds zero none = sym none
build_mapped f builds (suc before) none =
    ⊎_elim (λ (inside : before < length builds). get_or-map f builds before None None inside)
    (λ (past : length builds ≤ before).
    let long : length (map f builds) ≡ length builds = length-map builds f in
    get_or_past (map f builds) before None (omega (arith, long, past)) ∙ (sym none ∙ ap f (sym (get_or_past builds before None past))))
    (cases_lt before (length builds))

pub some_same : {X : Type 0} (x y : X) → Some x ≡ Some y → x ≡ y
some_same x y same = cc

-- a build that an entry killed or not, and what it was before
pub record WasHeld (place : ℕ) (what : What) (o : Option Held) (now : Held) : Type 0 where
  pub held : Held
  pub is : o ≡ Some held
  pub same : now ≡ killed_by place what held

pub killed_from : (place : ℕ) (what : What) (o : Option Held) (held : Held) → option_map (killed_by place what) o ≡ Some held → WasHeld place what o held
killed_from place what None held is = absurd (false≢true (ap is_some is))
killed_from place what (Some old) held is = record { held = old; is = refl; same = sym (some_same _ _ is) }

id_by : (b : Bool) (place : ℕ) (held : Held) → (if b then record held { killed = or_here place held.killed } else held).task.id ≡ held.task.id
id_by true place held = refl
id_by false place held = refl

killed_id : (place : ℕ) (what : What) (held : Held) → (killed_by place what held).task.id ≡ held.task.id
killed_id place what held = id_by (drops held.task.table held.task.extent what) place held

-- a build that an entry spared
record IsSpared (place : ℕ) (what : What) (held : Held) : Type 0 where
  off : drops held.task.table held.task.extent what ≡ false
  same : killed_by place what held ≡ held
  alive : held.killed ≡ None

here_some : (place : ℕ) (o : Option ℕ) → or_here place o ≡ None → ⊥
here_some place None is = false≢true (sym (ap is_some is))
here_some place (Some p) is = false≢true (sym (ap is_some is))

pub killed_off : (place : ℕ) (what : What) (held : Held) → drops held.task.table held.task.extent what ≡ false → killed_by place what held ≡ held
killed_off place what held off = ap (λ (b : Bool). if b then record held { killed = or_here place held.killed } else held) off

spared_by : (b : Bool) (place : ℕ) (what : What) (held : Held) → drops held.task.table held.task.extent what ≡ b →
    (if b then record held { killed = or_here place held.killed } else held).killed ≡ None → IsSpared place what held
spared_by true place what held off none = absurd (here_some place held.killed none)
spared_by false place what held off none = record { off = off; same = killed_off place what held off; alive = none }

killed_none : (place : ℕ) (what : What) (held : Held) → (killed_by place what held).killed ≡ None → IsSpared place what held
killed_none place what held none = spared_by (drops held.task.table held.task.extent what) place what held refl none

kept_by : (b : Bool) (o : Option ℕ) (id : ℕ) → (if b then None else o) ≡ Some id → (b ≡ false) × (o ≡ Some id)
kept_by true o id is = absurd (false≢true (ap is_some is))
kept_by false o id is = (refl, is)

module _ {U : Type 0} where
  -- the same builds are held, and the same ones are living
  pub record ReadsSame (old new : Kept U) : Type 0 where
    pub builds : (id : ℕ) → build_in new id ≡ build_in old id
    pub living : (table extent : ℕ) → living_in new table extent ≡ living_in old table extent

  pub IsSound-reads : (old new : Kept U) → ReadsSame old new → IsSound old → IsSound new
  IsSound-reads old new same sound = record {
    numbered = λ id held is. sound.numbered id held (sym (same.builds id) ∙ is);
    lives = λ id held is alive. same.living held.task.table held.task.extent ∙ sound.lives id held (sym (same.builds id) ∙ is) alive;
    living = λ table extent id is.
        let was = sound.living table extent id (sym (same.living table extent) ∙ is) in
        record { held = was.held; is = same.builds id ∙ was.is; on = was.on; alive = was.alive };
  }

  abbrev number_of : Told U → Option ℕ
  number_of told = option_map (λ (g : Growth). g.id) told.growing

  pub IsSound-told : (old new : Kept U) → SameTold old new → IsSound old → IsSound new
  IsSound-told old new same sound =
      IsSound-reads old new (record {
        builds = λ id. ap (λ (b : List (Option Held)). build_among b id) same.builds;
        living = λ table extent. ap (λ (told : Told U). number_of told) (same.slots table extent);
      }) sound

  pub IsSound-noted : (old new : Kept U) (tables : List TableInfo) (scn : ℕ) (changes : List Change) → IsNoted old new tables scn changes → IsSound old →
      IsSound new
  IsSound-noted old new tables scn changes noted sound =
      IsSound-reads old new (record {
        builds = λ id. ap (λ (b : List (Option Held)). build_among b id) noted.builds;
        living =
            λ table extent. ap (λ (told : Told U). number_of told) (noted.slots table extent)
            ∙ number_noted (notes_of tables scn changes table extent) (told_at old table extent).growing;
      }) sound

  -- ---- nothing at first

  pub build_in-new : (kept : Kept U) (id : ℕ) → IsNew kept → build_in kept id ≡ None
  build_in-new kept id new = ap (λ (b : List (Option Held)). build_among b id) new.builds ∙ build_none id

  pub told_at-new : (kept : Kept U) (table extent : ℕ) → IsNew kept → told_at kept table extent ≡ record { current = None; growing = None; waits = false }
  told_at-new kept table extent new =
      ap (λ (s : List (List (Slot U))). told (slot_at s table extent)) new.slots ∙ ap told (cell_at-nil nothing table extent)

  pub IsSound-new : (kept : Kept U) → IsNew kept → IsSound kept
  IsSound-new kept new = record {
    numbered = λ id held is. absurd (false≢true (ap is_some (sym (build_in-new kept id new) ∙ is)));
    lives = λ id held is alive. absurd (false≢true (ap is_some (sym (build_in-new kept id new) ∙ is)));
    living = λ table extent id is. absurd (false≢true (ap is_some (sym (ap number_of (told_at-new kept table extent new)) ∙ is)));
  }

  -- ---- a build ends

  -- one build is held no more, nor is it living
  pub record IsEnding (old new : Kept U) (id : ℕ) : Type 0 where
    pub builds : (other : ℕ) → build_in new other ≡ (if other == id then None else build_in old other)
    pub living : (table extent : ℕ) → living_in new table extent ≡ unless_ended id (living_in old table extent)

  pub IsSound-ended : (old new : Kept U) (id : ℕ) → IsEnding old new id → IsSound old → IsSound new
  IsSound-ended old new id ending sound = record {
    numbered = λ other held is. sound.numbered other held (kept_build (other == id) (build_in old other) held (sym (ending.builds other) ∙ is)).1;
    lives = λ other held is alive.
        let was = kept_build (other == id) (build_in old other) held (sym (ending.builds other) ∙ is) in
        ending.living held.task.table held.task.extent
        ∙ (ap (unless_ended id) (sound.lives other held was.1 alive) ∙ ap (λ (b : Bool). if b then None else Some other) was.0);
    living = λ table extent other is.
        let left = kept_living id (living_in old table extent) other (sym (ending.living table extent) ∙ is) in
        let was = sound.living table extent other left.1 in
        record {
          held = was.held;
          is = ending.builds other ∙ (ap (λ (b : Bool). if b then None else build_in old other) left.0 ∙ was.is);
          on = was.on;
          alive = was.alive;
        };
  }

  -- the living build of an extent is on it
  pub living_on : (kept : Kept U) (table extent id : ℕ) (held : Held) → IsSound kept → build_in kept id ≡ Some held →
      living_in kept table extent ≡ Some id → is_on table extent held ≡ true
  living_on kept table extent id held sound is living =
      let was = sound.living table extent id living in
      let same : was.held ≡ held = some_same _ _ (sym was.is ∙ is) in
      subst (λ (h : Held). is_on table extent h ≡ true) same was.on

  -- on another extent than its own, no living build is it
  pub living_off : (kept : Kept U) (table extent id : ℕ) (held : Held) → IsSound kept → build_in kept id ≡ Some held → is_on table extent held ≡ false →
      unless_ended id (living_in kept table extent) ≡ living_in kept table extent
  living_off kept table extent id held sound is off =
      unless_other id (living_in kept table extent) (λ living. false≢true (sym off ∙ living_on kept table extent id held sound is living))

  -- a held build that nothing killed is the living one of its extent
  pub living_own : (kept : Kept U) (table extent id : ℕ) (held : Held) → IsSound kept → build_in kept id ≡ Some held → held.killed ≡ None →
      is_on table extent held ≡ true → living_in kept table extent ≡ Some id
  living_own kept table extent id held sound is alive on =
      let parts = on_parts table extent held on in
      sym (ap₂ (living_in kept) parts.0 parts.1) ∙ sound.lives id held is alive

  switched_by : (b : Bool) (old : Kept U) (told : Told U) (table extent id : ℕ) (held : Held) → IsSound old → build_in old id ≡ Some held →
      held.killed ≡ None → told.growing ≡ None → is_on table extent held ≡ b →
      number_of (if b then told else told_at old table extent) ≡ unless_ended id (living_in old table extent)
  switched_by true old told table extent id held sound is alive none on =
      ap (option_map (λ (g : Growth). g.id)) none ∙ sym (ap (unless_ended id) (living_own old table extent id held sound is alive on) ∙ unless_same id)
  switched_by false old told table extent id held sound is alive none off = sym (living_off old table extent id held sound is off)

  pub IsEnding-switched : (old new : Kept U) (id : ℕ) (held : Held) (unit : U) → IsSound old → build_in old id ≡ Some held → held.killed ≡ None →
      IsSwitched old new held unit → IsEnding old new id
  IsEnding-switched old new id held unit sound is alive switched =
      let number : held.task.id ≡ id = sound.numbered id held is in
      record {
        builds = λ other.
            ap (λ (b : List (Option Held)). build_among b other) (switched.builds ∙ ap (λ (k : ℕ). set old.builds (k - 1) None) number)
            ∙ build_ended old.builds id other (build_some old.builds id held is);
        living = λ table extent.
            ap (λ (told : Told U). number_of told) (switched.slots table extent)
            ∙ switched_by (is_on table extent held) old _ table extent id held sound is alive refl refl;
      }

  ended_by : (b : Bool) (old : Kept U) (table extent id : ℕ) (full : Bool) (held : Held) → IsSound old → build_in old id ≡ Some held →
      held.task.id ≡ id → is_on table extent held ≡ b →
      number_of (if b then ended_in held.task.id full (told_at old table extent) else told_at old table extent)
      ≡ unless_ended id (living_in old table extent)
  ended_by true old table extent id full held sound is number on =
      number_unless held.task.id (told_at old table extent).growing ∙ ap (λ (k : ℕ). unless_ended k (living_in old table extent)) number
  ended_by false old table extent id full held sound is number off = sym (living_off old table extent id held sound is off)

  pub IsEnding-cancelled : (old new : Kept U) (id : ℕ) (full : Bool) (held : Held) → IsSound old → build_in old id ≡ Some held →
      IsCancelled old new held full → IsEnding old new id
  IsEnding-cancelled old new id full held sound is cancelled =
      let number : held.task.id ≡ id = sound.numbered id held is in
      record {
        builds = λ other.
            ap (λ (b : List (Option Held)). build_among b other) (cancelled.builds ∙ ap (λ (k : ℕ). set old.builds (k - 1) None) number)
            ∙ build_ended old.builds id other (build_some old.builds id held is);
        living = λ table extent.
            ap (λ (told : Told U). number_of told) (cancelled.slots table extent)
            ∙ ended_by (is_on table extent held) old table extent id full held sound is number refl;
      }

  -- ---- a build begins

  -- one build more is held, and is the living one of its extent
  pub record IsBeginning (old new : Kept U) (held : Held) : Type 0 where
    pub builds : (id : ℕ) → build_in new id ≡ (if id == held.task.id then Some held else build_in old id)
    pub living : (table extent : ℕ) → living_in new table extent ≡ (if is_on table extent held then Some held.task.id else living_in old table extent)

  pub IsBeginning-begun : (old new : Kept U) (held : Held) → held.task.id ≡ length old.builds + 1 → IsBegun old new held → IsBeginning old new held
  IsBeginning-begun old new held next begun = record {
    builds = λ id. ap (λ (b : List (Option Held)). build_among b id) begun.builds ∙ build_begun old.builds held id next;
    living = λ table extent.
        ap (λ (told : Told U). number_of told) (begun.slots table extent)
        ∙ ap_if (λ (told : Told U). number_of told) (is_on table extent held) _ (told_at old table extent);
  }

  numbered_by : (b : Bool) (old : Kept U) (held other : Held) (id : ℕ) → IsSound old → (id == held.task.id) ≡ b →
      (if b then Some held else build_in old id) ≡ Some other → other.task.id ≡ id
  numbered_by true old held other id sound same is =
      let equal : held ≡ other = some_same _ _ is in
      sym (ap (λ (h : Held). h.task.id) equal) ∙ sym (eqb-true id held.task.id same)
  numbered_by false old held other id sound same is = sound.numbered id other is

  lives_by : (b : Bool) (old new : Kept U) (held other : Held) (id : ℕ) → IsSound old → IsBeginning old new held →
      living_in old held.task.table held.task.extent ≡ None → (id == held.task.id) ≡ b → (if b then Some held else build_in old id) ≡ Some other →
      other.killed ≡ None → living_in new other.task.table other.task.extent ≡ Some id
  lives_by true old new held other id sound begins free same is alive =
      let equal : held ≡ other = some_same _ _ is in
      let number : Some held.task.id ≡ Some id = ap Some (sym (eqb-true id held.task.id same)) in
      subst (λ (h : Held). living_in new h.task.table h.task.extent ≡ Some id) equal
      (begins.living held.task.table held.task.extent ∙ (ap (λ (b : Bool). if b then Some held.task.id else living_in old held.task.table held.task.extent)
      (on_own held) ∙ number))
  lives_by false old new held other id sound begins free same is alive =
      let was = sound.lives id other is alive in
      let off : is_on other.task.table other.task.extent held ≡ false = ⊎_elim (λ (on : is_on other.task.table other.task.extent held ≡ true).
      let parts = on_parts other.task.table other.task.extent held on in
      absurd (false≢true (ap is_some (sym free ∙ (ap₂ (living_in old) parts.0 parts.1 ∙ was)))))
      (λ (no : is_on other.task.table other.task.extent held ≡ false). no)
      (cases_Bool (is_on other.task.table other.task.extent held)) in
      begins.living other.task.table other.task.extent ∙ (ap (λ
      (b : Bool). if b then Some held.task.id else living_in old other.task.table other.task.extent) off ∙ was)

  living_by : (b : Bool) (old new : Kept U) (held : Held) (table extent id : ℕ) → IsSound old → IsBeginning old new held → held.killed ≡ None →
      build_in old held.task.id ≡ None → is_on table extent held ≡ b → (if b then Some held.task.id else living_in old table extent) ≡ Some id →
      IsLiving new table extent id
  living_by true old new held table extent id sound begins alive absent on is =
      let number : held.task.id ≡ id = some_same _ _ is in
      record {
        held = held;
        is = begins.builds id ∙ ap (λ (b : Bool). if b then Some held else build_in old id) (eq-eqb id held.task.id (sym number));
        on = on;
        alive = alive;
      }
  living_by false old new held table extent id sound begins alive absent off is =
      let was = sound.living table extent id is in
      let other : id ≡ held.task.id → ⊥ = λ e. false≢true (ap is_some (sym absent ∙ (ap (build_in old) (sym e) ∙ was.is))) in
      record {
        held = was.held;
        is = begins.builds id ∙ (ap (λ (b : Bool). if b then Some held else build_in old id) (ne_eqb id held.task.id other) ∙ was.is);
        on = was.on;
        alive = was.alive;
      }

  pub IsSound-begun : (old new : Kept U) (held : Held) → held.task.id ≡ length old.builds + 1 → held.killed ≡ None →
      living_in old held.task.table held.task.extent ≡ None → IsBegun old new held → IsSound old → IsSound new
  IsSound-begun old new held next alive free begun sound =
      let begins = IsBeginning-begun old new held next begun in
      let absent : build_in old held.task.id ≡ None = build_past old.builds held.task.id (omega (arith, next)) in
      record {
        numbered = λ id other is. numbered_by (id == held.task.id) old held other id sound refl (sym (begins.builds id) ∙ is);
        lives = λ id other is lives. lives_by (id == held.task.id) old new held other id sound begins free refl (sym (begins.builds id) ∙ is) lives;
        living =
            λ table extent id is. living_by (is_on table extent held) old new held table extent id sound begins alive absent refl
            (sym (begins.living table extent) ∙ is);
      }

  -- ---- extents are taken out of the column store

  -- builds are killed, and are living no more
  pub record IsKilling (old new : Kept U) (place : ℕ) (what : What) : Type 0 where
    pub builds : (id : ℕ) → build_in new id ≡ option_map (killed_by place what) (build_in old id)
    pub living : (table extent : ℕ) → living_in new table extent ≡ (if drops table extent what then None else living_in old table extent)

  pub IsKilling-dropped : (old new : Kept U) (place : ℕ) (what : What) → IsDropped old new place what → IsKilling old new place what
  IsKilling-dropped old new place what dropped = record {
    builds = λ id. ap (λ (b : List (Option Held)). build_among b id) dropped.builds ∙ build_mapped (option_map (killed_by place what)) old.builds id refl;
    living = λ table extent.
        ap (λ (told : Told U). number_of told) (dropped.slots table extent)
        ∙ ap_if (λ (told : Told U). number_of told) (drops table extent what) _ (rested_in (told_at old table extent));
  }

  pub IsSound-killed : (old new : Kept U) (place : ℕ) (what : What) → IsKilling old new place what → IsSound old → IsSound new
  IsSound-killed old new place what killing sound = record {
    numbered = λ id held is.
        let was = killed_from place what (build_in old id) held (sym (killing.builds id) ∙ is) in
        ap (λ (h : Held). h.task.id) was.same ∙ (killed_id place what was.held ∙ sound.numbered id was.held was.is);
    lives = λ id held is alive.
        let was = killed_from place what (build_in old id) held (sym (killing.builds id) ∙ is) in
        let spared = killed_none place what was.held (sym (ap (λ (h : Held). h.killed) was.same) ∙ alive) in
        let equal : held ≡ was.held = was.same ∙ spared.same in
        subst (λ (h : Held). living_in new h.task.table h.task.extent ≡ Some id) (sym equal)
        (killing.living was.held.task.table was.held.task.extent
        ∙ (ap (λ (b : Bool). if b then None else living_in old was.held.task.table was.held.task.extent) spared.off
        ∙ sound.lives id was.held was.is spared.alive));
    living = λ table extent id is.
        let left = kept_by (drops table extent what) (living_in old table extent) id (sym (killing.living table extent) ∙ is) in
        let was = sound.living table extent id left.1 in
        let parts = on_parts table extent was.held was.on in
        let off : drops was.held.task.table was.held.task.extent what ≡ false = ap₂ (λ (t e : ℕ). drops t e what) parts.0 parts.1 ∙ left.0 in
        record {
          held = was.held;
          is = killing.builds id ∙ (ap (option_map (killed_by place what)) was.is ∙ ap Some (killed_off place what was.held off));
          on = was.on;
          alive = was.alive;
        };
  }
