-- The extents of a table are taken out of the column store one after another.
use Rattle.std.proofs.Common.{◌≡◌, ℕ, suc, ◌+◌, ◌≤◌, ◌<◌, Bool, true, false, ◌==◌, ◌&&◌, ◌||◌, nat_lt, List, [], ◌∷◌, length, map, Option, Some, None, is_some, if◌then◌else◌, refl, sym, ap, ap₂, ◌∙◌, ⊎_elim, arith}
use Rattle.std.specs.Prelude.{slice_index_or}
use Rattle.std.specs.Option.{option_map}
use Rattle.std.proofs.lemmas.Bool.{false≢true, cases_eq, cases_lt, eq-eqb, eqb-true, ne_eqb, le-ltb, lt-ltb, ltb-false}
use Rattle.std.proofs.lemmas.List.{ext_get_or, get_or-map, length-map}
use Rattle.im_history.specs.declared.entry.What.TheVariants.{Evict, Memory}
use Rattle.im_history.specs.declared.task.Held.{Held}
use Rattle.im_history.specs.declared.task.Task.{Task}
use Rattle.im_history.specs.Transactions.{or_here}
use Rattle.im_history.specs.Units.{drops, killed_by}
use Rattle.im_tables.proofs.ForCallers.{cell_at-past}
use Rattle.im_directory.specs.Effects.{IsDropped, rested_in}
use Rattle.im_directory.specs.Slots.{Growth, Kept, Slot, Told, build_in, nothing, told, told_at}
use Rattle.im_directory.specs.Sound.{IsSound}
use Rattle.im_directory.specs.Steps.{AreRested, killed_at}
use Rattle.im_directory.specs.inner.Placed.{IsOut}
use Rattle.im_directory.proofs.EffectLemmas.{kept_of, killed_again}
use Rattle.im_directory.proofs.SoundLemmas.{ap_if}

-- a held build, killed where it is of one of the table's extents before this one
abbrev killed_upto : ℕ → ℕ → ℕ → Held → Held
killed_upto place table upto held = if (table == held.task.table) && nat_lt held.task.extent upto then killed_at place held else held

here_never : (place : ℕ) (o : Option ℕ) → or_here place o ≡ None → ⊥
here_never place None none = false≢true (sym (ap is_some none))
here_never place (Some p) none = false≢true (sym (ap is_some none))

killed_twice : (place : ℕ) (held : Held) → killed_at place (killed_at place held) ≡ killed_at place held
killed_twice place held = killed_again place (killed_at place held) (λ none. here_never place held.killed none)

-- one extent more
one_more : (k e : ℕ) → nat_lt e (k + 1) ≡ ((k == e) || nat_lt e k)
one_more k e =
    ⊎_elim (λ (is : k ≡ e). rw (eq-eqb k e is) (lt-ltb e (k + 1) (omega (arith, is))))
    (λ (other : k ≡ e → ⊥).
    rw (ne_eqb k e other)
    (⊎_elim (λ (below : e < k). lt-ltb e (k + 1) (omega arith) ∙ sym (lt-ltb e k below))
    (λ (above : k ≤ e). let beyond : k + 1 ≤ e = omega (arith, other, above) in le-ltb e (k + 1) beyond ∙ sym (le-ltb e k above))
    (cases_lt e k)))
    (cases_eq k e)

either_gone : {X : Type 0} (a b c : Bool) (gone old : X) → (if a && b then gone else (if a && c then gone else old)) ≡ (if a && (b || c) then gone else old)
either_gone true true c gone old = refl
either_gone true false c gone old = refl
either_gone false b c gone old = refl

either_killed : (a b c : Bool) (place : ℕ) (held : Held) → (if a && b then killed_at place (if a && c then killed_at place held else held) else
    (if a && c then killed_at place held else held)) ≡ (if a && (b || c) then killed_at place held else held)
either_killed true true true place held = killed_twice place held
either_killed true true false place held = refl
either_killed true false c place held = refl
either_killed false b c place held = refl

same_task : (b : Bool) (place : ℕ) (held : Held) → (if b then killed_at place held else held).task ≡ held.task
same_task true place held = refl
same_task false place held = refl

killed_next : (place table k : ℕ) (held : Held) → killed_by place (Evict table k) (killed_upto place table k held) ≡ killed_upto place table (k + 1) held
killed_next place table k held =
    let now : Held = killed_upto place table k held in
    ap (λ (t : Task). if (table == t.table) && (k == t.extent) then killed_at place now else now)
    (same_task ((table == held.task.table) && nat_lt held.task.extent k) place held)
    ∙ (either_killed (table == held.task.table) (k == held.task.extent) (nat_lt held.task.extent k) place held
    ∙ ap (λ (b : Bool). if (table == held.task.table) && b then killed_at place held else held) (sym (one_more k held.task.extent)))

none_before : (a : Bool) (e : ℕ) → (a && nat_lt e 0) ≡ false
none_before true e = le-ltb e 0 (omega arith)
none_before false e = refl

killed_none : (place table : ℕ) (held : Held) → killed_upto place table 0 held ≡ held
killed_none place table held = ap (λ (b : Bool). if b then killed_at place held else held) (none_before (table == held.task.table) held.task.extent)

none_of : (place table : ℕ) (o : Option Held) → o ≡ option_map (killed_upto place table 0) o
none_of place table None = refl
none_of place table (Some held) = ap Some (sym (killed_none place table held))

killed_nothing : (place table : ℕ) (builds : List (Option Held)) → builds ≡ map (option_map (killed_upto place table 0)) builds
killed_nothing place table [] = refl
killed_nothing place table (b ∷ builds) =
    ap₂ (λ (x : Option Held) (xs : List (Option Held)). x ∷ xs) (none_of place table b) (killed_nothing place table builds)

more_of : (place table k : ℕ) (o : Option Held) → option_map (killed_by place (Evict table k)) (option_map (killed_upto place table k) o) ≡ option_map
    (killed_upto place table (k + 1)) o
more_of place table k None = refl
more_of place table k (Some held) = ap Some (killed_next place table k held)

killed_more : (place table k : ℕ) (builds : List (Option Held)) →
    map (option_map (killed_by place (Evict table k))) (map (option_map (killed_upto place table k)) builds) ≡ map
    (option_map (killed_upto place table (k + 1))) builds
killed_more place table k [] = refl
killed_more place table k (b ∷ builds) =
    ap₂ (λ (x : Option Held) (xs : List (Option Held)). x ∷ xs) (more_of place table k b) (killed_more place table k builds)

module _ {U : Type 0} where
  abbrev gone : Told U
  gone = record { current = None; growing = None; waits = false }

  -- the table's extents before this one are out
  pub record Dropping (old now : Kept U) (place table upto : ℕ) : Type 0 where
    pub slots : (t e : ℕ) → told_at now t e ≡ (if (table == t) && nat_lt e upto then gone else told_at old t e)
    pub builds : now.builds ≡ map (option_map (killed_upto place table upto)) old.builds

  pub Dropping-none : (old : Kept U) (place table : ℕ) → Dropping old old place table 0
  Dropping-none old place table = record {
    slots = λ t e. sym (ap (λ (b : Bool). if b then gone else told_at old t e) (none_before (table == t) e));
    builds = killed_nothing place table old.builds;
  }

  pub Dropping-next : (old now next : Kept U) (place table k : ℕ) → Dropping old now place table k → IsOut now next place table k →
      Dropping old next place table (k + 1)
  Dropping-next old now next place table k dropping dropped = record {
    slots = λ t e.
        dropped.slots t e
        ∙ (ap (λ (x : Told U). if (table == t) && (k == e) then gone else x) (dropping.slots t e)
        ∙ (either_gone (table == t) (k == e) (nat_lt e k) gone (told_at old t e)
        ∙ ap (λ (b : Bool). if (table == t) && b then gone else told_at old t e) (sym (one_more k e))));
    builds = dropped.builds ∙ (ap (map (option_map (killed_by place (Evict table k)))) dropping.builds ∙ killed_more place table k old.builds);
  }

  -- past the end nothing is read
  told_past : (kept : Kept U) (table e n : ℕ) → n ≡ length (slice_index_or kept.slots table []) → n ≤ e → told_at kept table e ≡ gone
  told_past kept table e n long past = ap told (cell_at-past nothing kept.slots table e (omega (arith, long, past)))

  told_all : (a b : Bool) (old : Kept U) (table t e n : ℕ) → n ≡ length (slice_index_or old.slots table []) → (table == t) ≡ a → nat_lt e n ≡ b →
      (if a && b then gone else told_at old t e) ≡ (if a then gone else told_at old t e)
  told_all true true old table t e n long is below = refl
  told_all true false old table t e n long is past =
      let same : table ≡ t = eqb-true table t is in
      ap (λ (k : ℕ). told_at old k e) (sym same) ∙ told_past old table e n long (ltb-false e n past)
  told_all false b old table t e n long is below = refl

  killed_all : (a b : Bool) (old : Kept U) (place table n id : ℕ) (held : Held) → n ≡ length (slice_index_or old.slots table []) → IsSound old →
      build_in old id ≡ Some held → (table == held.task.table) ≡ a → nat_lt held.task.extent n ≡ b →
      (if a && b then killed_at place held else held) ≡ (if a then killed_at place held else held)
  killed_all true true old place table n id held long sound build is below = refl
  killed_all true false old place table n id held long sound build is past =
      let same : table ≡ held.task.table = eqb-true table held.task.table is in
      let none : told_at old held.task.table held.task.extent ≡ gone = ap (λ (k : ℕ). told_at old k held.task.extent) (sym same)
      ∙ told_past old table held.task.extent n long (ltb-false held.task.extent n past) in
      let dead : held.killed ≡ None → ⊥ =
      λ alive. false≢true (sym (ap (λ (x : Told U). is_some (option_map (λ (g : Growth). g.id) x.growing)) none)
      ∙ ap is_some (sound.lives id held build alive)) in
      sym (killed_again place held dead)
  killed_all false b old place table n id held long sound build is below = refl

  killed_at_all : (old : Kept U) (place table n id : ℕ) (build : Option Held) → n ≡ length (slice_index_or old.slots table []) → IsSound old →
      build_in old id ≡ build → option_map (killed_upto place table n) build ≡ option_map (killed_by place (Memory table None)) build
  killed_at_all old place table n id None long sound is = refl
  killed_at_all old place table n id (Some held) long sound is =
      ap Some (killed_all (table == held.task.table) (nat_lt held.task.extent n) old place table n id held long sound is refl refl)

  -- an extent that is out does not wait
  rested_by : (b : Bool) (x : Told U) → rested_in (if b then gone else x) ≡ (if b then gone else rested_in x)
  rested_by b x = ap_if rested_in b gone x

  -- one extent is out, and then none waits any more
  pub IsDropped-out : (old now : Kept U) (slots : List (List (Slot U))) (place table extent : ℕ) → IsOut old now place table extent →
      AreRested now.slots slots → IsDropped old (kept_of slots now.builds) place (Evict table extent)
  IsDropped-out old now slots place table extent out rested = record {
    slots = λ t e.
        ap told (rested.each t e) ∙ (ap rested_in (out.slots t e) ∙ rested_by (drops t e (Evict table extent)) (told_at old t e));
    builds = out.builds;
  }

  -- all extents of a table are out, and then none waits any more
  pub Dropping-all : (old now : Kept U) (slots : List (List (Slot U))) (place table n : ℕ) → n ≡ length (slice_index_or old.slots table []) → IsSound old →
      Dropping old now place table n → AreRested now.slots slots → IsDropped old (kept_of slots now.builds) place (Memory table None)
  Dropping-all old now slots place table n long sound dropping rested =
      let upto = option_map (killed_upto place table n) in
      let whole = option_map (killed_by place (Memory table None)) in
      let first : length (map upto old.builds) ≡ length old.builds = length-map old.builds upto in
      let second : length (map whole old.builds) ≡ length old.builds = length-map old.builds whole in
      record {
        slots = λ t e.
            ap told (rested.each t e)
            ∙ (ap rested_in (dropping.slots t e ∙ told_all (table == t) (nat_lt e n) old table t e n long refl refl)
            ∙ rested_by (table == t) (told_at old t e));
        builds = dropping.builds
            ∙ ext_get_or None (map upto old.builds) (map whole old.builds) (omega (arith, first, second))
            (λ k inside.
            let within : k < length old.builds = omega (arith, first, inside) in
            get_or-map upto old.builds k None None within
            ∙ (killed_at_all old place table n (suc k) (build_in old (suc k)) long sound refl ∙ sym (get_or-map whole old.builds k None None within)));
      }
