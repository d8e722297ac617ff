-- Units and builds that an entry leaves as they are.
use Rattle.std.proofs.Common.{◌≡◌, ℕ, Bool, true, false, List, [], ◌∷◌, ◌++◌, map, Option, Some, None, is_some, if◌then◌else◌, refl, sym, ap, ap₂, subst, ◌∙◌}
use Rattle.std.specs.Option.{option_map, option_or}
use Rattle.std.proofs.lemmas.Bool.{false≢true}
use Rattle.im_journal.specs.Stale.{Note}
use Rattle.im_history.specs.declared.entry.Entry.{Entry}
use Rattle.im_history.specs.declared.entry.What.{What}
use Rattle.im_history.specs.declared.entry.What.TheVariants.{Memory, Commit, Build, Switch, Cancel, Evict}
use Rattle.im_history.specs.declared.task.Held.{Held}
use Rattle.im_history.specs.declared.task.Task.{Task}
use Rattle.im_history.specs.History.{History}
use Rattle.im_history.specs.Transactions.{or_here}
use Rattle.im_history.specs.Units.{Content, drops, held_at, killed_by}
use Rattle.im_history.proofs.ContentLaws.{content_at-push}
use Rattle.im_history.proofs.UnitLaws.{is_plain, is_quiet}
use Rattle.im_directory.specs.Agrees.{IsGrowth, IsJournal, IsStock, is_apart, takes_out}
use Rattle.im_directory.specs.Effects.{with_notes}
use Rattle.im_directory.specs.Slots.{Growth, Stock}
use Rattle.im_directory.proofs.JournalLemmas.{IsJournal-quiet}
use Rattle.im_directory.proofs.SoundLemmas.{killed_off, some_same}

-- ---- kinds of entries

pub plain-out : (what : What) → takes_out what ≡ true → is_plain what ≡ true
plain-out (Build id table extent trickle) out = absurd (false≢true out)
plain-out (Switch id) out = absurd (false≢true out)
plain-out (Cancel id full) out = absurd (false≢true out)
plain-out _ out = refl

pub quiet-out : (what : What) → takes_out what ≡ true → is_quiet what ≡ true
quiet-out Commit out = absurd (false≢true out)
quiet-out _ out = refl

pub plain-apart : (what : What) → is_apart what ≡ true → is_plain what ≡ true
plain-apart (Build id table extent trickle) apart = absurd (false≢true apart)
plain-apart (Switch id) apart = absurd (false≢true apart)
plain-apart (Cancel id full) apart = absurd (false≢true apart)
plain-apart _ apart = refl

pub quiet-apart : (what : What) → is_apart what ≡ true → is_quiet what ≡ true
quiet-apart Commit apart = absurd (false≢true apart)
quiet-apart _ apart = refl

pub drops-apart : (table extent : ℕ) (what : What) → is_apart what ≡ true → drops table extent what ≡ false
drops-apart table extent (Evict other place) apart = absurd (false≢true apart)
drops-apart table extent (Memory other None) apart = absurd (false≢true apart)
drops-apart table extent (Memory other (Some priority)) apart = refl
drops-apart table extent _ apart = refl

-- an entry that drops nothing kills no build
pub killed-apart : (place : ℕ) (what : What) (build : Option Held) → ((table extent : ℕ) → drops table extent what ≡ false) →
    option_map (killed_by place what) build ≡ build
killed-apart place what None none = refl
killed-apart place what (Some held) none = ap Some (killed_off place what held (none held.task.table held.task.extent))

pub all_killed-apart : (place : ℕ) (what : What) (builds : List (Option Held)) → ((table extent : ℕ) → drops table extent what ≡ false) →
    builds ≡ map (option_map (killed_by place what)) builds
all_killed-apart place what [] none = refl
all_killed-apart place what (build ∷ builds) none =
    ap₂ (λ (b : Option Held) (bs : List (Option Held)). b ∷ bs) (sym (killed-apart place what build none)) (all_killed-apart place what builds none)

task_by : (b : Bool) (place : ℕ) (held : Held) → (if b then record held { killed = or_here place held.killed } else held).task ≡ held.task
task_by true place held = refl
task_by false place held = refl

-- a build that is killed is of the same task
pub task-killed : (place : ℕ) (what : What) (held : Held) → (killed_by place what held).task ≡ held.task
task-killed place what held = task_by (drops held.task.table held.task.extent what) place held

-- ---- options

pub found_by : {X : Type 0} (b : Bool) (left old : Option X) (x : X) → left ≡ None → (if b then left else old) ≡ Some x → (b ≡ false) × (old ≡ Some x)
found_by true left old x none is = absurd (false≢true (ap is_some (sym none ∙ is)))
found_by false left old x none is = (refl, is)

-- what an element of an option was before it was mapped
pub record WasMapped {X Y : Type 0} (f : X → Y) (o : Option X) (y : Y) : Type 0 where
  pub was : X
  pub is : o ≡ Some was
  pub same : y ≡ f was

pub was_mapped : {X Y : Type 0} (f : X → Y) (o : Option X) (y : Y) → option_map f o ≡ Some y → WasMapped f o y
was_mapped f None y is = absurd (false≢true (ap is_some is))
was_mapped f (Some x) y is = record { was = x; is = refl; same = sym (some_same _ _ is) }

pub or_first : {X : Type 0} (o other : Option X) (x : X) → o ≡ Some x → option_or o other ≡ Some x
or_first None other x is = absurd (false≢true (ap is_some is))
or_first (Some y) other x is = is

pub or_second : {X : Type 0} (o other : Option X) → o ≡ None → option_or o other ≡ other
or_second None other is = refl
or_second (Some y) other is = absurd (false≢true (ap is_some (sym is)))

pub or_none_after : {X : Type 0} (o : Option X) → option_or o None ≡ o
or_none_after None = refl
or_none_after (Some x) = refl

module _ {U : Type 0} (content : U → Content) where
  -- a current unit is as it was after an entry that commits no changes
  pub IsStock-quiet : (h : History) (entry : Entry) (table extent : ℕ) (stock : Stock U) → is_quiet entry.what ≡ true →
      IsStock content h table extent stock → IsStock content (h ++ entry ∷ []) table extent stock
  IsStock-quiet h entry table extent stock quiet kept = record {
    holds = kept.holds ∙ sym (content_at-push h entry table extent (content stock.unit).scn kept.journal.exists kept.journal.from);
    journal = IsJournal-quiet h entry table extent (content stock.unit).scn stock.notes quiet kept.journal;
  }

  -- the number of a unit's SCN stays when notes are made
  pub scn_noted : (more : List Note) (o : Option (Stock U)) →
      option_map (λ (s : Stock U). (content s.unit).scn) (option_map (λ (s : Stock U). record s { notes = with_notes more s.notes }) o) ≡ option_map
      (λ (s : Stock U). (content s.unit).scn) o
  scn_noted more None = refl
  scn_noted more (Some stock) = refl

  -- a living build is as it was after an entry that commits no changes, where it is still held
  pub IsGrowth-quiet : (h : History) (entry : Entry) (table extent : ℕ) (growth : Growth) (kept : IsGrowth content h table extent growth) (held : Held) →
      is_quiet entry.what ≡ true → held_at (h ++ entry ∷ []) growth.id ≡ Some held → held.task ≡ kept.held.task →
      IsGrowth content (h ++ entry ∷ []) table extent growth
  IsGrowth-quiet h entry table extent growth kept held quiet is same = record {
    held = held;
    is = is;
    journal = subst (λ (t : Task). IsJournal (h ++ entry ∷ []) table extent t.scn growth.notes) (sym same)
        (IsJournal-quiet h entry table extent kept.held.task.scn growth.notes quiet kept.journal);
  }
