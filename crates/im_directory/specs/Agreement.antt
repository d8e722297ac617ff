-- What callers know of a directory that agrees with a history.
use Rattle.std.specs.Prelude.{◌≡◌, ℕ, ◌+◌, ◌≤◌, ◌&&◌, Bool, true, [], ◌∷◌, ◌++◌, length, Some, None, is_none}
use Rattle.im_journal.specs.Stale.{stale_rows_at}
use Rattle.im_history.specs.declared.entry.What.{What}
use Rattle.im_history.specs.declared.entry.What.TheVariants.{Commit, Build, Switch, Cancel}
use Rattle.im_history.specs.declared.task.Held.{Held}
use Rattle.im_history.specs.Commits.{scn}
use Rattle.im_history.specs.Area.{used}
use Rattle.im_history.specs.Extents.{AreOfExtents}
use Rattle.im_history.specs.History.{History}
use Rattle.im_history.specs.Horizon.{scns_built}
use Rattle.im_history.specs.Legal.{Exists}
use Rattle.im_history.specs.Queue as Queue
use Rattle.im_history.specs.Tables.{given, tables}
use Rattle.im_history.specs.Transactions.{pending}
use Rattle.im_history.specs.Units.{Content, builds, content_at, held_at, is_on, living, stale, task_at, unit}
use Rattle.im_history.specs.Views.{per_at}
use Rattle.im_directory.specs.Agrees.{Agrees, is_apart, takes_out}
use Rattle.im_directory.specs.Effects.{IsBefore, IsBegun, IsCancelled, IsDropped, IsNew, IsNoted, IsSwitched, SameTold}
use Rattle.im_directory.specs.Lists as Lists
use Rattle.im_directory.specs.Lists.{used_in}
use Rattle.im_directory.specs.Slots.{Kept, Stock, scns_among, told_at}
use Rattle.im_directory.specs.Sound.{IsAlive}

-- what is held of the next build of a history, which begins at its end
abbrev pub next_build : History → ℕ → ℕ → ℕ → Bool → Held
next_build history who table extent trickle =
    record { who = who; task = task_at history (builds history + 1) table extent trickle; given = given history table; killed = None }

-- the living build of an extent is held, it is of that extent, and nothing killed it
pub record IsLivingBuild (history : History) (table extent id : ℕ) : Type 0 where
  pub held : Held
  pub is : held_at history id ≡ Some held
  pub on : is_on table extent held ≡ true
  pub alive : held.killed ≡ None

module _ {U : Type 0} (content : U → Content) where
  -- each call keeps the agreement, with the entry that it goes with
  pub record KeepsAgreement : Type 0 where
    pub at_first : (kept : Kept U) → IsNew kept → Agrees content [] kept
    pub begins : (h : History) (who table extent : ℕ) (trickle : Bool) (held : Held) (old new : Kept U) → Agrees content h old → Exists h table →
        living h table extent ≡ None → held ≡ next_build h who table extent trickle → IsBegun old new held →
        Agrees content (h ++ record { who = who; what = Build (builds h + 1) table extent trickle } ∷ []) new
    pub commits : (h : History) (who : ℕ) (old new : Kept U) → Agrees content h old → IsNoted old new (tables h) (scn h + 1) (pending h who) →
        Agrees content (h ++ record { who = who; what = Commit } ∷ []) new
    pub switches : (h : History) (who id : ℕ) (held : Held) (unit : U) (old new : Kept U) → Agrees content h old → held_at h id ≡ Some held →
        held.killed ≡ None → content unit ≡ content_at h held.task.table held.task.extent held.task.scn → IsSwitched old new held unit →
        Agrees content (h ++ record { who = who; what = Switch id } ∷ []) new
    pub cancels : (h : History) (who id : ℕ) (full : Bool) (held : Held) (old new : Kept U) → Agrees content h old → held_at h id ≡ Some held →
        IsCancelled old new held full → Agrees content (h ++ record { who = who; what = Cancel id full } ∷ []) new
    pub drops : (h : History) (who : ℕ) (what : What) (old new : Kept U) → takes_out what ≡ true → Agrees content h old →
        IsDropped old new (length h) what → Agrees content (h ++ record { who = who; what = what } ∷ []) new
    pub others : (h : History) (who : ℕ) (what : What) (kept : Kept U) → is_apart what ≡ true → Agrees content h kept →
        Agrees content (h ++ record { who = who; what = what } ∷ []) kept
    pub room : (h : History) (old new : Kept U) → Agrees content h old → SameTold old new → Agrees content h new

  -- where it agrees, each reading is the history's, and each call may be made that the history allows
  pub record ReadsHistory (h : History) (kept : Kept U) : Type 0 where
    pub stale_rows : (table extent : ℕ) (stock : Stock U) (to : ℕ) → (told_at kept table extent).current ≡ Some stock → 1 ≤ per_at h table →
        stale h table extent (content stock.unit).scn to ≡ stale_rows_at stock.notes to
    pub before : IsBefore kept (scn h)
    pub later : IsBefore kept (scn h + 1)
    pub is_living : (table extent id : ℕ) → living h table extent ≡ Some id → IsLivingBuild h table extent id
    pub lives : (id : ℕ) (held : Held) → held_at h id ≡ Some held → held.killed ≡ None → living h held.task.table held.task.extent ≡ Some id
    pub numbered : (id : ℕ) (held : Held) → held_at h id ≡ Some held → held.task.id ≡ id
    pub alive : (id : ℕ) (held : Held) → held_at h id ≡ Some held → held.killed ≡ None → IsAlive kept id
    pub empty : (table extent : ℕ) →
        Lists.is_empty (told_at kept table extent)
        ≡ (Queue.is_free h (record { table = table; number = extent }) && is_none (unit h table extent))
    pub due : (table extent : ℕ) → 1 ≤ per_at h table →
        Lists.is_due content (told_at kept table extent) ≡ Queue.is_due h (record { table = table; number = extent })
    pub stale : (table extent : ℕ) → 1 ≤ per_at h table →
        Lists.is_stale content (told_at kept table extent) ≡ Queue.is_stale h (record { table = table; number = extent })
    pub used : AreOfExtents h → used_in content kept.slots ≡ used h
    pub scns : scns_among kept.builds ≡ scns_built h
