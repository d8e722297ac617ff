-- What it means that a directory is that of a history.
use Rattle.std.specs.Prelude.{◌≡◌, ℕ, ◌/◌, ◌≤◌, ◌==◌, ◌&&◌, ◌||◌, Bool, not, List, length, All, Option, Some}
use Rattle.std.specs.Option.{option_map}
use Rattle.im_journal.specs.Stale.{Note, is_noted, notes_to}
use Rattle.im_history.specs.declared.entry.What.{What}
use Rattle.im_history.specs.declared.task.Held.{Held}
use Rattle.im_history.specs.Commits.{scn}
use Rattle.im_history.specs.History.{History}
use Rattle.im_history.specs.Kinds.{scope_of}
use Rattle.im_history.specs.Legal.{Exists}
use Rattle.im_history.specs.Queue.{waits}
use Rattle.im_history.specs.Units.{Content, builds, content_at, held as all_held, held_at, living, touched_between, unit}
use Rattle.im_history.specs.Views.{per_at}
use Rattle.im_directory.specs.Slots.{Growth, Kept, Stock, build_in, held_among, living_in, told_at}
use Rattle.im_directory.specs.Sound.{IsSound}

-- the notes say what commits behind an SCN touched of an extent: at each SCN those up to it
pub record IsJournal (history : History) (table extent after : ℕ) (notes : List Note) : Type 0 where
  pub exists : Exists history table
  pub from : after ≤ scn history
  pub to : All (λ note. note.1 ≤ scn history) notes
  pub each : (to rid : ℕ) → is_noted (notes_to to notes) rid ≡ ((rid / per_at history table == extent) && touched_between history after to table rid)

module _ {U : Type 0} (content : U → Content) where
  -- a current unit: it holds what was committed by its SCN, and its journal what was touched since
  pub record IsStock (history : History) (table extent : ℕ) (stock : Stock U) : Type 0 where
    pub holds : content stock.unit ≡ content_at history table extent (content stock.unit).scn
    pub journal : IsJournal history table extent (content stock.unit).scn stock.notes

  -- a living build: its journal says what was touched since it began
  pub record IsGrowth (history : History) (table extent : ℕ) (growth : Growth) : Type 0 where
    pub held : Held
    pub is : held_at history growth.id ≡ Some held
    pub journal : IsJournal history table extent held.task.scn growth.notes

  -- the SCN of a current unit
  abbrev pub scn_of : Option (Stock U) → Option ℕ
  scn_of stock = option_map (λ (stock : Stock U). (content stock.unit).scn) stock

  -- what is kept of each build and each extent is what this history says
  pub record Agrees (history : History) (kept : Kept U) : Type 0 where
    pub numbered : length kept.builds ≡ builds history
    pub sound : IsSound kept
    pub held : (id : ℕ) → build_in kept id ≡ held_at history id
    pub all : held_among kept.builds ≡ all_held history
    pub units : (table extent : ℕ) → scn_of (told_at kept table extent).current ≡ unit history table extent
    pub living : (table extent : ℕ) → living_in kept table extent ≡ living history table extent
    pub waits : (table extent : ℕ) → (told_at kept table extent).waits ≡ waits history table extent
    pub stock : (table extent : ℕ) (stock : Stock U) → (told_at kept table extent).current ≡ Some stock → IsStock history table extent stock
    pub growth : (table extent : ℕ) (growth : Growth) → (told_at kept table extent).growing ≡ Some growth → IsGrowth history table extent growth

-- an entry of this kind takes extents out of the column store
abbrev pub takes_out : What → Bool
takes_out what = (scope_of what).takes_out

-- an entry of this kind changes no build, no unit and no journal
abbrev pub is_apart : What → Bool
is_apart what = not ((scope_of what).rows || ((scope_of what).builds || (scope_of what).takes_out))
