-- What calls of the store answer, read from its history.
use Rattle.std.specs.Prelude.{◌≡◌, ℕ, ◌⊎◌, ◌+◌, ◌-◌, ◌<◌, ◌≤◌, true, false, IsTrue, All, List, [], length, take, Option, Some, None}
use Rattle.std.specs.Option.{option_map}
use Rattle.std.specs.declared.sync.Arc.{Arc}
use Rattle.std.specs.declared.alloc.Global.{Global}
use Rattle.im_core.specs.declared.answers.Offer.{Offer}
use Rattle.im_core.specs.declared.answers.Offer.TheVariants.{Task, Idle}
use Rattle.im_core.specs.declared.answers.Sent.{Sent}
use Rattle.im_core.specs.declared.answers.Sent.TheVariants as sent
use Rattle.im_core.specs.declared.answers.Switched.{Switched}
use Rattle.im_core.specs.declared.answers.Switched.TheVariants.{Done, AreaFull, Cancelled}
use Rattle.im_values.specs.Fits.{fits}
use Rattle.im_history.specs.declared.entry.What.TheVariants.{Switch, Cancel}
use Rattle.im_history.specs.declared.refused.Refused.{Refused}
use Rattle.im_history.specs.declared.refused.Why.{Why}
use Rattle.im_history.specs.declared.refused.Why.TheVariants.{NoMemory}
use Rattle.im_history.specs.declared.task.Choice.{Choice}
use Rattle.im_history.specs.declared.task.Held.{Held}
use Rattle.im_history.specs.declared.task.Task.{Task as TaskInfo}
use Rattle.im_history.specs.declared.view.Opening.{Opening}
use Rattle.im_history.specs.declared.view.View.{View}
pub use Rattle.im_history.specs.Area.{task_bytes, used}
use Rattle.im_history.specs.Commits.{member_at, scn}
use Rattle.im_history.specs.Cursors.{Opened, cursor_at}
use Rattle.im_history.specs.History.{History}
use Rattle.im_history.specs.Leaves.{leaves}
use Rattle.im_history.specs.Legal.{Exists}
use Rattle.im_history.specs.Queue.{build_of, next, task_of}
use Rattle.im_history.specs.Rows.{Row}
pub use Rattle.im_history.specs.Refusals.{evict_refusal}
pub use Rattle.im_history.specs.Units.{killed_of}
use Rattle.im_history.specs.Units.{Content, held_at, unit_content}
use Rattle.im_core.specs.Seen.{Seen, Adds}

-- a call was refused at this history: for the cause that applies, or for being out of memory
pub record IsRefusal (history : History) (cause : Option Why) (refused : Refused) : Type 0 where
  pub place : refused.place ≡ length history
  pub why : (refused.why ≡ NoMemory) ⊎ (cause ≡ Some refused.why)

-- rows that may be put into a table by whoever saw it with so many columns: it has no fewer, there are some rows, and each fits these
-- columns
pub record MayPut (history : History) (opening : Opening) (rows : List Row) : Type 0 where
  pub exists : Exists history opening.table
  pub seen : opening.columns ≤ length exists.made.schema
  pub some : 1 ≤ length rows
  pub fit : All (λ row. IsTrue (fits row (take opening.columns exists.made.schema))) rows

-- the view of a cursor that is not open: it has no rows, and no columns
abbrev pub no_view : View
no_view = record { place = 0; table = 0; asked = None; scn = 0; rows = 0; per = 0; extents = 0; columns = []; defaults = []; own = [] }

-- the view of a cursor
abbrev pub view_of : Option Opened → View
view_of None = no_view
view_of (Some opened) = opened.view

-- the view of a cursor of a session
abbrev pub cursor_view : History → ℕ → ℕ → View
cursor_view history who cursor = view_of (cursor_at history who cursor)

-- the commit of a number is this, or it is not there yet
abbrev pub IsSent : History → ℕ → Sent → Type 0
IsSent history n (sent.Member member) = member_at history n ≡ Some member
IsSent history n (sent.None left) = (scn history < n) × (left ≡ leaves history)

-- ---- the column store

-- a build of this number is held, and this is it
pub record IsHeld (history : History) (task : TaskInfo) : Type 0 where
  pub held : Held
  pub is : held_at history task.id ≡ Some held
  pub same : held.task ≡ task

-- the build that comes next began, or there was none
abbrev pub IsOffer : Seen → ℕ → Offer → Seen → Type 0
IsOffer old who (Task task) new =
    (choice : Choice) × (next old.log ≡ Some choice) × (task ≡ task_of old.log choice) × Adds old who (build_of old.log choice) new
IsOffer old who (Idle place left) new = (next old.log ≡ None) × (place ≡ length old.log) × (left ≡ leaves old.log) × (new ≡ old)

module _ {U : Type 0} (content : U → Content) where
  -- what a unit that is lent or handed back holds
  abbrev pub content_in : Option (Arc U Global) → Option Content
  content_in unit = option_map (λ (unit : Arc U Global). content unit.value) unit

  -- a finished build became current, and the unit that was current is handed back; or its unit did not fit into the area; or the
  -- build was found dead
  abbrev pub IsSwitch : Seen → ℕ → TaskInfo → Switched U → Seen → Type 0
  IsSwitch old who task (Done place sum before) new =
      (killed_of (held_at old.log task.id) ≡ None)
      × (used old.log + task_bytes old.log task ≤ old.limits.area)
      × (place ≡ length old.log)
      × (sum ≡ used new.log)
      × (content_in before ≡ unit_content old.log task.table task.extent)
      × Adds old who (Switch task.id) new
  IsSwitch old who task (AreaFull place need free) new =
      (killed_of (held_at old.log task.id) ≡ None)
      × (old.limits.area < used old.log + task_bytes old.log task)
      × (place ≡ length old.log)
      × (need ≡ task_bytes old.log task)
      × (free ≡ old.limits.area - used old.log)
      × Adds old who (Cancel task.id true) new
  IsSwitch old who task (Cancelled place at) new =
      (killed_of (held_at old.log task.id) ≡ Some at) × (place ≡ length old.log) × Adds old who (Cancel task.id false) new
