-- What is known of an extent that was pinned for a view.
use Rattle.std.specs.Prelude.{◌≡◌, ℕ, ◌*◌, ◌≤◌, min, take, List, Option}
use Rattle.std.specs.Option.{ForSome, option_map}
use Rattle.im_history.specs.declared.view.View.{View}
use Rattle.im_history.specs.Columns.{columns_at, defaults_at}
use Rattle.im_history.specs.History.{History}
use Rattle.im_history.specs.Rows.{Row, present}
use Rattle.im_history.specs.Units.{Content, content_at}
use Rattle.im_history.specs.Views.{per_at, seen_by}
use Rattle.im_history.specs.Serving.{fetched_by, rows_in, shown_all}
use Rattle.im_group.specs.Partials.{Numbered}

-- a unit serves a view: it holds the rows of the extent at its SCN, and that is not later than the view's
pub record Serves (history : History) (view : View) (extent : ℕ) (content : Content) : Type 0 where
  pub holds : content ≡ content_at history view.table extent content.scn
  pub old : content.scn ≤ view.scn

-- what is fetched from the versions: the stale rows beside a unit, and else all rows of the extent, as the view shows them
abbrev pub fetched_in : History → View → ℕ → Option Content → List (ℕ × Option Row)
fetched_in history view extent unit = shown_all view (fetched_by history view extent (option_map (λ content. content.scn) unit))

-- a view has the columns that its table had at the view's SCN: up to there the table's defaults are the first of the view's
abbrev pub HasDefaults : History → View → Type 0
HasDefaults history view =
    (at : ℕ) → at ≤ view.scn → defaults_at history view.table at ≡ take (columns_at history view.table at) view.defaults

-- an extent was pinned for a view at this history: a unit was lent that serves the view, or none, and this was fetched
pub record IsPinned (history : History) (view : View) (extent : ℕ) (unit : Option Content) (fetched : List (ℕ × Option Row))
    : Type 0 where
  pub per : view.per ≡ per_at history view.table
  pub defaults : HasDefaults history view
  pub serves : ForSome unit (Serves history view extent)
  pub is : fetched ≡ fetched_in history view extent unit

-- the rows of an extent that a view sees, each with its number
abbrev pub seen_in : History → View → ℕ → List Numbered
seen_in history view extent = present (seen_by history view) (extent * view.per) (rows_in view extent)

-- the rows that it sees in its first extents, so many of them
abbrev pub seen_to : History → View → ℕ → List Numbered
seen_to history view extents = present (seen_by history view) 0 (min (extents * view.per) view.rows)

-- the rows that it sees in all
abbrev pub seen_all : History → View → List Numbered
seen_all history view = present (seen_by history view) 0 view.rows
