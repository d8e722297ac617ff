-- What an opening of a cursor sees, from then on.
use Rattle.std.specs.Prelude.{ℕ, List, [], length, Option, Some, None}
use Rattle.std.specs.Option.{option_map}
use Rattle.im_values.specs.declared.content.Content.{Content as Value}
use Rattle.im_values.specs.declared.schema.Column.{Column}
use Rattle.im_values.specs.Widened.{widened}
use Rattle.im_history.specs.declared.change.Change.{Change}
use Rattle.im_history.specs.declared.look.Look.{Look}
use Rattle.im_history.specs.declared.look.TableInfo.{TableInfo}
use Rattle.im_history.specs.declared.view.View.{View}
use Rattle.im_history.specs.Commits.{scn}
use Rattle.im_history.specs.Grid.{Grid, default_grid, per_extent, extents_for}
use Rattle.im_history.specs.History.{History}
use Rattle.im_history.specs.Rows.{Row, seen, snapshot, own_changes}
use Rattle.im_history.specs.Tables.{tables, table_at, given}
use Rattle.im_history.specs.Transactions.{begun, mode}

-- how the row numbers of a table are cut
abbrev pub grid_of : Option TableInfo → Grid
grid_of None = default_grid
grid_of (Some table) = table.shape

-- row numbers in an extent of a table
abbrev pub per_at : History → ℕ → ℕ
per_at history table = per_extent (grid_of (table_at history table))

-- the columns of a table; where there is none, none
abbrev pub schema_of : Option TableInfo → List Column
schema_of None = []
schema_of (Some table) = table.schema

-- their defaults: what a row that was written before a column was there has in it
abbrev pub defaults_of : Option TableInfo → List Value
defaults_of None = []
defaults_of (Some table) = table.defaults

-- the SCN that an opening by this session reads at: the one that it asks for, else the session's snapshot
abbrev pub reads_at : History → ℕ → Option ℕ → ℕ
reads_at history who None = snapshot history who
reads_at history who (Some asked) = asked

-- the session's pending changes to a table that an opening shows: none of them where it asks for an SCN
abbrev pub shows_own : History → ℕ → ℕ → Option ℕ → List Change
shows_own history who table None = own_changes history who table
shows_own history who table (Some asked) = []

-- the view of a table that an opening by this session has after this history: it reads at the session's snapshot, changed by
-- the changes that the session has pending, or at the SCN that it asks for, and then without them. It knows the row numbers given
-- so far, and the columns that the table has with their defaults
abbrev pub view_at : History → ℕ → ℕ → Option ℕ → View
view_at history who table asked = record {
  place = length history;
  table = table;
  asked = asked;
  scn = reads_at history who asked;
  rows = given history table;
  per = per_at history table;
  extents = extents_for (given history table) (per_at history table);
  columns = schema_of (table_at history table);
  defaults = defaults_of (table_at history table);
  own = shows_own history who table asked;
}

-- what this session finds when it looks after this history
abbrev pub look_at : History → ℕ → Look
look_at history who = record {
  place = length history;
  scn = scn history;
  begun = begun history who;
  mode = mode history who;
  tables = tables history;
}

-- a row as a view shows it: where it was written before the last of the view's columns were there, it has their defaults
abbrev pub shown : View → Option Row → Option Row
shown view row = option_map (widened view.defaults) row

-- the row that a view sees at a row number
abbrev pub seen_by : History → View → ℕ → Option Row
seen_by history view rid = shown view (seen history view.table view.scn view.own rid)
