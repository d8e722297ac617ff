-- What a store keeps of its history's tables, beginnings and views.
use Rattle.std.specs.Prelude.{◌≡◌, ℕ, ◌+◌, ◌*◌, ◌≤◌, List, length, slice_index_or, All, Option, Some, None}
use Rattle.im_values.specs.declared.limits.TheConstants.{CHANGE_WEIGHT, MOST_TABLES, NUMBERS}
use Rattle.im_history.specs.declared.change.Change.{Change}
use Rattle.im_history.specs.declared.look.TableInfo.{TableInfo}
use Rattle.im_history.specs.declared.view.View.{View}
use Rattle.im_history.specs.Commits.{scn}
use Rattle.im_history.specs.Cursors.{opened}
use Rattle.im_history.specs.Grid.{extents_for}
use Rattle.im_history.specs.History.{History}
use Rattle.im_history.specs.Rows.{scn_at}
use Rattle.im_history.specs.Tables.{tables, given, given_by}
use Rattle.im_history.specs.Transactions.{begun}
use Rattle.im_history.specs.Weights.{weight, changes_weight}

-- the tables are those of the history, with the row numbers given of each, and what was written weighs so much. Each
-- row number was given by a change, which weighs something, so they are few
pub record Counts (history : History) (catalog : List TableInfo) (counts : List ℕ) (weighed : ℕ) : Type 0 where
  pub tables : catalog ≡ tables history
  pub few : length catalog ≤ MOST_TABLES
  pub long : length counts ≡ length catalog
  pub gives : (place : ℕ) → slice_index_or counts place 0 ≡ given history (place + 1)
  pub weighs : weighed ≡ weight history
  pub light : (table : ℕ) → given history table * CHANGE_WEIGHT ≤ weight history

-- a session's open transaction began at this SCN
pub record Began (history : History) (beginnings : List ℕ) : Type 0 where
  pub numbers : length beginnings ≡ NUMBERS
  pub earlier : (who place : ℕ) → begun history who ≡ Some place → place ≤ length history
  pub at : (who place : ℕ) → begun history who ≡ Some place → slice_index_or beginnings who 0 ≡ scn_at history place

-- the SCN that a session's transaction begins at: where it began, or now
abbrev pub beginning_by : History → Option ℕ → ℕ
beginning_by history None = scn history
beginning_by history (Some place) = scn_at history place

abbrev pub beginning_at : History → ℕ → ℕ
beginning_at history who = beginning_by history (begun history who)

-- a view has no row number that was not given, and its extents are those that its row numbers fill
pub record IsView (history : History) (view : View) : Type 0 where
  pub within : view.rows ≤ given history view.table
  pub cut : view.extents ≡ extents_for view.rows view.per

-- each open cursor has such a view
pub record Views (history : History) : Type 0 where
  pub each : (who : ℕ) → All (λ opened. IsView history opened.view) (opened history who)

-- writing these changes to a table leaves so many row numbers given of it
pub record Gives (history : History) (table : ℕ) (changes : List Change) (count : ℕ) : Type 0 where
  pub same : All (λ change. change.table ≡ table) changes
  pub is : count ≡ given_by table (given history table) changes
  pub light : count * CHANGE_WEIGHT ≤ weight history + changes_weight changes
