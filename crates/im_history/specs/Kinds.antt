-- The kinds of entry, and what an entry of each may change of what a history tells.
use Rattle.std.specs.Prelude.{Bool, true, false, is_none}
use Rattle.im_history.specs.declared.entry.What.{What}
use Rattle.im_history.specs.declared.entry.What.TheVariants.{Create, Add, Memory, Begin, Open, Shut, Write, Commit, Rollback, Build, Switch, Cancel, Trickle, Evict, Leave, Purge}

-- what an entry may change: where a field is false it changes nothing of that
pub record Scope : Type 0 where
  -- the SCN
  pub clock : Bool
  -- the rows that are committed
  pub rows : Bool
  -- the tables
  pub tables : Bool
  -- the session's transaction: its changes, its beginning and its mode
  pub transaction : Bool
  -- the row numbers that are given, and the weight of all changes
  pub changes : Bool
  -- the session's cursors
  pub cursors : Bool
  -- which builds there are
  pub builds : Bool
  -- which extents are in the column store: it takes some out
  pub takes_out : Bool
  -- the credits that are given
  pub credits : Bool
  -- who left
  pub leaves : Bool
  -- which snapshots may be asked for
  pub horizon : Bool

-- of an entry that changes nothing
abbrev pub no_scope : Scope
no_scope = record {
  clock = false;
  rows = false;
  tables = false;
  transaction = false;
  changes = false;
  cursors = false;
  builds = false;
  takes_out = false;
  credits = false;
  leaves = false;
  horizon = false;
}

-- what an entry of each kind may change
abbrev pub scope_of : What → Scope
scope_of (Create name schema grid) = record no_scope { clock = true; tables = true }
scope_of (Add table column default) = record no_scope { clock = true; tables = true }
scope_of (Memory table priority) = record no_scope { tables = true; takes_out = is_none priority }
scope_of (Begin mode) = record no_scope { transaction = true }
scope_of (Open cursor table asked) = record no_scope { cursors = true }
scope_of (Shut cursor) = record no_scope { cursors = true }
scope_of (Write changes) = record no_scope { transaction = true; changes = true }
scope_of Commit = record no_scope { clock = true; rows = true; transaction = true }
scope_of Rollback = record no_scope { transaction = true }
scope_of (Build id table extent trickle) = record no_scope { builds = true }
scope_of (Switch id) = record no_scope { builds = true }
scope_of (Cancel id full) = record no_scope { builds = true }
scope_of (Trickle count) = record no_scope { credits = true }
scope_of (Evict table extent) = record no_scope { takes_out = true }
scope_of Leave = record no_scope { leaves = true }
scope_of Purge = record no_scope { horizon = true }
