-- How what a store keeps agrees with its history.
use Rattle.std.specs.Prelude.{ℕ, ◌+◌, ◌≤◌, List, count_by, is_some}
use Rattle.im_history.specs.declared.limits.Limits.{Limits}
use Rattle.im_history.specs.declared.look.TableInfo.{TableInfo}
use Rattle.im_history.specs.Legal.{AreSmall, IsLegal}
use Rattle.im_history.specs.Stored.{Stored}
use Rattle.im_history.specs.Units.{Content}
use Rattle.im_history.specs.Weights.{weight}
use Rattle.im_blocks.specs.Chains.{AllVersions}
use Rattle.im_blocks.specs.Kept.{IsKept}
use Rattle.im_directory.specs.Agrees.{Agrees as IsOf}
use Rattle.im_directory.specs.Slots.{Kept}
use Rattle.im_txn.specs.Agrees.{Agrees}
use Rattle.im_txn.specs.Standing.{Standing}
use Rattle.im_core.specs.inner.Kept.{Counts, Began, Views}

-- what a store keeps beside its limits and its history, so that no call reads the history again: the tables, how many row
-- numbers of each were given, what all changes weigh, the SCNs at which open transactions began, the versions of the rows,
-- what sessions have going on, and the column units with the builds
pub record Caches (U : Type 0) : Type 0 where
  pub catalog : List TableInfo
  pub counts : List ℕ
  pub weighed : ℕ
  pub beginnings : List ℕ
  pub blocks : AllVersions
  pub standing : Standing
  pub kept : Kept U

-- how many entries will be needed without fail: a Rollback for each open transaction, a Shut for each open cursor, and a
-- Switch or a Cancel for each held build
abbrev pub owed : {U : Type 0} → Standing → Kept U → ℕ
owed standing kept = standing.owed + count_by is_some kept.builds

-- all that is kept is read from the history, which is legal; and there is room for the entries that are never refused
pub record Holds {U : Type 0} (content : U → Content) (limits : Limits) (history : Stored) (caches : Caches U) : Type 0 where
  pub small : AreSmall limits
  pub legal : IsLegal limits history.entries
  pub within : weight history.entries ≤ limits.store
  pub tables : Counts history.entries caches.catalog caches.counts caches.weighed
  pub began : Began history.entries caches.beginnings
  pub views : Views history.entries
  pub rows : IsKept history.entries caches.blocks
  pub sessions : Agrees history.entries caches.standing
  pub units : IsOf content history.entries caches.kept
  pub room : owed caches.standing caches.kept ≤ history.spare
