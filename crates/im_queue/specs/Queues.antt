-- What the choice of the next build reads, where it is that of a history.
use Rattle.std.specs.Prelude.{◌≡◌, ℕ, ◌+◌, ◌&&◌, List, slice_index_or, is_none}
use Rattle.im_history.specs.declared.look.TableInfo.{TableInfo}
use Rattle.im_history.specs.Extents.{AreOfExtents}
use Rattle.im_history.specs.History.{History}
use Rattle.im_history.specs.Queue as Queue
use Rattle.im_history.specs.Tables as Tables
use Rattle.im_history.specs.Units.{Content, unit}
use Rattle.im_directory.specs.Lists as Lists
use Rattle.im_directory.specs.Slots.{Kept, told_at}
use Rattle.im_queue.specs.declared.demand.Demand.{Demand}
use Rattle.im_queue.specs.Demand.{IsDemand}

module _ {U : Type 0} (content : U → Content) where
  -- what is kept of each extent tells whether it has no unit and a build of it may begin, and whether its unit is to be built anew,
  -- as this history does; and only extents of tables have units
  pub record ListsHistory (history : History) (kept : Kept U) : Type 0 where
    pub extents : AreOfExtents history
    pub empty : (table extent : ℕ) →
        Lists.is_empty (told_at kept table extent)
        ≡ (Queue.is_free history (record { table = table; number = extent }) && is_none (unit history table extent))
    pub due : (table extent : ℕ) →
        Lists.is_due content (told_at kept table extent) ≡ Queue.is_due history (record { table = table; number = extent })
    pub stale : (table extent : ℕ) →
        Lists.is_stale content (told_at kept table extent) ≡ Queue.is_stale history (record { table = table; number = extent })

  -- these are the tables of this history, with how many row numbers of each were given, what is kept of its extents, and what its
  -- entries come to
  pub record IsQueueOf (history : History) (tables : List TableInfo) (given : List ℕ) (kept : Kept U) (demand : Demand) : Type 0 where
    pub made : tables ≡ Tables.tables history
    pub gave : (place : ℕ) → slice_index_or given place 0 ≡ Tables.given history (place + 1)
    pub lists : ListsHistory history kept
    pub demands : IsDemand history demand
