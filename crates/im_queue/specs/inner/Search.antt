-- The build that comes next, looked for by rank, by table and by extent.
use Rattle.std.specs.Prelude.{ℕ, Bool, true, false, List, [], ◌∷◌, length, filter, Option, None, if◌then◌else◌}
use Rattle.std.specs.List.{range_with_len}
use Rattle.std.specs.Option.{option_map, option_or}
use Rattle.im_history.specs.declared.task.Choice.{Choice}
use Rattle.im_history.specs.Extents.{Extent, table_extents}
use Rattle.im_history.specs.History.{History}
use Rattle.im_history.specs.Queue.{choice_of, first_extent, has_rank, is_due, is_empty, is_stale, priority_of}
use Rattle.im_history.specs.Tables.{table_at, tables}
use Rattle.im_history.specs.Units.{Content}
use Rattle.im_queue.specs.declared.reason.Reason.{Reason}
use Rattle.im_queue.specs.declared.reason.Reason.TheVariants.{Empty, Due, Stale}
use Rattle.im_queue.specs.declared.sources.Sources.{Sources}
use Rattle.im_queue.specs.Queues.{IsQueueOf}

-- a build for this reason is paid by a credit
abbrev pub is_trickle : Reason → Bool
is_trickle Empty = false
is_trickle Due = false
is_trickle Stale = true

-- the extent may be built for this reason
abbrev pub is_listed : Reason → History → Extent → Bool
is_listed Empty = is_empty
is_listed Due = is_due
is_listed Stale = is_stale

-- the first that is found at any of these numbers
abbrev pub first_some : {X : Type 0} → (ℕ → Option X) → List ℕ → Option X
first_some found [] = None
first_some found (n ∷ ns) = option_or (found n) (first_some found ns)

-- the first extent of a table
abbrev pub first_in : Reason → History → ℕ → Option Extent
first_in reason history table = first_extent (filter (is_listed reason history) (table_extents history table))

-- it is built, if its table has this rank
abbrev pub ranked_in : Reason → History → ℕ → ℕ → Option Choice
ranked_in reason history rank table =
    if has_rank rank (priority_of (table_at history table)) then option_map (choice_of (is_trickle reason)) (first_in reason history table) else None

-- the first extent of all tables of this rank is built
abbrev pub first_of_rank : Reason → History → ℕ → Option Choice
first_of_rank reason history rank = first_some (ranked_in reason history rank) (range_with_len 1 (length (tables history)))

-- the first extent of all tables, by rank, is built
abbrev pub first_of_all : Reason → History → Option Choice
first_of_all reason history = first_some (first_of_rank reason history) (range_with_len 0 5)

-- an extent of a table
abbrev pub extent_at : ℕ → ℕ → Extent
extent_at table number = record { table = table; number = number }

module _ {U : Type 0} (content : U → Content) where
  -- what is read is that of this history
  abbrev pub AreOf : History → Sources U → Type 0
  AreOf history sources = IsQueueOf content history sources.tables.now sources.given.now sources.directory.now sources.demand.now
