-- What is kept of a history for the choice of its next build, beside tables and units.
use Rattle.std.specs.Prelude.{◌≡◌, ℕ, ◌+◌, ◌-◌, ◌*◌, ◌^◌, ◌<◌, ◌≤◌, true, false, length, set, slice_index_or, if◌then◌else◌}
use Rattle.im_values.specs.declared.limits.TheConstants.{MOST_TABLES}
use Rattle.im_history.specs.declared.entry.What.{What}
use Rattle.im_history.specs.declared.entry.What.TheVariants.{Memory, Open, Build, Trickle, Leave}
use Rattle.im_history.specs.History.{History}
use Rattle.im_history.specs.Leaves.{leaves}
use Rattle.im_history.specs.Queue.{credits, is_opened, spent, trickled, trickled_after}
use Rattle.im_queue.specs.declared.demand.Demand.{Demand}

-- what is kept after one more entry
abbrev pub demand_after : What → Demand → Demand
demand_after (Memory table priority) demand = record demand { opened = set demand.opened table false }
demand_after (Open cursor table asked) demand = record demand { opened = set demand.opened table true }
demand_after (Build id table extent trickle) demand = if trickle then record demand { credits = demand.credits - 1 } else demand
demand_after (Trickle count) demand = record demand { credits = demand.credits + count }
demand_after Leave demand = record demand { left = demand.left + 1 }
demand_after what demand = demand

-- it is what this history comes to: the credits that are left, how many sessions left, and which tables were opened, as far as
-- tables are numbered
pub record IsDemand (history : History) (demand : Demand) : Type 0 where
  pub credits : demand.credits + spent history ≡ trickled history
  pub few : demand.credits ≤ length history * 2 ^ 32
  pub left : demand.left ≡ leaves history
  pub sized : length demand.opened ≡ MOST_TABLES + 1
  pub opened : (table : ℕ) → table ≤ MOST_TABLES → slice_index_or demand.opened table false ≡ is_opened history table

-- the entry gives no more credits than a number of 32 bits can say, as each entry that is recorded
pub record IsSmall (what : What) : Type 0 where
  pub few : trickled_after 0 what < 2 ^ 32

-- a build that a credit is spent on begins only where one is left; other entries need none
abbrev pub IsPaid : History → What → Type 0
IsPaid history (Build id table extent trickle) = trickle ≡ true → 1 ≤ credits history
IsPaid history what = Unit {0}

-- one more entry can be counted
pub record HasDemandRoom (demand : Demand) : Type 0 where
  pub credits : demand.credits + 2 ^ 32 < 2 ^ 128
  pub left : demand.left + 1 < 2 ^ 64
