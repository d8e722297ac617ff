-- Which build comes next.
use Rattle.std.specs.Prelude.{ℕ, ◌+◌, ◌-◌, ◌*◌, ◌==◌, ◌&&◌, ◌||◌, Bool, true, false, not, max, nat_le, nat_lt, List, [], ◌∷◌, length, filter, flat_map, Option, Some, None, is_none, if◌then◌else◌}
use Rattle.std.specs.List.{range_with_len}
use Rattle.std.specs.Option.{option_map, option_or}
use Rattle.im_values.specs.declared.priority.Priority.{Priority}
use Rattle.im_values.specs.declared.priority.Priority.TheVariants as priority
use Rattle.im_history.specs.declared.entry.What.{What}
use Rattle.im_history.specs.declared.entry.What.TheVariants.{Memory, Open, Build, Cancel, Trickle, Evict}
use Rattle.im_history.specs.declared.look.TableInfo.{TableInfo}
use Rattle.im_history.specs.declared.task.Choice.{Choice}
use Rattle.im_history.specs.declared.task.Held.{Held}
use Rattle.im_history.specs.declared.task.Task.{Task}
use Rattle.im_history.specs.Commits.{scn}
use Rattle.im_history.specs.Contents.{count_present}
use Rattle.im_history.specs.Extents.{Extent, all_extents}
use Rattle.im_history.specs.History.{History, replay}
use Rattle.im_history.specs.Tables.{table_at}
use Rattle.im_history.specs.Units.{builds, content_at, held_at, is_on, living, stale, task_at, unit}

-- ---- what holds an extent back

-- the build is held, and is of this extent
abbrev pub is_build_of : ℕ → ℕ → Option Held → Bool
is_build_of table extent None = false
is_build_of table extent (Some held) = is_on table extent held

-- whether an extent waits after one more entry
abbrev pub waits_after : ℕ → ℕ → History → Bool → What → Bool
waits_after table extent before so_far (Memory other None) = false
waits_after table extent before so_far (Cancel id full) = if full then is_build_of table extent (held_at before id) || so_far else so_far
waits_after table extent before so_far (Evict other place) = false
waits_after table extent before so_far what = so_far

-- the extent waits: a build of it was cancelled because its unit did not fit into the area, and since then no extent and no
-- table was taken out of the column store
unfoldable pub waits : History → ℕ → ℕ → Bool
waits history table extent = replay (λ before so_far entry. waits_after table extent before so_far entry.what) false history

-- a build of the extent may begin: it has no living build, and does not wait
abbrev pub is_free : History → Extent → Bool
is_free history extent = is_none (living history extent.table extent.number) && not (waits history extent.table extent.number)

-- ---- the priorities of tables

-- how urgent a priority is: the least rank is the most urgent
abbrev pub rank_of : Priority → ℕ
rank_of priority.Critical = 0
rank_of priority.High = 1
rank_of priority.Medium = 2
rank_of priority.Low = 3
rank_of priority.None = 4

-- the priority of a table in the column store
abbrev pub priority_of : Option TableInfo → Option Priority
priority_of None = None
priority_of (Some table) = table.memory

-- it has this rank
abbrev pub has_rank : ℕ → Option Priority → Bool
has_rank rank None = false
has_rank rank (Some priority) = rank_of priority == rank

-- the extents of tables in the column store, the most urgent first; those of one rank stay in order
abbrev pub by_priority : History → List Extent → List Extent
by_priority history extents =
    flat_map (λ rank. filter (λ extent. has_rank rank (priority_of (table_at history extent.table))) extents) (range_with_len 0 5)

-- ---- extents without a unit

-- whether a table was opened, after one more entry
abbrev pub table_opened_after : ℕ → Bool → What → Bool
table_opened_after table so_far (Memory other priority) = if other == table then false else so_far
table_opened_after table so_far (Open cursor other asked) = if other == table then true else so_far
table_opened_after table so_far what = so_far

-- a cursor was opened on the table after the last entry that let it join the column store, change its priority or leave
unfoldable pub is_opened : History → ℕ → Bool
is_opened history table = replay (λ before so_far entry. table_opened_after table so_far entry.what) false history

-- extents of a table with this priority are populated: with the lowest one only once the table was opened
abbrev pub is_wanted : Option Priority → Bool → Bool
is_wanted None opened = false
is_wanted (Some priority.Critical) opened = true
is_wanted (Some priority.High) opened = true
is_wanted (Some priority.Medium) opened = true
is_wanted (Some priority.Low) opened = true
is_wanted (Some priority.None) opened = opened

-- the extent is to be populated: it has no unit
abbrev pub is_empty : History → Extent → Bool
is_empty history extent =
    is_wanted (priority_of (table_at history extent.table)) (is_opened history extent.table)
    && (is_free history extent && is_none (unit history extent.table extent.number))

-- ---- extents with stale units

-- how many rows of an extent commits touched since its unit's SCN
abbrev pub stale_count : History → Extent → ℕ → ℕ
stale_count history extent unit_scn = length (stale history extent.table extent.number unit_scn (scn history))

-- how many rows its unit has
abbrev pub unit_count : History → Extent → ℕ → ℕ
unit_count history extent unit_scn = count_present (content_at history extent.table extent.number unit_scn).rows

-- of so many rows so many are stale that the unit is to be built anew: a fifth of them, and of a unit without rows one
abbrev pub is_past_threshold : ℕ → ℕ → Bool
is_past_threshold rows stale = nat_le (20 * max 1 rows) (stale * 100)

-- a unit has a stale row
abbrev pub has_stale : ℕ → ℕ → Bool
has_stale rows stale = nat_lt 0 stale

-- an extent has a unit that meets this test of how many rows it has and how many are stale
abbrev pub is_unit : (ℕ → ℕ → Bool) → History → Extent → Option ℕ → Bool
is_unit test history extent None = false
is_unit test history extent (Some unit_scn) = test (unit_count history extent unit_scn) (stale_count history extent unit_scn)

-- its unit is past the threshold
abbrev pub is_due : History → Extent → Bool
is_due history extent = is_free history extent && is_unit is_past_threshold history extent (unit history extent.table extent.number)

-- its unit has a stale row
abbrev pub is_stale : History → Extent → Bool
is_stale history extent = is_free history extent && is_unit has_stale history extent (unit history extent.table extent.number)

-- ---- credits

-- the credits given, with those of one more entry
abbrev pub trickled_after : ℕ → What → ℕ
trickled_after so_far (Trickle count) = so_far + count
trickled_after so_far what = so_far

-- the credits that were ever given
unfoldable pub trickled : History → ℕ
trickled history = replay (λ before so_far entry. trickled_after so_far entry.what) 0 history

-- the builds that a credit was spent on, with one more entry
abbrev pub spent_after : ℕ → What → ℕ
spent_after so_far (Build id other place trickle) = if trickle then so_far + 1 else so_far
spent_after so_far what = so_far

-- how many builds a credit was spent on
unfoldable pub spent : History → ℕ
spent history = replay (λ before so_far entry. spent_after so_far entry.what) 0 history

-- the credits that are left
abbrev pub credits : History → ℕ
credits history = trickled history - spent history

-- ---- the next build

-- the extents that are to be populated, those whose units are past the threshold, and those that a credit may be spent on
abbrev pub populations : History → List Extent
populations history = filter (is_empty history) (all_extents history)

abbrev pub renewals : History → List Extent
renewals history = filter (is_due history) (all_extents history)

abbrev pub trickles : History → List Extent
trickles history = if nat_lt 0 (credits history) then filter (is_stale history) (all_extents history) else []

-- the first of a list of extents
abbrev pub first_extent : List Extent → Option Extent
first_extent [] = None
first_extent (extent ∷ extents) = Some extent

-- an extent is built, by a credit or not
abbrev pub choice_of : Bool → Extent → Choice
choice_of trickle extent = record { table = extent.table; extent = extent.number; trickle = trickle }

-- the most urgent of these extents is built
abbrev pub choose : History → Bool → List Extent → Option Choice
choose history trickle extents = option_map (choice_of trickle) (first_extent (by_priority history extents))

-- the build that comes next: the most urgent of the first of the three lists that is not empty
unfoldable pub next : History → Option Choice
next history =
    option_or (choose history false (populations history)) (option_or (choose history false (renewals history)) (choose history true (trickles history)))

-- the build of a choice, which begins after this history
abbrev pub task_of : History → Choice → Task
task_of history choice = task_at history (builds history + 1) choice.table choice.extent choice.trickle

-- the entry with which it begins
abbrev pub build_of : History → Choice → What
build_of history choice = Build (builds history + 1) choice.table choice.extent choice.trickle
