-- What is read of a queue's tables and extents is what its history says.
use Rattle.std.proofs.Common.{◌≡◌, ℕ, ◌+◌, ◌<◌, ◌≤◌, ◌&&◌, Bool, true, false, List, get_or, Option, Some, None, add-one, slice_get, refl, sym, ap, ◌∙◌, arith}
use Rattle.std.specs.Prelude.{IfSome}
use Rattle.std.specs.Int.{div_ceil}
use Rattle.std.specs.Option.{option_map}
use Rattle.std.proofs.lemmas.Bool.{false≢true}
use Rattle.im_values.specs.declared.limits.TheConstants.{MOST_TABLES}
use Rattle.im_history.specs.declared.look.TableInfo.{TableInfo}
use Rattle.im_history.specs.Extents.{AreOfExtents, extents_of}
use Rattle.im_history.specs.Grid.{extents_for, per_extent}
use Rattle.im_history.specs.History.{History}
use Rattle.im_history.specs.Queue as Queue
use Rattle.im_history.specs.Tables.{given, table_among, table_at, tables}
use Rattle.im_history.specs.Units.{Content, unit}
use Rattle.im_history.specs.Views.{grid_of}
use Rattle.im_directory.specs.Lists as Lists
use Rattle.im_directory.specs.Lists.{IsFirst, NonePasses}
use Rattle.im_directory.specs.Slots.{Kept, Told, told_at}
use Rattle.im_queue.specs.declared.demand.Demand.{Demand}
use Rattle.im_queue.specs.declared.reason.Reason.{Reason}
use Rattle.im_queue.specs.declared.reason.Reason.TheVariants.{Empty, Due, Stale}
use Rattle.im_queue.specs.Queues.{IsQueueOf, ListsHistory}
use Rattle.im_queue.specs.inner.Search.{extent_at, first_in, is_listed}
use Rattle.im_queue.proofs.SearchLemmas.{div_ceil-is, first_in-found, first_in-none}

-- ---- tables

among : (ts : List TableInfo) (place : ℕ) → table_among ts (place + 1) ≡ slice_get ts place
among ts place = rw (add-one place) refl

pub table-is : {U : Type 0} {content : U → Content} {h : History} {ts : List TableInfo} {gave : List ℕ} {kept : Kept U} {demand : Demand}
    → IsQueueOf content h ts gave kept demand → (place : ℕ) (info : TableInfo) → slice_get ts place ≡ Some info → table_at h (place + 1) ≡ Some info
table-is {h} {ts} is place info there = among (tables h) place ∙ (ap (λ (made : List TableInfo). slice_get made place) (sym is.made) ∙ there)

pub extents-are : {U : Type 0} {content : U → Content} {h : History} {ts : List TableInfo} {gave : List ℕ} {kept : Kept U} {demand : Demand}
    → IsQueueOf content h ts gave kept demand → (place : ℕ) (info : TableInfo) → slice_get ts place ≡ Some info → 1 ≤ per_extent info.shape
    → div_ceil (get_or gave place 0) (per_extent info.shape) ≡ extents_of h (place + 1)
extents-are {h} {gave} is place info there some =
    div_ceil-is (get_or gave place 0) (per_extent info.shape) some
    ∙ (ap (λ (rows : ℕ). extents_for rows (per_extent info.shape)) (is.gave place)
    ∙ ap (λ (found : Option TableInfo). extents_for (given h (place + 1)) (per_extent (grid_of found))) (sym (table-is is place info there)))

-- ---- the first extent of a table

-- what is found among what is kept is the first extent of the table
found-is : {U : Type 0} (test : Told U → Bool) (reason : Reason) (h : History) (kept : Kept U) (table : ℕ) (found : Option ℕ)
    → ((extent : ℕ) → test (told_at kept table extent) ≡ is_listed reason h (extent_at table extent))
    → ((extent : ℕ) → is_listed reason h (extent_at table extent) ≡ true → extent < extents_of h table)
    → IfSome found (IsFirst test kept table) → (found ≡ None → NonePasses test kept table)
    → option_map (extent_at table) found ≡ first_in reason h table
found-is test reason h kept table None same within first none =
    sym (first_in-none reason h table (λ n high. sym (same n) ∙ (none refl).each n))
found-is test reason h kept table (Some e) same within first none =
    sym (first_in-found reason h table e (within e (sym (same e) ∙ first.is)) (sym (same e) ∙ first.is)
    (λ n high. sym (same n) ∙ first.before n high))

-- a unit that passes a test is of an extent
has_unit : (h : History) (test : ℕ → ℕ → Bool) (table extent : ℕ) (found : Option ℕ) → AreOfExtents h → unit h table extent ≡ found
    → Queue.is_unit test h (extent_at table extent) found ≡ true → extent < extents_of h table
has_unit h test table extent None known same passes = absurd (false≢true passes)
has_unit h test table extent (Some unit_scn) known same passes = (known.each table extent unit_scn same).within

second : (a b : Bool) → (a && b) ≡ true → b ≡ true
second true b is = is
second false b is = absurd (false≢true is)

pub due-is : {U : Type 0} {content : U → Content} {h : History} {kept : Kept U} → ListsHistory content h kept → (table : ℕ) (found : Option ℕ)
    → IfSome found (IsFirst (Lists.is_due content) kept table) → (found ≡ None → NonePasses (Lists.is_due content) kept table)
    → option_map (extent_at table) found ≡ first_in Due h table
due-is {content} {h} {kept} lists table found first none =
    found-is (Lists.is_due content) Due h kept table found (lists.due table)
    (λ extent passes. has_unit h Queue.is_past_threshold table extent (unit h table extent) lists.extents refl
    (second (Queue.is_free h (extent_at table extent)) (Queue.is_unit Queue.is_past_threshold h (extent_at table extent) (unit h table extent)) passes))
    first none

pub stale-is : {U : Type 0} {content : U → Content} {h : History} {kept : Kept U} → ListsHistory content h kept → (table : ℕ) (found : Option ℕ)
    → IfSome found (IsFirst (Lists.is_stale content) kept table) → (found ≡ None → NonePasses (Lists.is_stale content) kept table)
    → option_map (extent_at table) found ≡ first_in Stale h table
stale-is {content} {h} {kept} lists table found first none =
    found-is (Lists.is_stale content) Stale h kept table found (lists.stale table)
    (λ extent passes. has_unit h Queue.has_stale table extent (unit h table extent) lists.extents refl
    (second (Queue.is_free h (extent_at table extent)) (Queue.is_unit Queue.has_stale h (extent_at table extent) (unit h table extent)) passes))
    first none

-- ---- extents without a unit

-- whether a table's extents are populated
abbrev wants : History → ℕ → Bool
wants h table = Queue.is_wanted (Queue.priority_of (table_at h table)) (Queue.is_opened h table)

empty_false : (wanted free : Bool) → free ≡ false → (wanted && free) ≡ false
empty_false true free is = is
empty_false false free is = refl

-- they are not
pub unwanted-is : (h : History) (table : ℕ) → wants h table ≡ false → None ≡ first_in Empty h table
unwanted-is h table not = sym (first_in-none Empty h table (λ n high. rw not refl))

-- they are, and the first of them that has no unit is within the table
pub empty-is : {U : Type 0} {content : U → Content} {h : History} {kept : Kept U} → ListsHistory content h kept → (table extent : ℕ)
    → wants h table ≡ true → IsFirst Lists.is_empty kept table extent → extent < extents_of h table
    → Some (extent_at table extent) ≡ first_in Empty h table
empty-is {h} lists table extent wanted first within =
    sym (first_in-found Empty h table extent within (rw wanted (sym (lists.empty table extent) ∙ first.is))
    (λ n high. empty_false (wants h table) _ (sym (lists.empty table n) ∙ first.before n high)))

-- they are, and the first of them that has no unit is behind the table's last
pub full-is : {U : Type 0} {content : U → Content} {h : History} {kept : Kept U} → ListsHistory content h kept → (table extent : ℕ)
    → IsFirst Lists.is_empty kept table extent → extents_of h table ≤ extent → None ≡ first_in Empty h table
full-is {h} lists table extent first behind =
    sym (first_in-none Empty h table
    (λ n high. empty_false (wants h table) _ (sym (lists.empty table n) ∙ first.before n (omega (arith, behind, high)))))

-- what is known of the table and of its openings tells whether they are
pub wants-is : {U : Type 0} {content : U → Content} {h : History} {ts : List TableInfo} {gave : List ℕ} {kept : Kept U} {demand : Demand}
    → IsQueueOf content h ts gave kept demand → (place : ℕ) (info : TableInfo) → slice_get ts place ≡ Some info → place < MOST_TABLES
    → (wanted opened : Bool) → wanted ≡ Queue.is_wanted info.memory opened → opened ≡ get_or demand.opened (place + 1) false
    → wants h (place + 1) ≡ wanted
wants-is {h} {demand} is place info there few wanted opened tells reads =
    sym (tells
    ∙ (ap (Queue.is_wanted info.memory) (reads ∙ is.demands.opened (place + 1) (omega (arith, few)))
    ∙ ap (λ (found : Option TableInfo). Queue.is_wanted (Queue.priority_of found) (Queue.is_opened h (place + 1))) (sym (table-is is place info there))))
