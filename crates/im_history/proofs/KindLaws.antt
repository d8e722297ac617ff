-- An entry changes nothing of what its kind does not change.
use Rattle.std.proofs.Common.{◌≡◌, ℕ, Bool, false, List, [], Option, None, refl, true≢false}
use Rattle.im_history.specs.declared.change.Change.{Change}
use Rattle.im_history.specs.declared.entry.Mode.{Mode}
use Rattle.im_history.specs.declared.entry.What.{What}
use Rattle.im_history.specs.declared.entry.What.TheVariants.{Create, Add, Memory, Begin, Open, Shut, Write, Commit, Rollback, Build, Cancel, Trickle, Evict}
use Rattle.im_history.specs.declared.look.TableInfo.{TableInfo}
use Rattle.im_history.specs.Commits.{committed_by}
use Rattle.im_history.specs.Cursors.{Opened, opened_after}
use Rattle.im_history.specs.History.{History}
use Rattle.im_history.specs.Kinds.{scope_of}
use Rattle.im_history.specs.Queue.{spent_after, trickled_after, waits_after}
use Rattle.im_history.specs.Tables.{created, given_after}
use Rattle.im_history.specs.Touched.{touched_after}
use Rattle.im_history.specs.Transactions.{begun_after, mode_after, pending_after}
use Rattle.im_history.specs.Units.{builds_after, drops, touched_between_after}
use Rattle.im_history.specs.Weights.{weight_after}

-- the SCN
pub commits-nothing : (before : History) (who : ℕ) (what : What) → (scope_of what).clock ≡ false → committed_by before who what ≡ []
commits-nothing before who (Create name schema grid) none = absurd (true≢false none)
commits-nothing before who (Add table column default) none = absurd (true≢false none)
commits-nothing before who Commit none = absurd (true≢false none)
commits-nothing before who _ none = refl

-- the rows that are committed
pub touches-nothing : (table rid : ℕ) (before : History) (so_far who : ℕ) (what : What) → (scope_of what).rows ≡ false
    → touched_after table rid before so_far who what ≡ so_far
touches-nothing table rid before so_far who Commit none = absurd (true≢false none)
touches-nothing table rid before so_far who _ none = refl

pub touches-nothing-between : (table rid after to : ℕ) (before : History) (so_far : Bool) (who : ℕ) (what : What) → (scope_of what).rows ≡ false
    → touched_between_after table rid after to before so_far who what ≡ so_far
touches-nothing-between table rid after to before so_far who Commit none = absurd (true≢false none)
touches-nothing-between table rid after to before so_far who _ none = refl

-- the tables
pub creates-nothing : (tables : List TableInfo) (what : What) → (scope_of what).tables ≡ false → created tables what ≡ tables
creates-nothing tables (Create name schema grid) none = absurd (true≢false none)
creates-nothing tables (Add table column default) none = absurd (true≢false none)
creates-nothing tables (Memory table priority) none = absurd (true≢false none)
creates-nothing tables _ none = refl

-- the session's transaction
pub pending-kept : (so_far : List Change) (what : What) → (scope_of what).transaction ≡ false → pending_after so_far what ≡ so_far
pending-kept so_far (Write changes) none = absurd (true≢false none)
pending-kept so_far Commit none = absurd (true≢false none)
pending-kept so_far Rollback none = absurd (true≢false none)
pending-kept so_far _ none = refl

pub begun-kept : (place : ℕ) (so_far : Option ℕ) (what : What) → (scope_of what).transaction ≡ false → begun_after place so_far what ≡ so_far
begun-kept place so_far (Begin mode) none = absurd (true≢false none)
begun-kept place so_far (Write changes) none = absurd (true≢false none)
begun-kept place so_far Commit none = absurd (true≢false none)
begun-kept place so_far Rollback none = absurd (true≢false none)
begun-kept place so_far _ none = refl

pub mode-kept : (so_far : Mode) (what : What) → (scope_of what).transaction ≡ false → mode_after so_far what ≡ so_far
mode-kept so_far (Begin mode) none = absurd (true≢false none)
mode-kept so_far Commit none = absurd (true≢false none)
mode-kept so_far Rollback none = absurd (true≢false none)
mode-kept so_far _ none = refl

-- the row numbers that are given, and the weight of all changes
pub gives-nothing : (table so_far : ℕ) (what : What) → (scope_of what).changes ≡ false → given_after table so_far what ≡ so_far
gives-nothing table so_far (Write changes) none = absurd (true≢false none)
gives-nothing table so_far _ none = refl

pub weighs-nothing : (so_far : ℕ) (what : What) → (scope_of what).changes ≡ false → weight_after so_far what ≡ so_far
weighs-nothing so_far (Write changes) none = absurd (true≢false none)
weighs-nothing so_far _ none = refl

-- the session's cursors
pub cursors-kept : (before : History) (who : ℕ) (so_far : List Opened) (what : What) → (scope_of what).cursors ≡ false
    → opened_after before who so_far what ≡ so_far
cursors-kept before who so_far (Open cursor table asked) none = absurd (true≢false none)
cursors-kept before who so_far (Shut cursor) none = absurd (true≢false none)
cursors-kept before who so_far _ none = refl

-- which builds there are
pub begins-no-build : (so_far : ℕ) (what : What) → (scope_of what).builds ≡ false → builds_after so_far what ≡ so_far
begins-no-build so_far (Build id table extent trickle) none = absurd (true≢false none)
begins-no-build so_far _ none = refl

pub spends-nothing : (so_far : ℕ) (what : What) → (scope_of what).builds ≡ false → spent_after so_far what ≡ so_far
spends-nothing so_far (Build id table extent trickle) none = absurd (true≢false none)
spends-nothing so_far _ none = refl

-- which extents are in the column store
pub drops-nothing : (table extent : ℕ) (what : What) → (scope_of what).takes_out ≡ false → drops table extent what ≡ false
drops-nothing table extent (Memory other None) none = absurd (true≢false none)
drops-nothing table extent (Evict other place) none = absurd (true≢false none)
drops-nothing table extent _ none = refl

pub waits-kept : (table extent : ℕ) (before : History) (so_far : Bool) (what : What) → (scope_of what).builds ≡ false → (scope_of what).takes_out ≡ false
    → waits_after table extent before so_far what ≡ so_far
waits-kept table extent before so_far (Memory other None) apart none = absurd (true≢false none)
waits-kept table extent before so_far (Cancel id full) apart none = absurd (true≢false apart)
waits-kept table extent before so_far (Evict other place) apart none = absurd (true≢false none)
waits-kept table extent before so_far _ apart none = refl

-- the credits that are given
pub gives-no-credits : (so_far : ℕ) (what : What) → (scope_of what).credits ≡ false → trickled_after so_far what ≡ so_far
gives-no-credits so_far (Trickle count) none = absurd (true≢false none)
gives-no-credits so_far _ none = refl
