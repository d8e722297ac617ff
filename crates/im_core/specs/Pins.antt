-- What pins of one extent give to one cursor, each at a moment of its own while it is open.
use Rattle.std.specs.Prelude.{◌≡◌, ℕ, ◌-◌, ◌+◌, ◌*◌, ◌<◌, ◌≤◌, ◌==◌, ◌&&◌, ◌++◌, Bool, false, nat_lt, List, All, fold, get_or, Option, Some, None, if◌then◌else◌}
use Rattle.im_history.specs.declared.entry.Entry.{Entry}
use Rattle.im_history.specs.declared.entry.What.{What}
use Rattle.im_history.specs.declared.entry.What.TheVariants.{Shut}
use Rattle.im_history.specs.declared.limits.Limits.{Limits}
use Rattle.im_history.specs.declared.view.View.{View}
use Rattle.im_history.specs.History.{History}
use Rattle.im_history.specs.Legal.{IsLegal}
use Rattle.im_history.specs.Rows.{Row, row_after, rows, present}
use Rattle.im_history.specs.Serving.{fetched_in, rows_in, serving_content}
use Rattle.im_history.specs.Units.{Content}
use Rattle.im_history.specs.Views.{shown}
use Rattle.im_core.specs.Answers.{cursor_view}

-- ---- what a pin gives

-- what a pin of an extent answers: what the unit that it lends holds, if it lends one, and the rows that it fetched
pub record Pinning : Type 0 where
  pub unit : Option Content
  pub fetched : List (ℕ × Option Row)

-- the row that the unit holds at a row number: none outside its extent, and none where no unit is lent
abbrev pub row_lent : Option Content → ℕ → Option Row
row_lent None rid = None
row_lent (Some content) rid = if nat_lt rid content.first then None else get_or content.rows (rid - content.first) None

-- what stands at a row number once a row was fetched: that row, if it is of this number
abbrev pub row_or_fetched : ℕ → Option Row → ℕ × Option Row → Option Row
row_or_fetched rid row fetched = if fetched.0 == rid then fetched.1 else row

-- the row that a pin gives at a row number: the one that was fetched of it, else the one of the unit
abbrev pub row_given : Pinning → ℕ → Option Row
row_given pin rid = fold (row_or_fetched rid) (row_lent pin.unit rid) pin.fetched

-- the row that a pin gives a view at a row number: the one that was fetched of it, else the one of the unit, as the view shows it
abbrev pub row_given_to : View → Pinning → ℕ → Option Row
row_given_to view pin rid = fold (row_or_fetched rid) (shown view (row_lent pin.unit rid)) pin.fetched

-- the row that a view takes of it: changed by the view's own changes, in order, and as the view shows it
abbrev pub row_taken : View → Pinning → ℕ → Option Row
row_taken view pin rid = shown view (fold (row_after view.table rid) (row_given_to view pin rid) view.own)

-- the rows that a view takes of an extent, each with its number: all that a scan goes over, and so all that its answer is made of
abbrev pub rows_taken : View → ℕ → Pinning → List (ℕ × Row)
rows_taken view extent pin = present (row_taken view pin) (extent * view.per) (rows_in view extent)

-- ---- one cursor that stays open

-- an entry of this kind shuts the cursor
abbrev pub is_shut : ℕ → What → Bool
is_shut cursor (Shut other) = other == cursor
is_shut cursor what = false

-- the entry shuts this cursor of a session
abbrev pub shuts : ℕ → ℕ → Entry → Bool
shuts who cursor entry = (entry.who == who) && is_shut cursor entry.what

-- none of these entries does, whatever else they record
abbrev pub StaysOpen : ℕ → ℕ → History → Type 0
StaysOpen who cursor since = All (λ entry. shuts who cursor entry ≡ false) since

-- what a pin of an extent answers for a cursor at this history
pub record IsPinAt (history : History) (who cursor extent : ℕ) (pin : Pinning) : Type 0 where
  pub within : extent < (cursor_view history who cursor).extents
  pub unit : pin.unit ≡ serving_content history (cursor_view history who cursor) extent
  pub fetched : pin.fetched ≡ fetched_in history (cursor_view history who cursor) extent

-- two pins of an extent for a cursor: one at a legal history, and one when that had got these entries more, while the cursor
-- stayed open
pub record ArePins (history since : History) (who cursor extent : ℕ) (first later : Pinning) : Type 0 where
  pub limits : Limits
  pub legal : IsLegal limits history
  pub stays : StaysOpen who cursor since
  pub one : IsPinAt history who cursor extent first
  pub other : IsPinAt (history ++ since) who cursor extent later

-- ---- the law

-- a pin gives the cursor's view at each row number of its extent the row that was committed at the cursor's SCN, as the view shows it
abbrev pub GivesTheCommittedRows : Type 0
GivesTheCommittedRows =
    (limits : Limits) (history : History) (who cursor extent : ℕ) (pin : Pinning) → IsLegal limits history → IsPinAt history who cursor extent pin
    → (rid : ℕ) → extent * (cursor_view history who cursor).per ≤ rid → rid < (extent + 1) * (cursor_view history who cursor).per
    → row_given_to (cursor_view history who cursor) pin rid
    ≡ shown (cursor_view history who cursor) (rows history (cursor_view history who cursor).table (cursor_view history who cursor).scn rid)

-- two pins give the same row at each row number, whichever units they lend and whatever the entries between record
abbrev pub GiveTheSameRows : Type 0
GiveTheSameRows =
    (history since : History) (who cursor extent : ℕ) (first later : Pinning) → ArePins history since who cursor extent first later
    → (rid : ℕ) → row_given_to (cursor_view history who cursor) first rid ≡ row_given_to (cursor_view (history ++ since) who cursor) later rid

-- so a scan takes the same rows of both
abbrev pub GiveOneScan : Type 0
GiveOneScan =
    (history since : History) (who cursor extent : ℕ) (first later : Pinning) → ArePins history since who cursor extent first later
    → rows_taken (cursor_view history who cursor) extent first ≡ rows_taken (cursor_view (history ++ since) who cursor) extent later
