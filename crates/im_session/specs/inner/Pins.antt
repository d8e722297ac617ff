-- Extents that were pinned for a scan, one after the other, and what they give to its query, in whatever chunks they are gone over.
use Rattle.std.specs.Prelude.{◌≡◌, ℕ, zero, suc, ◌+◌, ◌-◌, ◌*◌, ◌<◌, ◌≤◌, min, List, [], ◌∷◌, ◌++◌, length, slice_index_or, IfOk, Result, ⊤}
use Rattle.std.specs.Arc.{arc_value}
use Rattle.std.specs.List.{AllByRecursion}
use Rattle.std.specs.Option.{ForSome, option_map}
use Rattle.im_values.specs.declared.limits.TheConstants.{MOST_ROWS}
use Rattle.im_values.specs.declared.no_memory.NoMemory.{NoMemory}
use Rattle.im_core.specs.declared.answers.Pin.{Pin}
use Rattle.im_group.specs.Partials.{Numbered, Parts, partial}
use Rattle.im_history.specs.declared.view.View.{View}
use Rattle.im_history.specs.Grid.{extents_for}
use Rattle.im_history.specs.History.{History}
use Rattle.im_history.specs.Units.{Content}
use Rattle.im_scan.specs.Parts.{AreDefaults, AreShown, MayAsk, MayAskShown}
use Rattle.im_scan.specs.Pinned.{IsPinned, seen_in, seen_to}
use Rattle.im_session.specs.declared.cursor.Cursor.{Cursor}
use Rattle.im_session.specs.declared.serving.Wanted.{Wanted}
use Rattle.im_session.specs.declared.serving.Wanted.TheVariants.{Parts as AllParts, Marks}
use Rattle.im_syntax.specs.declared.bound.Bound.{Bound}

-- what is kept of an extent that was pinned, where its part is wanted
abbrev pub kept_pins : Wanted → List (Pin Content) → Pin Content → List (Pin Content)
kept_pins AllParts pins pin = pins ++ pin ∷ []
kept_pins Marks pins pin = pins

-- a query may be asked of what a view has by its own changes, the view has a default for each column, and its row numbers are cut into
-- extents
pub record IsAsked (bound : Bound) (view : View) : Type 0 where
  pub own : AllByRecursion (λ change. MayAskShown bound view change.row) view.own
  pub defaults : AreDefaults view
  pub cut : view.extents ≡ extents_for view.rows view.per
  pub few : view.rows ≤ MOST_ROWS

-- an extent was pinned at some history, where the view sees of it what it sees at this one, and a query may be asked of it
pub record IsPinOf (bound : Bound) (view : View) (opening : History) (extent : ℕ) (pin : Pin Content) : Type 0 where
  pub at : History
  pub pinned : IsPinned at view extent (option_map arc_value pin.unit) pin.fetched
  pub same : seen_in at view extent ≡ seen_in opening view extent
  pub unit_fits : ForSome (option_map arc_value pin.unit) (λ content. AllByRecursion (MayAskShown bound view) content.rows)
  pub fetched_fits : AllByRecursion (λ row. MayAsk bound row.1) pin.fetched
  pub shown : AreShown view pin.fetched

-- the extents from this one on were pinned so, one after the other
pub record ArePinsOf (bound : Bound) (view : View) (opening : History) (first : ℕ) (pins : List (Pin Content)) : Type 0 where
  pub each : (i : ℕ) (d : Pin Content) → i < length pins → IsPinOf bound view opening (first + i) (slice_index_or pins i d)

-- the rows that a view sees in so many extents from this one on
abbrev pub seen_from : History → View → ℕ → ℕ → List Numbered
seen_from history view first zero = []
seen_from history view first (suc count) = seen_from history view first count ++ seen_in history view (first + count)

-- this is the part of rows that may come before an extent: of so few that those of a view from there on can be counted with them
pub record IsBefore (bound : Bound) (view : View) (first : ℕ) (part : Parts) : Type 0 where
  pub rows : List Numbered
  pub is : part ≡ partial bound rows
  pub few : length rows ≤ min (first * view.per) view.rows

-- what came before the pins went on to what this and the first of them give, so many
pub record GoesOnBy (bound : Bound) (view : View) (first : ℕ) (pins : List (Pin Content)) (count : ℕ) (before part : Parts) : Type 0 where
  pub goes : (opening : History) (rows : List Numbered) → before ≡ partial bound rows → ArePinsOf bound view opening first pins
      → part ≡ partial bound (rows ++ seen_from opening view first count)

-- the part of the rows that so many pins give, from one on
pub record IsPartFrom (bound : Bound) (view : View) (first : ℕ) (pins : List (Pin Content)) (start count : ℕ) (part : Parts) : Type 0 where
  pub is : (opening : History) → ArePinsOf bound view opening first pins → part ≡ partial bound (seen_from opening view (first + start) count)

-- what was made of each chunk of so many pins, the last one shorter perhaps
pub record AreChunkParts (bound : Bound) (view : View) (first size : ℕ) (pins : List (Pin Content)) (made : List (Result Parts NoMemory)) : Type 0 where
  pub each : (n : ℕ) (d : Result Parts NoMemory) → n < length made
      → IfOk (slice_index_or made n d) (IsPartFrom bound view first pins (n * size) (min size (length pins - n * size)))

-- the pins of all extents that are left of a cursor, which keeps the part of those before
pub record AreLeftOf (cursor : Cursor) (opening : History) (pins : List (Pin Content)) : Type 0 where
  pub part : cursor.part ≡ partial cursor.bound (seen_to opening cursor.view cursor.next)
  pub are : ArePinsOf cursor.bound cursor.view opening cursor.next pins
  pub all : cursor.next + length pins ≡ cursor.view.extents

-- the pins of the extents from one on and below another, where their parts are wanted
abbrev pub HasPins : Wanted → Bound → View → History → ℕ → ℕ → List (Pin Content) → Type 0
HasPins AllParts bound view opening first upto pins = ArePinsOf bound view opening first pins × (first + length pins ≡ upto)
HasPins Marks bound view opening first upto pins = ⊤

-- the same of all that are left of a cursor
abbrev pub HasLeft : Wanted → Cursor → List (Pin Content) → Type 0
HasLeft AllParts cursor pins = (opening : History) × AreLeftOf cursor opening pins
HasLeft Marks cursor pins = ⊤

-- what the extents that are left of a cursor give, behind those before, where it is wanted
abbrev pub HasWanted : Wanted → Cursor → List (Pin Content) → Parts → Type 0
HasWanted AllParts cursor pins part = GoesOnBy cursor.bound cursor.view cursor.next pins (length pins) cursor.part part
HasWanted Marks cursor pins part = part ≡ partial cursor.bound []
