-- How many rows a statement of a session may read from the blocks.
use Rattle.std.specs.Prelude.{◌≡◌, ℕ, ◌+◌, ◌≤◌, min, List, [], ◌∷◌, ◌++◌, length, map, sum, Some}
use Rattle.std.specs.List.{AllByRecursion}
use Rattle.std.specs.Option.{option_map}
use Rattle.im_history.specs.declared.cursors.TheConstants.{OWN_CURSOR}
use Rattle.im_history.specs.declared.view.View.{View}
use Rattle.im_history.specs.Cursors.{cursor_at}
use Rattle.im_history.specs.History.{History}
use Rattle.im_history.specs.Serving.{read_in}
use Rattle.im_replies.specs.declared.reply.Reply.{Reply}
use Rattle.im_replies.specs.declared.served.Served.{Served}
use Rattle.im_replies.specs.Mixes.{reads}
use Rattle.im_statements.specs.Outcomes.{OpenQuery, State, query_at}
use Rattle.im_statements.specs.Turns.{memory_reply}
use Rattle.im_syntax.specs.declared.statement.Stmt.{Stmt}
use Rattle.im_syntax.specs.declared.statement.Stmt.TheVariants as stmt

-- ---- what a statement may read

-- what a statement reads the blocks for: nothing; a scan of its own; the next extent of an open cursor; or all that are left of one
pub data Reading : Type 0 where
  Nothing : Reading
  Own : Reading
  Next : (cursor : ℕ) → Reading
  Left : (cursor : ℕ) → Reading

abbrev pub reading_of : Stmt → Reading
reading_of (stmt.Select query) = Own
reading_of (stmt.Explain query) = Own
reading_of (stmt.Update name sets cond) = Own
reading_of (stmt.Delete name cond) = Own
reading_of (stmt.Step cursor) = Next cursor
reading_of (stmt.Fetch cursor) = Left cursor
reading_of statement = Nothing

-- extents that are read by a cursor with a view, from one on and below another
pub record Span : Type 0 where
  pub cursor : ℕ
  pub view : View
  pub from : ℕ
  pub upto : ℕ

-- those that are left of a query, and the next one alone
abbrev pub span_left : OpenQuery → Span
span_left query = record { cursor = query.cursor; view = query.view; from = query.next; upto = query.view.extents }

abbrev pub span_next : OpenQuery → Span
span_next query = record (span_left query) { upto = min (query.next + 1) query.view.extents }

-- all those of a view, by a statement's own scan
abbrev pub span_own : View → Span
span_own view = record { cursor = OWN_CURSOR; view = view; from = 0; upto = view.extents }

-- a moment of a scan: the old history went on to this one, and this one to the new one, and a cursor of the session was open here with
-- this view
pub record IsMoment (who cursor : ℕ) (view : View) (old new at : History) : Type 0 where
  pub before : History
  pub behind : History
  pub at_is : at ≡ old ++ before
  pub new_is : new ≡ at ++ behind
  pub opened : cursor_at at who cursor ≡ Some (record { cursor = cursor; view = view })

-- a session that keeps this may read these extents for that, while the history goes from one to another
abbrev pub IsSpan : Reading → State → ℕ → History → History → Span → Type 0
IsSpan Nothing state who old new span = ⊥
IsSpan Own state who old new span = (at : History) × IsMoment who OWN_CURSOR span.view old new at × (span ≡ span_own span.view)
IsSpan (Next cursor) state who old new span = option_map span_next (query_at state cursor) ≡ Some span
IsSpan (Left cursor) state who old new span = option_map span_left (query_at state cursor) ≡ Some span

-- ---- what it read

-- how many rows are read from the blocks for a view, as these marks tell
abbrev pub reads_of : View → List Served → ℕ
reads_of view marks = sum (map (λ (mark : Served). reads view mark.extent mark.how) marks)

-- how many rows are read from the blocks for a view in the extents from one on, each at a history of its own: the stale rows of the
-- unit that serves there, or all rows of the extent that the view has
abbrev pub rows_read : View → ℕ → List History → ℕ
rows_read view extent [] = 0
rows_read view extent (at ∷ later) = length (read_in at view extent) + rows_read view (extent + 1) later

-- the extents of a view from one on and below another were read, each once and at a moment of its own. The steps grew by at most the rows
-- that are read so
pub record AreRead (who cursor : ℕ) (view : View) (from upto before after : ℕ) (old new : History) : Type 0 where
  pub moments : List History
  pub each : AllByRecursion (IsMoment who cursor view old new) moments
  pub count : from + length moments ≡ upto
  pub few : after ≤ before + rows_read view from moments

-- the reply says that memory ran out
abbrev pub IsOutOfMemory : Reply → Type 0
IsOutOfMemory reply = (k : ℕ) × (reply ≡ memory_reply k)

-- the steps of a line that reads for this and is answered so: nothing was read; or no more rows than its marks tell of; or it ran
-- out of memory, and the first of its extents were read, perhaps all of them
pub data IsCounted (reading : Reading) (state : State) (who : ℕ) (reply : Reply) (before after : ℕ) (old new : History) : Type 0 where
  Unread : after ≤ before → IsCounted reading state who reply before after old new
  Marked : (span : Span) → IsSpan reading state who old new span → after ≤ before + reads_of span.view reply.marks
      → IsCounted reading state who reply before after old new
  Lacked : (span : Span) → IsSpan reading state who old new span → IsOutOfMemory reply → (upto : ℕ) → upto ≤ span.upto
      → AreRead who span.cursor span.view span.from upto before after old new → IsCounted reading state who reply before after old new
