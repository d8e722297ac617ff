-- What is wanted of the extents that a scan is served, and which of them were read.
use Rattle.std.specs.Prelude.{◌≡◌, ◌≤◌, ℕ, List, [], Some}
use Rattle.im_group.specs.Partials.{Numbered}
use Rattle.im_history.specs.History.{History}
use Rattle.im_replies.specs.declared.reply.Reply.{Reply}
use Rattle.im_session.specs.declared.cursor.Cursor.{Cursor}
use Rattle.im_session.specs.declared.serving.Wanted.{Wanted}
use Rattle.im_session.specs.declared.serving.Wanted.TheVariants.{Parts, Marks}
use Rattle.im_session.specs.Cursors.{query_of}
use Rattle.im_session.specs.Reads.{AreRead, IsCounted, Reading}
use Rattle.im_statements.specs.Outcomes.{State, query_at}

-- the rows that are asked the query: none, where marks alone are wanted
abbrev pub wanted_of : Wanted → List Numbered → List Numbered
wanted_of Parts rows = rows
wanted_of Marks rows = []

-- the first extents that are left of an open cursor were read, perhaps all of them, and the steps grew so
pub record HasRead (who : ℕ) (cursor : Cursor) (before after : ℕ) (old new : History) : Type 0 where
  pub upto : ℕ
  pub within : upto ≤ cursor.view.extents
  pub read : AreRead who cursor.number cursor.view cursor.next upto before after old new

-- the steps of a line over a cursor that the session keeps, whatever others it keeps
abbrev pub IsCountedFor : (ℕ → Reading) → Cursor → ℕ → Reply → ℕ → ℕ → History → History → Type 0
IsCountedFor reading cursor who reply before after old new =
    (state : State) → query_at state cursor.number ≡ Some (query_of cursor)
    → IsCounted (reading cursor.number) state who reply before after old new
