-- The cursors that a session keeps, and what they agree with in the history.
use Rattle.std.specs.Prelude.{◌≡◌, ℕ, ◌+◌, ◌⊎◌, Bool, true, false, [], Option, Some, None}
use Rattle.im_core.specs.Answers.{IsRefusal}
use Rattle.im_group.specs.Partials.{Parts, merged, partial}
use Rattle.im_history.specs.declared.entry.What.TheVariants.{Open}
use Rattle.im_history.specs.declared.refused.Refused.{Refused}
use Rattle.im_history.specs.declared.refused.Why.TheVariants.{NoMemory}
use Rattle.im_history.specs.Views.{view_at}
use Rattle.im_reach.specs.Sides.{Added, Found, Known}
use Rattle.im_replies.specs.declared.reply.Reply.{Reply}
use Rattle.im_replies.specs.declared.served.Served.{Served}
use Rattle.im_session.specs.declared.cursor.Cursor.{Cursor}
use Rattle.im_session.specs.Cursors.{IsSound, query_of}
use Rattle.im_session.specs.inner.Scans.{IsScan}
use Rattle.im_statements.specs.Cursors.{step_reply}
use Rattle.im_statements.specs.Outcomes.{Closes, Opens, Outcome, OpenQuery, Replied, Steps, said}
use Rattle.im_statements.specs.Scans.{opening_refusal}
use Rattle.im_statements.specs.Turns.{memory_reply}
use Rattle.im_syntax.specs.declared.bound.Bound.{Bound}

-- a cursor that is kept is open, with its view
pub record IsKept (who : ℕ) (kept : Cursor) (now : Known) : Type 0 where
  pub scan : IsScan who kept.number kept.view now
  pub sound : IsSound kept now

-- a cursor was opened for a query, on a table that had so many columns at the look, with this view, and was served nothing yet
pub record IsJustOpened (who number columns : ℕ) (bound : Bound) (cursor : Cursor) (old new : Known) : Type 0 where
  pub is : cursor ≡ record { number = number; bound = bound; view = cursor.view; next = 0; part = partial bound [] }
  pub added :
      Added old new who (λ at. Open number bound.table bound.asked)
      (λ at. (opening_refusal at who number bound.table columns bound.asked ≡ None) × (cursor.view ≡ view_at at who bound.table bound.asked))

-- a cursor of this number was not opened on a table that had so many columns at the look: that is refused, or memory was out
pub record IsUnopened (who number table columns : ℕ) (asked : Option ℕ) (refused : Refused) (old new : Known) : Type 0 where
  pub cause :
      ((refused.why ≡ NoMemory) × (new ≡ old))
      ⊎ Found old new (λ at. IsRefusal at (opening_refusal at who number table columns asked) refused)

-- what comes of an OPEN
abbrev pub opening_outcome : Reply → Option Cursor → Outcome
opening_outcome reply None = said reply
opening_outcome reply (Some kept) = Replied reply (Opens (query_of kept))

-- what comes of a STEP that served an extent, or did not
abbrev pub step_outcome : ℕ → Reply → Bool → Outcome
step_outcome cursor reply true = Replied reply (Steps cursor)
step_outcome cursor reply false = said reply

-- what comes of a FETCH that closed its cursor, or did not
abbrev pub fetch_outcome : ℕ → Reply → Bool → Outcome
fetch_outcome cursor reply true = Replied reply (Closes cursor)
fetch_outcome cursor reply false = said reply

-- the query, once an extent was served or was not
abbrev pub query_after : Bool → OpenQuery → OpenQuery
query_after true query = record query { next = query.next + 1 }
query_after false query = query

-- the reply of a STEP that was served this, or ran out of memory
abbrev pub served_reply_of : Bool → Served → Reply
served_reply_of true mark = step_reply mark
served_reply_of false mark = memory_reply 0

-- a cursor that took the part of its next extent, or did not
abbrev pub cursor_after : Bool → Cursor → Parts → Cursor
cursor_after true kept part = record kept { next = kept.next + 1; part = merged kept.part part }
cursor_after false kept part = kept
