-- How a statement whose names were found is played over the cursors that its session keeps.
use Rattle.std.specs.Prelude.{◌≡◌, ℕ, ◌==◌, Bool, List}
use Rattle.std.specs.List.{AllByRecursion}
use Rattle.im_history.specs.History.{History}
use Rattle.im_plan.specs.Plan.{Plan}
use Rattle.im_reach.specs.Sides.{Known}
use Rattle.im_replies.specs.declared.reply.Reply.{Reply}
use Rattle.im_session.specs.declared.cursor.Cursor.{Cursor}
use Rattle.im_session.specs.declared.playing.Use.{Use}
use Rattle.im_session.specs.declared.playing.Use.TheVariants.{Step, Fetch, Close}
use Rattle.im_session.specs.Cursors.{IsSound}
use Rattle.im_session.specs.Reads.{Reading, Nothing, Next, Left}
use Rattle.im_session.specs.Sessions.{AreApart, state_of}
use Rattle.im_session.specs.inner.Rests.{IsRest}
use Rattle.im_statements.specs.Agreement.{Agrees as AreOpen}
use Rattle.im_statements.specs.Cursors.{close_query, fetch_query, step_query, with_cursor}
use Rattle.im_statements.specs.Outcomes.{Effect, OpenQuery, Outcome, Replied, State, kept_after}

-- the cursor has this number
abbrev pub is_number : ℕ → Cursor → Bool
is_number number kept = kept.number == number

-- the cursors that are kept are those that the session has open, each with its view, and what is kept of each is the partial answer
-- over the extents before its next one
pub record AreKept (who : ℕ) (kept : List Cursor) (now : Known) : Type 0 where
  pub cursors : AreOpen (state_of kept) now.log who
  pub sound : AllByRecursion (λ cursor. IsSound cursor now) kept
  pub apart : AreApart kept

-- what a line does with the query of a cursor that it uses so, which was looked for at this history
abbrev pub plan_of_use : Use → History → OpenQuery → Plan Outcome
plan_of_use Step at query = step_query at query
plan_of_use Fetch at query = fetch_query at query
plan_of_use Close at query = close_query query.cursor

-- and with the cursor of a number, where it is open
abbrev pub plan_over : Use → State → History → ℕ → Plan Outcome
plan_over usage state at number = with_cursor state at number (plan_of_use usage at)

-- what it reads the blocks for
abbrev pub reading_by : Use → ℕ → Reading
reading_by Step number = Next number
reading_by Fetch number = Left number
reading_by Close number = Nothing

-- the line went by this plan, and what is kept of the cursors now is what comes of it
pub record IsRun (who : ℕ) (plan : Plan Outcome) (before : List Cursor) (old : Known) (reply : Reply) (after : List Cursor) (new : Known) : Type 0 where
  pub effect : Effect
  pub rest : IsRest who 0 old plan (Replied reply effect) new
  pub keeps : state_of after ≡ kept_after effect (state_of before)
  pub sound : AllByRecursion (λ kept. IsSound kept new) after
  pub apart : AreApart after
