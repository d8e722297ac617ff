-- Rows that a scan saw and that are rewritten.
use Rattle.std.specs.Prelude.{◌≡◌, ℕ, ◌<◌, ◌≤◌, ◌+◌, true, false, List, [], ◌∷◌, Option, None, Some}
use Rattle.std.specs.List.{AllByRecursion}
use Rattle.im_values.specs.declared.schema.Column.{Column}
use Rattle.im_values.specs.declared.content.Content.{Content as Value}
use Rattle.im_values.specs.Fits.{fits}
use Rattle.im_history.specs.declared.refused.Why.{Why}
use Rattle.im_history.specs.declared.refused.Why.TheVariants as why
use Rattle.im_history.specs.declared.view.View.{View}
use Rattle.im_history.specs.History.{History}
use Rattle.im_history.specs.Rows.{Row, own_changes}
use Rattle.im_history.specs.Views.{seen_by}
use Rattle.im_names.specs.Fitting.{FilterServes, SetServes}
use Rattle.im_reach.specs.Sides.{Known}
use Rattle.im_replies.specs.declared.body.Body.TheVariants.{Error}
use Rattle.im_replies.specs.declared.reply.Reply.{Reply}
use Rattle.im_replies.specs.declared.served.Served.{Served}
use Rattle.im_replies.specs.declared.aim.Aim.TheVariants as aim
use Rattle.im_replies.specs.Causes.{fault_of}
use Rattle.im_statements.specs.declared.rewriting.Rewriting.{Rewriting}
use Rattle.im_statements.specs.declared.rewriting.Rewriting.TheVariants.{Updating, Deleting}
use Rattle.im_statements.specs.Turns.{memory_reply, served_reply}
use Rattle.im_syntax.specs.declared.bound.Bound.{Bound}
use Rattle.im_syntax.specs.Condition.{CondOf}

-- the query of a condition alone
abbrev pub condition_query : ℕ → Option (CondOf ℕ Value) → Bound
condition_query table filter = record { table = table; asked = None; filter = filter; items = []; groups = []; keys = []; grouped = false }

-- the values that are assigned may stand in their columns
abbrev pub SetsServe : Rewriting → List Column → Type 0
SetsServe (Updating sets) columns = AllByRecursion (SetServes columns) sets
SetsServe Deleting columns = Unit {0}

-- a condition may be asked of every row of a table, and what becomes of the rows fits it
pub record RewriteServes (filter : Option (CondOf ℕ Value)) (rewriting : Rewriting) (columns : List Column) : Type 0 where
  pub condition : FilterServes filter columns
  pub values : SetsServe rewriting columns

-- rows that the open scan of a session sees may be rewritten: it asked for no SCN, the session has changed nothing since, and each
-- fits the columns of its view
pub record MayRewriteIn (who : ℕ) (rewriting : Rewriting) (view : View) (now : Known) : Type 0 where
  pub unasked : view.asked ≡ None
  pub own : view.own ≡ own_changes now.log who view.table
  pub fit : (rid : ℕ) (row : Row) → seen_by now.log view rid ≡ Some row → fits row view.columns ≡ true
  pub values : SetsServe rewriting view.columns

-- rows of rising numbers, from a number on, which a view sees
abbrev pub AreSeen : History → View → ℕ → List (ℕ × Row) → Type 0
AreSeen history view low [] = Unit {0}
AreSeen history view low (row ∷ rows) =
    (low ≤ row.0) × (row.0 < view.rows) × (seen_by history view row.0 ≡ Some row.1) × AreSeen history view (row.0 + 1) rows

-- they are those of a list, which may be empty
pub record AreRows (history : History) (view : View) (rows : List (ℕ × Row)) : Type 0 where
  pub seen : AreSeen history view 0 rows

-- the reply of a line whose write was refused once it had made k entries and was served so
abbrev pub write_reply : ℕ → ℕ → List Served → Why → Reply
write_reply k place marks why.NoMemory = memory_reply k
write_reply k place marks cause = served_reply place marks (Error (fault_of aim.Plain cause))
