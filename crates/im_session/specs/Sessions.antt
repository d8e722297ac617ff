-- A session between its lines: what it keeps, what that agrees with, and what a line does to it.
use Rattle.std.specs.Prelude.{◌≡◌, ℕ, ◌==◌, Bool, false, List, [], ◌∷◌, map, ⊤}
use Rattle.std.specs.List.{AllByRecursion}
use Rattle.im_history.specs.Transactions.{is_open}
use Rattle.im_plan.specs.Goes.{PlayedLine, Others}
use Rattle.im_reach.specs.Sides.{Known, speaks}
use Rattle.im_replies.specs.declared.reply.Reply.{Reply}
use Rattle.im_session.specs.declared.cursor.Cursor.{Cursor}
use Rattle.im_session.specs.Cursors.{IsSound, query_of}
use Rattle.im_statements.specs.Agreement.{Agrees as AreOpen}
use Rattle.im_statements.specs.Outcomes.{Effect, Replied, State, kept_after}
use Rattle.im_statements.specs.Statements.{statement_plan}
use Rattle.im_statements.specs.Transaction.{open_after}
use Rattle.im_statements.specs.Turns.{amends}
use Rattle.im_syntax.specs.declared.statement.Stmt.{Stmt}

-- what a session keeps: its number, its open cursors in the order of their opening, and whether a transaction of it is open
pub record Kept : Type 0 where
  pub who : ℕ
  pub cursors : List Cursor
  pub in_transaction : Bool

-- what its plans know of these cursors
abbrev pub state_of : List Cursor → State
state_of cursors = record { queries = map query_of cursors }

-- no two cursors have one number
abbrev pub AreApart : List Cursor → Type 0
AreApart [] = ⊤
AreApart (kept ∷ others) = AllByRecursion (λ other. (other.number == kept.number) ≡ false) others × AreApart others

-- the session agrees with what is known: its cursors are those that are open there, each with its view, and what it keeps of each
-- is the partial answer over the extents before the next one. It knows whether its transaction is open there
pub record Agrees (session : Kept) (now : Known) : Type 0 where
  pub cursors : AreOpen (state_of session.cursors) now.log session.who
  pub sound : AllByRecursion (λ kept. IsSound kept now) session.cursors
  pub apart : AreApart session.cursors
  pub transaction : session.in_transaction ≡ is_open now.log session.who

-- the session played a line: it went by the plan of its statement, whatever others did meanwhile, or ran out of memory and was
-- amended; and what the session keeps now is what comes of that line and what its reply says
pub record IsStatementPlayed (statement : Stmt) (before : Kept) (old : Known) (reply : Reply) (after : Kept) (new : Known) : Type 0 where
  pub same : after.who ≡ before.who
  pub known : new ≡ record old { log = new.log }
  pub effect : Effect
  pub line :
      PlayedLine (Others (speaks old.side)) before.who (amends before.who) old.log
      (statement_plan old.limits before.who (state_of before.cursors) statement) (Replied reply effect) new.log
  pub keeps : state_of after.cursors ≡ kept_after effect (state_of before.cursors)
  pub transaction : after.in_transaction ≡ open_after statement reply before.in_transaction
