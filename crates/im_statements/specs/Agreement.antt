-- What a session keeps between its lines agrees with its history.
use Rattle.std.specs.Prelude.{◌≡◌, ℕ, Bool, true, false, List, [], ◌∷◌, ⊤}
use Rattle.im_history.specs.Cursors.{Opened, has_own_open, opened}
use Rattle.im_history.specs.History.{History}
use Rattle.im_history.specs.declared.limits.Limits.{Limits}
use Rattle.im_plan.specs.Goes.{PlayedLine, Others}
use Rattle.im_syntax.specs.Rules.{IsStmt}
use Rattle.im_syntax.specs.declared.statement.Stmt.{Stmt}
use Rattle.im_statements.specs.Outcomes.{Outcome, OpenQuery, Replied, State, kept_after}
use Rattle.im_statements.specs.Statements.{statement_plan}
use Rattle.im_statements.specs.Turns.{amends}

-- a query is that of an open cursor, with its view
pub record IsQueryOf (query : OpenQuery) (cursor : Opened) : Type 0 where
  pub same : query.cursor ≡ cursor.cursor
  pub view : query.view ≡ cursor.view

-- queries are those of open cursors, in order
abbrev pub AreQueriesOf : List OpenQuery → List Opened → Type 0
AreQueriesOf [] [] = ⊤
AreQueriesOf [] (cursor ∷ cursors) = ⊥
AreQueriesOf (query ∷ queries) [] = ⊥
AreQueriesOf (query ∷ queries) (cursor ∷ cursors) = IsQueryOf query cursor × AreQueriesOf queries cursors

-- between two lines: no cursor is open that a statement opened by itself, and the queries that are kept are those of the session's open cursors
pub record Agrees (state : State) (history : History) (who : ℕ) : Type 0 where
  pub closed : has_own_open history who ≡ false
  pub queries : AreQueriesOf state.queries (opened history who)

-- what a session keeps, once a line has come to this
abbrev pub kept_by : Outcome → State → State
kept_by (Replied reply effect) state = kept_after effect state

-- whatever others do meanwhile, a line of a session leaves agreement, out of memory or not
abbrev pub KeepAgreement : Type 0
KeepAgreement =
    (mine : ℕ → Bool) (limits : Limits) (who : ℕ) (state : State) (statement : Stmt) (old : History) (outcome : Outcome) (new : History)
    → mine who ≡ true → IsStmt statement → Agrees state old who
    → PlayedLine (Others mine) who (amends who) old (statement_plan limits who state statement) outcome new
    → Agrees (kept_by outcome state) new who
