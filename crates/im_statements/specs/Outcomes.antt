-- What a session keeps between its lines, and what comes of a line.
use Rattle.std.specs.Prelude.{ℕ, ◌+◌, ◌==◌, Bool, not, List, [], ◌∷◌, ◌++◌, map, filter, Option, if◌then◌else◌}
use Rattle.std.specs.List.{find}
use Rattle.im_history.specs.declared.view.View.{View}
use Rattle.im_syntax.specs.declared.bound.Bound.{Bound}
use Rattle.im_replies.specs.declared.reply.Reply.{Reply}

-- what a session keeps of an open cursor: its query, its view, and the next extent that a step serves
pub record OpenQuery : Type 0 where
  pub cursor : ℕ
  pub bound : Bound
  pub view : View
  pub next : ℕ

-- what a session keeps between its lines
pub record State : Type 0 where
  pub queries : List OpenQuery

-- nothing
abbrev pub fresh : State
fresh = record { queries = [] }

-- the query is that of a cursor of this number
abbrev pub is_query : ℕ → OpenQuery → Bool
is_query cursor query = query.cursor == cursor

-- the query of a cursor
abbrev pub query_at : State → ℕ → Option OpenQuery
query_at state cursor = find (is_query cursor) state.queries

-- what a line does to what its session keeps: nothing; a cursor is opened; its next extent was served; it is closed
pub data Effect : Type 0 where
  Stays : Effect
  Opens : OpenQuery → Effect
  Steps : (cursor : ℕ) → Effect
  Closes : (cursor : ℕ) → Effect

-- the query, once the next extent of a cursor was served
abbrev pub stepped : ℕ → OpenQuery → OpenQuery
stepped cursor query = if query.cursor == cursor then record query { next = query.next + 1 } else query

-- what a session keeps after a line
abbrev pub kept_after : Effect → State → State
kept_after Stays state = state
kept_after (Opens query) state = record { queries = state.queries ++ query ∷ [] }
kept_after (Steps cursor) state = record { queries = map (stepped cursor) state.queries }
kept_after (Closes cursor) state = record { queries = filter (λ query. not (is_query cursor query)) state.queries }

-- what comes of a line: its reply, and what it does to what is kept
pub data Outcome : Type 0 where
  Replied : Reply → Effect → Outcome

-- a reply, where nothing changes of what is kept
abbrev pub said : Reply → Outcome
said reply = Replied reply Stays
