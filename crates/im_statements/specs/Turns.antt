-- What plans of statements are made of: looks, entries that may be refused, and replies.
use Rattle.std.specs.Prelude.{ℕ, true, false, List, [], ◌∷◌, length, Option, Some, None, if◌then◌else◌}
use Rattle.im_history.specs.declared.entry.What.{What}
use Rattle.im_history.specs.declared.entry.What.TheVariants as what
use Rattle.im_history.specs.declared.refused.Why.{Why}
use Rattle.im_history.specs.declared.refused.Why.TheVariants as why
use Rattle.im_history.specs.Cursors.{is_cursor_open, own_cursors}
use Rattle.im_history.specs.History.{History}
use Rattle.im_plan.specs.Plan.{Plan, End, Turn}
use Rattle.im_replies.specs.declared.body.Body.{Body}
use Rattle.im_replies.specs.declared.body.Body.TheVariants.{Error}
use Rattle.im_replies.specs.declared.fault.Fault.{Fault}
use Rattle.im_replies.specs.declared.fault.Fault.TheVariants as fault
use Rattle.im_replies.specs.declared.reply.Reply.{Reply}
use Rattle.im_replies.specs.declared.served.Served.{Served}
use Rattle.im_statements.specs.Outcomes.{Outcome, said}

-- ---- replies

-- the reply that was settled at this place, of a line that was served so
abbrev pub served_reply : ℕ → List Served → Body → Reply
served_reply place marks body = record { place = Some place; marks = marks; body = body }

-- the reply that was settled at this place, of a line that no extent was served
abbrev pub settled_reply : ℕ → Body → Reply
settled_reply place body = served_reply place [] body

-- the reply of a line that is refused before anything is looked up
abbrev pub fault_reply : Fault → Reply
fault_reply fault = record { place = None; marks = []; body = Error fault }

-- the reply of a line that ran out of memory after k entries
abbrev pub memory_reply : ℕ → Reply
memory_reply k = fault_reply (fault.Memory k)

-- the reply to a line whose call was refused for this cause, at this place, once it had made k entries
abbrev pub refused_reply : (Why → Fault) → ℕ → ℕ → Why → Reply
refused_reply tells k place why.NoMemory = memory_reply k
refused_reply tells k place cause = settled_reply place (Error (tells cause))

-- ---- ends

-- the line ends with a reply that was settled at this place
abbrev pub settled : ℕ → Body → Plan Outcome
settled place body = End (said (settled_reply place body))

-- the line ends with a reply that was settled at this history
abbrev pub answer_at : History → Body → Plan Outcome
answer_at at body = settled (length at) body

-- ---- turns

-- a turn that reads and adds nothing
abbrev pub look : (History → Plan Outcome) → Plan Outcome
look on = Turn false (λ at. None) on

-- the entry, unless it is refused
abbrev pub unless_refused : Option Why → What → Option What
unless_refused None entry = Some entry
unless_refused (Some cause) entry = None

-- the line goes on so, unless its call was refused at this history: then it ends
abbrev pub or_refused : (Why → Fault) → History → Option Why → Plan Outcome → Plan Outcome
or_refused tells at None plan = plan
or_refused tells at (Some cause) plan = answer_at at (Error (tells cause))

-- an entry that may be refused, and what the line does behind it, which knows the history that it came behind
abbrev pub attempt : (Why → Fault) → (History → Option Why) → (History → What) → (History → Plan Outcome) → Plan Outcome
attempt tells refused entry on =
    Turn false (λ at. unless_refused (refused at) (entry at)) (λ at. or_refused tells at (refused at) (on at))

-- the entry that decides a line, unless it is refused, and what the line does behind it
abbrev pub decide : (Why → Fault) → (History → Option Why) → (History → What) → (History → Plan Outcome) → Plan Outcome
decide tells refused entry on =
    Turn true (λ at. unless_refused (refused at) (entry at)) (λ at. or_refused tells at (refused at) (on at))

-- the entry that decides a line, which nothing refuses
abbrev pub decide_by : (History → What) → (History → Plan Outcome) → Plan Outcome
decide_by entry on = Turn true (λ at. Some (entry at)) on

-- the cursor is closed where it is open
abbrev pub shut_open : ℕ → ℕ → History → Option What
shut_open who cursor at = if is_cursor_open at who cursor then Some (what.Shut cursor) else None

-- each of these cursors is closed where it is open, one after the other
abbrev pub shut_each : ℕ → List ℕ → Plan Outcome → Plan Outcome
shut_each who [] on = on
shut_each who (cursor ∷ cursors) on = Turn false (shut_open who cursor) (λ at. shut_each who cursors on)

-- a line that ran out of memory after k entries: the cursors that statements open by themselves are closed
abbrev pub amends : ℕ → ℕ → Plan Outcome
amends who k = shut_each who own_cursors (End (said (memory_reply k)))
