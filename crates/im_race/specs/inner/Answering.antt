-- Replies of sessions, put into the order of their lines.
use Rattle.std.specs.Prelude.{ℕ, zero, suc, ◌≤◌, Bool, true, false, List, [], ◌∷◌, ◌++◌, drop, Option, Some, None, slice_index_or, slice_set, ⊤}
use Rattle.im_play.specs.Requests.{unasked_reply}
use Rattle.im_race.specs.declared.job.Done.{Done}
use Rattle.im_race.specs.declared.job.JobOutcome.{JobOutcome}
use Rattle.im_race.specs.declared.job.JobOutcome.TheVariants as outcome
use Rattle.im_race.specs.Jobs.{Answer}
use Rattle.im_replies.specs.declared.body.Body.TheVariants as body
use Rattle.im_replies.specs.declared.reply.Reply.{Reply}
use Rattle.im_script.specs.declared.line.Line.{Line}
use Rattle.im_values.specs.declared.limits.TheConstants.{SESSIONS}
use Rattle.im_worker.specs.declared.work.Ended.{Ended}

-- ---- what came of jobs, in their order

-- so many sessions without replies
abbrev pub no_replies : ℕ → List (List Reply)
no_replies zero = []
no_replies (suc left) = [] ∷ no_replies left

-- the replies of sessions by their numbers, with those that came of a job
abbrev pub with_replies : List (List Reply) → ℕ → JobOutcome → List (List Reply)
with_replies replies who (outcome.Replies of_job) = slice_set replies who of_job
with_replies replies who (outcome.Ended ended) = replies
with_replies replies who outcome.NoMemory = replies

abbrev pub replies_after : List (List Reply) → Done → List (List Reply)
replies_after replies done = with_replies replies done.who done.outcome

-- how workers ended, with what came of a job
abbrev pub with_end : List Ended → JobOutcome → List Ended
with_end ends (outcome.Replies of_job) = ends
with_end ends (outcome.Ended ended) = ends ++ ended ∷ []
with_end ends outcome.NoMemory = ends

abbrev pub ends_after : List Ended → Done → List Ended
ends_after ends done = with_end ends done.outcome

-- memory did not lack
abbrev pub is_whole : JobOutcome → Bool
is_whole (outcome.Replies of_job) = true
is_whole (outcome.Ended ended) = true
is_whole outcome.NoMemory = false

-- replies are those of a session
abbrev pub IsOfSession : ℕ → JobOutcome → Type 0
IsOfSession who (outcome.Replies of_job) = who ≤ SESSIONS
IsOfSession who (outcome.Ended ended) = ⊤
IsOfSession who outcome.NoMemory = ⊤

-- numbers of which each is above those before it, from this one on
abbrev pub Rises : ℕ → List ℕ → Type 0
Rises least [] = ⊤
Rises least (number ∷ numbers) = (least ≤ number) × Rises (suc number) numbers

-- ---- the lines behind a prelude, and their replies

-- a reply, or one that says nothing where there is none
abbrev pub or_nothing : Option Reply → Reply
or_nothing (Some reply) = reply
or_nothing None = record { place = None; marks = []; body = body.Nothing }

-- the first of these replies
abbrev pub first_reply : List Reply → Option Reply
first_reply [] = None
first_reply (reply ∷ replies) = Some reply

-- the reply to a line: the next one of the session that speaks in it, or the one that the line has by its kind
abbrev pub reply_by : List (List Reply) → Option ℕ → Line → Reply
reply_by replies None line = or_nothing (unasked_reply line.kind)
reply_by replies (Some who) line = or_nothing (first_reply (slice_index_or replies who []))

-- the replies that are left behind it
abbrev pub left_by : List (List Reply) → Option ℕ → List (List Reply)
left_by replies None = replies
left_by replies (Some who) = slice_set replies who (drop 1 (slice_index_or replies who []))

-- lines and their replies, in order
abbrev pub answers_by : List (List Reply) → List Line → List Answer
answers_by replies [] = []
answers_by replies (line ∷ lines) =
    record { line = line; reply = reply_by replies line.who line } ∷ answers_by (left_by replies line.who) lines

-- what the report shows of a line and its reply
abbrev pub shown : Answer → ℕ × Reply
shown answer = (answer.line.number, answer.reply)
