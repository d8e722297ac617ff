-- What a session does in a race: its lines one after the other and the piece that ends it, whatever others do meanwhile.
use Rattle.std.specs.Prelude.{◌≡◌, ℕ, ◌==◌, List, [], ◌∷◌}
use Rattle.im_history.specs.declared.limits.Limits.{Limits}
use Rattle.im_history.specs.History.{History}
use Rattle.im_plan.specs.Goes.{After, Goes, PlayedLine as Whole, Others}
use Rattle.im_play.specs.Requests.{LineDemand, Nothing, Told, Asks, Orders, demand_of}
use Rattle.im_replies.specs.declared.reply.Reply.{Reply}
use Rattle.im_script.specs.declared.line.Line.{Line}
use Rattle.im_session.specs.Ends.{end_plan}
use Rattle.im_statements.specs.Outcomes.{Effect, Replied, State, kept_after}
use Rattle.im_worker.specs.Work.{IsEndOfRounds, Round, Worked}
use Rattle.im_worker.specs.declared.work.Ended.{Ended}

-- entries of others than this number
abbrev pub OthersThan : ℕ → History → Type 0
OthersThan who = Others (λ number. who == number)

-- a line behind the prelude, and its reply
pub record Answer : Type 0 where
  pub line : Line
  pub reply : Reply

-- the session of this number, which keeps `state` at the history `old`, plays a line that asks for this, and has this reply; then it
-- keeps `kept` at the history `at`
abbrev pub PlaysDemand : ℕ → State → History → Reply → LineDemand → State → History → Type 0
PlaysDemand who state old reply Nothing kept at = ⊥
PlaysDemand who state old reply (Told number told) kept at = (reply ≡ told) × (kept ≡ state) × (at ≡ old)
PlaysDemand who state old reply (Asks request) kept at =
    (effect : Effect) × (kept ≡ kept_after effect state)
    × Whole (OthersThan who) who request.amends old (request.plan state) (Replied reply effect) at
PlaysDemand who state old reply (Orders command) kept at = ⊥

-- from the history `old` on, the session of this number, which keeps this, plays these lines with these replies and then ends. At the
-- history `new` it has left, and others may have gone on behind it
abbrev pub HasPlayed : ℕ → ℕ → State → History → List Answer → History → Type 0
HasPlayed area who state old [] new = Goes (OthersThan who) who old (end_plan who) tt new
HasPlayed area who state old (answer ∷ answers) new =
    (kept : State) × (at : History) × PlaysDemand who state old answer.reply (demand_of area answer.line) kept at
    × HasPlayed area who kept at answers new

-- from the history `old` on, a worker of this number did its job of so many turns, in a race of so many sessions, and ended so
pub record Worker (limits : Limits) (turns sessions who : ℕ) (old : History) (ended : Ended) (new : History) : Type 0 where
  pub rounds : List Round
  pub worked : Worked (OthersThan who) limits who rounds old new
  pub told : IsEndOfRounds turns sessions rounds ended

-- what a session did holds of any longer history that others went on to
abbrev pub IsJudgedByTheWhole : Type 0
IsJudgedByTheWhole =
    (area who : ℕ) (state : State) (old at new : History) (answers : List Answer) → After (OthersThan who) at new
    → HasPlayed area who state old answers at → HasPlayed area who state old answers new
