-- What the replies of a race tell of columns that a table got while a line was played.
use Rattle.std.specs.Prelude.{◌≡◌, ℕ, ◌≤◌, ◌==◌, List, [], ◌∷◌, ◌++◌, All, length, Some}
use Rattle.im_history.specs.History.{History}
use Rattle.im_plan.specs.Altered.{GotColumn}
use Rattle.im_race.specs.Jobs.{Answer, HasPlayed}
use Rattle.im_replies.specs.declared.body.Body.TheVariants.{Error}
use Rattle.im_replies.specs.declared.fault.Fault.TheVariants.{TableAltered}
use Rattle.im_replies.specs.declared.reply.Reply.{Reply}
use Rattle.im_script.specs.Lines.{SpeaksAs}
use Rattle.im_statements.specs.Outcomes.{State}

-- the session of this number speaks in the line of an answer
abbrev pub IsOf : ℕ → Answer → Type 0
IsOf who answer = SpeaksAs (Some who) answer.line.kind

-- the reply was settled at a beginning of the history, where the table had got its last column at this place, by another number than the
-- session's and behind so many entries
pub record WasAlteredIn (who known table place : ℕ) (reply : Reply) (history : History) : Type 0 where
  pub at : History
  pub settled : reply.place ≡ Some (length at)
  pub got : GotColumn (λ number. who == number) known table place at
  pub rest : History
  pub goes_on : history ≡ at ++ rest

-- each of a session's answers that refuses its line since a table got columns tells of the last of them so: it was added behind all that
-- the history had when the line began, and the next line began no earlier than this one ended
abbrev pub TellOfColumns : ℕ → ℕ → List Answer → History → Type 0
TellOfColumns who known [] history = known ≤ length history
TellOfColumns who known (answer ∷ answers) history =
    ((table place : ℕ) → answer.reply.body ≡ Error (TableAltered table place) → WasAlteredIn who known table place answer.reply history)
    × ((ended : ℕ) × (known ≤ ended) × TellOfColumns who ended answers history)

-- whatever others do meanwhile, what a session answered in a race tells of columns so
abbrev pub RacesTellOfColumns : Type 0
RacesTellOfColumns =
    (area who : ℕ) (state : State) (old new : History) (answers : List Answer) → All (IsOf who) answers
    → HasPlayed area who state old answers new → TellOfColumns who (length old) answers new
