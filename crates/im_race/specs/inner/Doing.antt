-- Jobs before and after they are done.
use Rattle.std.specs.Prelude.{◌≡◌, ℕ, ◌<◌, ◌≤◌, false, List, [], ◌∷◌, filter, map, slice_index_or, IfSome, IsSomeAnd, Some, None, ⊤}
use Rattle.im_history.specs.declared.entry.Entry.{Entry}
use Rattle.im_history.specs.History.{History}
use Rattle.im_history.specs.Leaves.{has_left}
use Rattle.im_play.specs.Requests.{demand_of, script_limits}
use Rattle.im_race.specs.declared.job.Done.{Done}
use Rattle.im_race.specs.declared.job.Job.{Job}
use Rattle.im_race.specs.declared.job.JobOutcome.{JobOutcome}
use Rattle.im_race.specs.declared.job.JobOutcome.TheVariants as outcome
use Rattle.im_race.specs.declared.job.Player.{Player}
use Rattle.im_race.specs.declared.job.Player.TheVariants as player
use Rattle.im_race.specs.declared.job.Post.{Post}
use Rattle.im_race.specs.Jobs.{Answer, HasPlayed, PlaysDemand, Worker}
use Rattle.im_race.specs.Lines.{speaks_in}
use Rattle.im_replies.specs.declared.reply.Reply.{Reply}
use Rattle.im_script.specs.declared.line.Line.{Line}
use Rattle.im_session.specs.Sessions.{Agrees, Kept, state_of}
use Rattle.im_statements.specs.Outcomes.{State, fresh}
use Rattle.im_store.specs.Sides.{known_by, limits_of, who_of}
use Rattle.im_turn.specs.Passes.{KnowsOwn, PassState}
use Rattle.im_turn.specs.Turns.{TurnId}
use Rattle.im_values.specs.declared.limits.TheConstants.{NUMBERS, SESSIONS}
use Rattle.im_worker.specs.Background.{builds_of}

-- a session plays these lines with these replies, and keeps this then
abbrev pub PlaysAll : ℕ → ℕ → State → History → List Answer → State → History → Type 0
PlaysAll area who state old [] kept new = (kept ≡ state) × (new ≡ old)
PlaysAll area who state old (answer ∷ answers) kept new =
    (between : State) × (at : History) × PlaysDemand who state old answer.reply (demand_of area answer.line) between at
    × PlaysAll area who between at answers kept new

-- a session played those of these lines in which it speaks, with these replies
pub record HavePlayed (area who : ℕ) (state : State) (old : History) (lines : List Line) (replies : List Reply) (kept : State) (new : History) : Type 0
  where
    pub answers : List Answer
    pub lines_are : map (λ (answer : Answer). answer.line) answers ≡ filter (speaks_in who) lines
    pub replies_are : map (λ (answer : Answer). answer.reply) answers ≡ replies
    pub plays : PlaysAll area who state old answers kept new

-- and ended
pub record HasEnded (area who : ℕ) (state : State) (old : History) (lines : List Line) (replies : List Reply) (new : History) : Type 0 where
  pub answers : List Answer
  pub lines_are : map (λ (answer : Answer). answer.line) answers ≡ filter (speaks_in who) lines
  pub replies_are : map (λ (answer : Answer). answer.reply) answers ≡ replies
  pub played : HasPlayed area who state old answers new

-- who does a job may begin it at this history
abbrev pub MayBegin : History → ℕ → Player → Type 0
MayBegin base who (player.Session session) = (1 ≤ who) × (who ≤ SESSIONS) × (session.who ≡ who) × (has_left base who ≡ false)
MayBegin base who player.Worker = builds_of base who ≡ []

-- a session agrees with what its pass has seen
abbrev pub AgreesWith : PassState Entry → Player → Type 0
AgreesWith pass (player.Session session) = Agrees session (known_by pass 0)
AgreesWith pass player.Worker = ⊤

-- a job may be done: its pass is of this turn, and has seen what the race begins with
pub record IsReady (area : ℕ) (turn : TurnId) (job : Job) : Type 0 where
  pub number : job.who < NUMBERS
  pub turn_is : job.pass.turn ≡ turn
  pub idle : job.pass.holding ≡ false
  pub who : job.pass.who ≡ job.who
  pub limits : limits_of job.pass.fixed ≡ script_limits area
  pub may : MayBegin job.pass.seen job.who job.player
  pub agrees : AgreesWith job.pass job.player

-- what a session keeps is what it kept behind the prelude; and a worker is no session
abbrev pub IsFrom : List Kept → ℕ → Player → Type 0
IsFrom sessions who (player.Session session) =
    state_of session.cursors ≡ slice_index_or (map (λ (s : Kept). state_of s.cursors) sessions) who fresh
IsFrom sessions who player.Worker = SESSIONS < who

-- what came of the job of a session, from the history `old` to the history `new`
abbrev pub CameOfSession : ℕ → List Line → ℕ → Kept → History → JobOutcome → History → Type 0
CameOfSession area lines who session old (outcome.Replies replies) new = HasEnded area who (state_of session.cursors) old lines replies new
CameOfSession area lines who session old (outcome.Ended ended) new = ⊥
CameOfSession area lines who session old outcome.NoMemory new = ⊤

-- and of a worker
abbrev pub CameOfWorker : ℕ → ℕ → ℕ → ℕ → History → JobOutcome → History → Type 0
CameOfWorker area turns sessions who old (outcome.Replies replies) new = ⊥
CameOfWorker area turns sessions who old (outcome.Ended ended) new = Worker (script_limits area) turns sessions who old ended new
CameOfWorker area turns sessions who old outcome.NoMemory new = ⊥

-- and of either
abbrev pub CameOf : ℕ → ℕ → ℕ → List Line → ℕ → Player → History → JobOutcome → History → Type 0
CameOf area turns sessions lines who (player.Session session) old came new = CameOfSession area lines who session old came new
CameOf area turns sessions lines who player.Worker old came new = CameOfWorker area turns sessions who old came new

-- a job was done
pub record IsDone (area turns sessions : ℕ) (lines : List Line) (job : Job) (done : Done) : Type 0 where
  pub who : done.who ≡ job.who
  pub pass : done.pass ≡ record job.pass { seen = done.pass.seen; mine = done.pass.mine }
  pub own : KnowsOwn who_of done.pass
  pub came : CameOf area turns sessions lines job.who job.player job.pass.seen done.outcome done.pass.seen

-- all jobs were done, in their order
abbrev pub AreDone : ℕ → ℕ → ℕ → List Line → List Job → List Done → Type 0
AreDone area turns sessions lines [] [] = ⊤
AreDone area turns sessions lines [] (done ∷ dones) = ⊥
AreDone area turns sessions lines (job ∷ jobs) [] = ⊥
AreDone area turns sessions lines (job ∷ jobs) (done ∷ dones) =
    IsDone area turns sessions lines job done × AreDone area turns sessions lines jobs dones

-- a post at which a job waits
abbrev pub waiting : Job → Post
waiting job = record { job = Some job; done = None }

-- the job that waited at a post was done
abbrev pub IsServed : ℕ → ℕ → ℕ → List Line → Post → Post → Type 0
IsServed area turns sessions lines old new = IfSome old.job (λ (job : Job). IsSomeAnd new.done (IsDone area turns sessions lines job))
