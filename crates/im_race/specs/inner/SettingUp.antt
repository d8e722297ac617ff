-- The jobs of a race, before they are done.
use Rattle.std.specs.Prelude.{◌≡◌, ℕ, zero, suc, ◌&&◌, nat_lt, Bool, false, All, List, [], ◌∷◌, ◌++◌, length, map, if◌then◌else◌}
use Rattle.std.specs.List.{list_any}
use Rattle.im_history.specs.declared.entry.Entry.{Entry}
use Rattle.im_history.specs.History.{History}
use Rattle.im_history.specs.Legal.{IsLawful}
use Rattle.im_play.specs.Between.{AreSessions, AreThere}
use Rattle.im_play.specs.Requests.{script_limits}
use Rattle.im_race.specs.declared.job.Job.{Job}
use Rattle.im_race.specs.declared.job.Player.TheVariants as player
use Rattle.im_race.specs.declared.lineup.Lineup.{Lineup}
use Rattle.im_race.specs.inner.Doing.{IsFrom, IsReady}
use Rattle.im_race.specs.Lines.{numbers_from, raced_of, sessions_in, speaks_in}
use Rattle.im_race.specs.Race.{FIRST_WORKER}
use Rattle.im_script.specs.declared.line.Line.{Line}
use Rattle.im_session.specs.Sessions.{Kept}
use Rattle.im_store.specs.Sides.{known_by, limits_of}
use Rattle.im_turn.specs.Passes.{PassState, new_pass}

-- a session, and not the background, speaks in one of these lines
abbrev pub is_asked : List Line → ℕ → Bool
is_asked lines who = nat_lt 0 who && list_any (speaks_in who) lines

-- the job of a session, with a pass that the first one splits off
abbrev pub job_of : PassState Entry → ℕ → Kept → Job
job_of first who session = record { who = who; pass = new_pass who first; player = player.Session session }

-- the job of a session, where it is asked
abbrev pub one_job : PassState Entry → List Line → ℕ → Kept → List Job
one_job first lines who session = if is_asked lines who then job_of first who session ∷ [] else []

-- the jobs of those of these sessions that are asked. They have rising numbers, from this one on
abbrev pub session_jobs : PassState Entry → List Line → ℕ → List Kept → List Job
session_jobs first lines who [] = []
session_jobs first lines who (session ∷ sessions) =
    if is_asked lines who
    then job_of first who session ∷ session_jobs first lines (suc who) sessions
    else session_jobs first lines (suc who) sessions

-- the job of a worker
abbrev pub worker_of : PassState Entry → ℕ → Job
worker_of first who = record { who = who; pass = new_pass who first; player = player.Worker }

-- the jobs of so many workers, of rising numbers from this one on
abbrev pub worker_jobs : PassState Entry → ℕ → ℕ → List Job
worker_jobs first who zero = []
worker_jobs first who (suc left) = worker_of first who ∷ worker_jobs first (suc who) left

-- what is known of the first pass of a store behind a prelude
pub record IsFirst (area : ℕ) (kept : List Kept) (base : History) (first : PassState Entry) : Type 0 where
  pub limits : limits_of first.fixed ≡ script_limits area
  pub there : AreThere first.seen
  pub lawful : IsLawful (limits_of first.fixed) first.seen
  pub agree : AreSessions 0 kept (known_by first 0)
  pub zeroth : first.who ≡ 0
  pub none : first.mine ≡ []
  pub from : first.base ≡ length first.seen
  pub seen : first.seen ≡ base

-- what holds of a job before it is done
pub record IsSetUp (area : ℕ) (kept : List Kept) (first : PassState Entry) (job : Job) : Type 0 where
  pub ready : IsReady area first.turn job
  pub split : job.pass ≡ new_pass job.who first
  pub from : IsFrom kept job.who job.player

-- all jobs, and what is known of them
pub record AreJobs (area workers : ℕ) (kept : List Kept) (lines : List Line) (first : PassState Entry) (jobs : List Job) : Type 0 where
  pub numbers : map (λ (job : Job). job.who) jobs ≡ sessions_in (raced_of lines) ++ numbers_from FIRST_WORKER workers
  pub set_up : All (IsSetUp area kept first) jobs

-- a race is set up: the first pass was made so, and all jobs have passes that it split off
pub record IsLineup (area workers : ℕ) (kept : List Kept) (base : History) (lines : List Line) (lineup : Lineup) : Type 0 where
  pub made : PassState Entry
  pub is_first : IsFirst area kept base made
  pub turn_is : made.turn ≡ lineup.store.id
  pub pass : lineup.first ≡ record made { gave = map (λ (job : Job). job.who) lineup.jobs.items }
  pub idle : lineup.first.holding ≡ false
  pub none_joined : lineup.first.olds ≡ []
  pub jobs : AreJobs area workers kept lines made lineup.jobs.items
  pub ready : All (IsReady area lineup.store.id) lineup.jobs.items
  pub count : lineup.sessions ≡ length (sessions_in (raced_of lines))
