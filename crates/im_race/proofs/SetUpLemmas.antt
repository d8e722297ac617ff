-- The jobs of a race may be done.
use Rattle.std.proofs.Common.{◌≡◌, ℕ, zero, suc, ◌+◌, ◌<◌, ◌≤◌, ◌==◌, ◌&&◌, nat_lt, Bool, true, false, if◌then◌else◌, All, List, [], ◌∷◌, ◌++◌, length, map, None, refl, sym, ap, ◌∙◌, arith, append-nil, append_assoc}
use Rattle.std.specs.Prelude.{filter, slice_index_or, Contains}
use Rattle.std.specs.List.{list_any}
use Rattle.std.proofs.lemmas.Bool.Decides.{nat_tests}
use Rattle.std.proofs.lemmas.List.Elements.{All-cons, All-nil, All-push, All-weaker}
use Rattle.im_history.specs.declared.entry.Entry.{Entry}
use Rattle.im_history.specs.declared.limits.Limits.{Limits}
use Rattle.im_history.specs.History.{History}
use Rattle.im_history.specs.Legal.{IsLawful}
use Rattle.im_history.proofs.UnitLaws.{held-nil}
use Rattle.im_play.specs.Between.{AreSessions, AreThere}
use Rattle.im_play.specs.Requests.{script_limits}
use Rattle.im_race.specs.declared.job.Job.{Job}
use Rattle.im_race.specs.inner.SettingUp.{IsSetUp, is_asked, job_of, one_job, session_jobs, worker_jobs, worker_of}
use Rattle.im_race.specs.Lines.{numbers_from, speaks_in}
use Rattle.im_reach.specs.Sides.{Known}
use Rattle.im_script.specs.declared.line.Line.{Line}
use Rattle.im_session.specs.Sessions.{Agrees, Kept, state_of}
use Rattle.im_session.proofs.ForCallers.{agrees-own}
use Rattle.im_statements.specs.Outcomes.{fresh}
use Rattle.im_store.specs.Sides.{known_by, limits_of}
use Rattle.im_turn.specs.Passes.{PassState, new_pass}
use Rattle.im_values.specs.declared.limits.TheConstants.{NUMBERS, SESSIONS}
use Rattle.im_worker.specs.Background.{builds_of}
use Rattle.im_worker.proofs.ForCallers.{agrees-behind}

-- ---- sessions and backgrounds agree with a history, whoever knows it

-- a session agrees with whatever is known of the same history
agrees-known : (session : Kept) (old new : Known) → new.log ≡ old.log → Agrees session old → Agrees session new
agrees-known session old new same =
    agrees-own (suc session.who) session old new
    (record { more = []; own = All-nil (λ (entry : Entry). entry.who ≡ suc session.who); log = same ∙ sym (append-nil old.log) })
    (let e : (suc session.who == session.who) ≡ false = grind (arith, nat_tests) in e)

pub sessions-known : (who : ℕ) (sessions : List Kept) (old new : Known) → new.log ≡ old.log → AreSessions who sessions old → AreSessions who sessions new
sessions-known who [] old new same are = tt
sessions-known who (session ∷ sessions) old new same are =
    (are.0, λ one. agrees-known session old new same (are.1 one), sessions-known (suc who) sessions old new same are.2)

-- a number that no entry has holds no build
pub no-builds : (who : ℕ) (limits : Limits) (log : History) → IsLawful limits log → All (λ (entry : Entry). entry.who ≤ SESSIONS) log → SESSIONS < who
    → builds_of log who ≡ []
no-builds who limits log lawful numbered above =
    sym (agrees-behind (record { who = who; builds = [] }) (known []) (known log) log lawful refl
    (All-weaker (λ (entry : Entry). entry.who ≤ SESSIONS) (λ (entry : Entry). (entry.who == who) ≡ false)
    (λ entry within. grind (arith, nat_tests, within, above)) log numbered)
    (record { builds = rw held-nil refl; own = tt; ready = tt })).builds
  where
    known : History → Known
    known h = record { side = record { alone = false; number = None; frame = None }; limits = limits; log = h; misses = 0 }

-- ---- one job after the other

cons-or-not : (b : Bool) (job : Job) (jobs more : List Job)
    → (if b then job ∷ (jobs ++ more) else (jobs ++ more)) ≡ (if b then job ∷ jobs else jobs) ++ more
cons-or-not true job jobs more = refl
cons-or-not false job jobs more = refl

pub jobs-push : (first : PassState Entry) (lines : List Line) (who : ℕ) (sessions : List Kept) (session : Kept)
    → session_jobs first lines who (sessions ++ session ∷ [])
    ≡ session_jobs first lines who sessions ++ one_job first lines (who + length sessions) session
jobs-push first lines who [] session = ap (λ (n : ℕ). one_job first lines n session) (let e : who ≡ who + 0 = omega arith in e)
jobs-push first lines who (other ∷ sessions) session =
    ap (λ (jobs : List Job). if is_asked lines who then job_of first who other ∷ jobs else jobs)
    (jobs-push first lines (suc who) sessions session
    ∙ ap (λ (n : ℕ). session_jobs first lines (suc who) sessions ++ one_job first lines n session)
    (let e : suc who + length sessions ≡ who + suc (length sessions) = omega arith in e))
    ∙ cons-or-not (is_asked lines who) (job_of first who other) (session_jobs first lines (suc who) sessions)
    (one_job first lines (who + suc (length sessions)) session)

-- the job of one more session came behind those before
pub session-added : (first now : PassState Entry) (lines : List Line) (who : ℕ) (sessions : List Kept) (session : Kept) (before after : List Job)
    → before ≡ session_jobs first lines 0 sessions → now ≡ record first { gave = map (λ (job : Job). job.who) before }
    → after ≡ before ++ one_job now lines who session → who ≡ length sessions → after ≡ session_jobs first lines 0 (sessions ++ session ∷ [])
session-added first now lines who sessions session before after before_are now_is after_are who_is =
    after_are
    ∙ (ap (λ (p : PassState Entry). before ++ one_job p lines who session) now_is
    ∙ (ap (λ (l : List Job). l ++ one_job first lines who session) before_are
    ∙ (ap (λ (n : ℕ). session_jobs first lines 0 sessions ++ one_job first lines n session) (let e : who ≡ 0 + length sessions = omega (arith, who_is) in e)
    ∙ sym (jobs-push first lines 0 sessions session))))

-- ---- their numbers

number-or-not : (b : Bool) (job : Job) (jobs : List Job)
    → map (λ (j : Job). j.who) (if b then job ∷ jobs else jobs) ≡ (if b then job.who ∷ map (λ (j : Job). j.who) jobs else map (λ (j : Job). j.who) jobs)
number-or-not true job jobs = refl
number-or-not false job jobs = refl

pub session-numbers : (first : PassState Entry) (lines : List Line) (who : ℕ) (sessions : List Kept)
    → map (λ (job : Job). job.who) (session_jobs first lines who sessions) ≡ filter (is_asked lines) (numbers_from who (length sessions))
session-numbers first lines who [] = refl
session-numbers first lines who (session ∷ sessions) =
    number-or-not (is_asked lines who) (job_of first who session) (session_jobs first lines (suc who) sessions)
    ∙ ap (λ (numbers : List ℕ). if is_asked lines who then who ∷ numbers else numbers) (session-numbers first lines (suc who) sessions)

pub worker-numbers : (first : PassState Entry) (who count : ℕ) → map (λ (job : Job). job.who) (worker_jobs first who count) ≡ numbers_from who count
worker-numbers first who zero = refl
worker-numbers first who (suc left) = ap (λ (numbers : List ℕ). who ∷ numbers) (worker-numbers first (suc who) left)

-- one worker more
workers-push : (first : PassState Entry) (who count : ℕ)
    → worker_jobs first who (suc count) ≡ worker_jobs first who count ++ worker_of first (who + count) ∷ []
workers-push first who zero = ap (λ (n : ℕ). worker_of first n ∷ []) (let e : who ≡ who + 0 = omega arith in e)
workers-push first who (suc count) =
    ap (λ (jobs : List Job). worker_of first who ∷ jobs)
    (workers-push first (suc who) count
    ∙ ap (λ (n : ℕ). worker_jobs first (suc who) count ++ worker_of first n ∷ []) (let e : suc who + count ≡ who + suc count = omega arith in e))

pub worker-added : (first now : PassState Entry) (who count next : ℕ) (start before after : List Job) → before ≡ start ++ worker_jobs first who count
    → now ≡ record first { gave = map (λ (job : Job). job.who) before } → after ≡ before ++ worker_of now (who + count) ∷ [] → next ≡ count + 1
    → after ≡ start ++ worker_jobs first who next
worker-added first now who count next start before after before_are now_is after_are next_is =
    after_are
    ∙ (ap (λ (p : PassState Entry). before ++ worker_of p (who + count) ∷ []) now_is
    ∙ (ap (λ (l : List Job). l ++ worker_of first (who + count) ∷ []) before_are
    ∙ (append_assoc start (worker_jobs first who count) (worker_of first (who + count) ∷ [])
    ∙ (ap (λ (l : List Job). start ++ l) (sym (workers-push first who count))
    ∙ ap (λ (n : ℕ). start ++ worker_jobs first who n) (let e : suc count ≡ next = omega (arith, next_is) in e)))))

-- the first pass gave the numbers of the jobs
pub pass-added : (first now new : PassState Entry) (before after : List Job) → now ≡ record first { gave = map (λ (job : Job). job.who) before }
    → new ≡ record now { gave = map (λ (job : Job). job.who) after } → new ≡ record first { gave = map (λ (job : Job). job.who) after }
pass-added first now new before after now_is new_is =
    new_is ∙ ap (λ (p : PassState Entry). record p { gave = map (λ (job : Job). job.who) after }) now_is

-- ---- numbers that were given

-- a number above those that were given was not given
pub not-given : (gave : List ℕ) (who : ℕ) → All (λ n. n < who) gave → ¬ Contains gave who
not-given gave who below given =
    let under : slice_index_or gave given.0 who < who = below given.0 who given.1 in
    let same = given.2 in absurd (omega (arith, under, same))

-- and then it is below the next one
pub given-more : (gave : List ℕ) (who next : ℕ) → All (λ n. n < who) gave → next ≡ who + 1 → All (λ n. n < next) (gave ++ who ∷ [])
given-more gave who next below is =
    All-push (λ n. n < next) gave who (All-weaker (λ n. n < who) (λ n. n < next) (λ n under. omega (arith, under, is)) gave below) (omega (arith, is))

pub given-less : (gave : List ℕ) (who next : ℕ) → All (λ n. n < who) gave → who ≤ next → All (λ n. n < next) gave
given-less gave who next below most = All-weaker (λ n. n < who) (λ n. n < next) (λ n under. omega (arith, under, most)) gave below

-- what the first pass gave is no part of the passes that it splits off
pub workers-same : (first : PassState Entry) (gave : List ℕ) (who count : ℕ)
    → worker_jobs (record first { gave = gave }) who count ≡ worker_jobs first who count
workers-same first gave who zero = refl
workers-same first gave who (suc left) =
    ap (λ (jobs : List Job). worker_of first who ∷ jobs) (workers-same first gave (suc who) left)

-- ---- they may be done

module _ (area : ℕ) (kept : List Kept) (first : PassState Entry) (limits : limits_of first.fixed ≡ script_limits area) (there : AreThere first.seen) where
  session-set_up : (who : ℕ) (session : Kept) → 1 ≤ who → who ≤ SESSIONS → session.who ≡ who → Agrees session (known_by first 0)
      → state_of session.cursors ≡ slice_index_or (map (λ (s : Kept). state_of s.cursors) kept) who fresh
      → IsSetUp area kept first (job_of first who session)
  session-set_up who session one within number agrees state = record {
    ready = record {
      number = omega (arith, within);
      turn_is = refl;
      idle = refl;
      who = refl;
      limits = limits;
      may = (one, within, number, there.stay who);
      agrees = agrees-known session (known_by first 0) (known_by (new_pass who first) 0) refl agrees;
    };
    split = refl;
    from = state;
  }

  one-or-not : (lines : List Line) (who : ℕ) (session : Kept) (jobs : List Job) → who ≤ SESSIONS → session.who ≡ who
      → (1 ≤ who → Agrees session (known_by first 0))
      → state_of session.cursors ≡ slice_index_or (map (λ (s : Kept). state_of s.cursors) kept) who fresh
      → All (IsSetUp area kept first) jobs → (positive asked : Bool) → (positive ≡ true → 1 ≤ who)
      → All (IsSetUp area kept first) (if positive && asked then job_of first who session ∷ jobs else jobs)
  one-or-not lines who session jobs within number agrees state all true true one =
      All-cons (IsSetUp area kept first) (job_of first who session) jobs (session-set_up who session (one refl) within number (agrees (one refl)) state) all
  one-or-not lines who session jobs within number agrees state all true false one = all
  one-or-not lines who session jobs within number agrees state all false asked one = all

  pub sessions-set_up : (lines : List Line) (who : ℕ) (sessions : List Kept) → AreSessions who sessions (known_by first 0)
      → who + length sessions ≤ SESSIONS + 1
      → ((k : ℕ) → slice_index_or (map (λ (s : Kept). state_of s.cursors) kept) (who + k) fresh
      ≡ slice_index_or (map (λ (s : Kept). state_of s.cursors) sessions) k fresh)
      → All (IsSetUp area kept first) (session_jobs first lines who sessions)
  sessions-set_up lines who [] are within states = All-nil (IsSetUp area kept first)
  sessions-set_up lines who (session ∷ sessions) are within states =
      one-or-not lines who session (session_jobs first lines (suc who) sessions) (omega (arith, within)) are.0 are.1
      (sym (states 0) ∙ ap (λ (n : ℕ). slice_index_or (map (λ (s : Kept). state_of s.cursors) kept) n fresh) (let e : who + 0 ≡ who = omega arith in e))
      (sessions-set_up lines (suc who) sessions are.2 (omega (arith, within))
      (λ k. ap (λ (n : ℕ). slice_index_or (map (λ (s : Kept). state_of s.cursors) kept) n fresh) (let e : suc who + k ≡ who + suc k = omega arith in e)
      ∙ states (suc k)))
      (nat_lt 0 who) (list_any (speaks_in who) lines) (λ is. let e : 1 ≤ who = grind (arith, nat_tests, is) in e)

  pub workers-set_up : (lawful : IsLawful (limits_of first.fixed) first.seen) (who count : ℕ) → SESSIONS < who → who + count ≤ NUMBERS
      → All (IsSetUp area kept first) (worker_jobs first who count)
  workers-set_up lawful who zero above within = All-nil (IsSetUp area kept first)
  workers-set_up lawful who (suc left) above within =
      All-cons (IsSetUp area kept first) (worker_of first who) (worker_jobs first (suc who) left)
      (record {
        ready = record {
          number = omega (arith, within);
          turn_is = refl;
          idle = refl;
          who = refl;
          limits = limits;
          may = no-builds who (limits_of first.fixed) first.seen lawful there.numbered above;
          agrees = tt;
        };
        split = refl;
        from = above;
      })
      (workers-set_up lawful (suc who) left (omega (arith, above)) (omega (arith, within)))
