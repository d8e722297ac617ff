-- What sessions and workers do beside each other, from the setting up of their jobs to the closing of the store.
use Rattle.std.proofs.Common.{◌≡◌, ℕ, zero, suc, ◌+◌, ◌≤◌, ◌&&◌, ◌||◌, nat_le, nat_lt, Bool, true, false, if◌then◌else◌, All, List, [], ◌∷◌, ◌++◌, length, map, refl, sym, ap, ◌∙◌, subst, arith}
use mathlib.Core.Logic.{dite}
use native.Mathlib.Decide.{ℕ_discrete}
use Rattle.std.specs.Prelude.{filter, fold, slice_index_or, Contains}
use Rattle.std.specs.List.{list_any}
use Rattle.std.proofs.lemmas.Bool.Decides.{nat_tests}
use Rattle.std.proofs.lemmas.List.{length-map, map-append}
use Rattle.std.proofs.lemmas.List.Elements.{All-append, All-cons, All-head, All-nil, All-tail, All-weaker}
use Rattle.im_history.specs.declared.entry.Entry.{Entry}
use Rattle.im_history.specs.declared.limits.Limits.{Limits}
use Rattle.im_history.specs.History.{History}
use Rattle.im_history.specs.Legal.{IsLawful}
use Rattle.im_plan.specs.Goes.{After}
use Rattle.im_play.specs.Between.{AreSessions, AreThere}
use Rattle.im_play.specs.Requests.{script_limits}
use Rattle.im_race.specs.declared.job.Done.{Done}
use Rattle.im_race.specs.declared.job.Job.{Job}
use Rattle.im_race.specs.declared.job.JobOutcome.{JobOutcome}
use Rattle.im_race.specs.declared.job.JobOutcome.TheVariants as outcome
use Rattle.im_race.specs.declared.job.Player.{Player}
use Rattle.im_race.specs.declared.job.Player.TheVariants as player
use Rattle.im_race.specs.inner.Answering.{IsOfSession, answers_by, ends_after, is_whole, no_replies, replies_after, shown}
use Rattle.im_race.specs.inner.Closing.{IsBeside, IsClosed}
use Rattle.im_race.specs.inner.Doing.{AreDone, CameOf, HasEnded, IsFrom, IsReady, MayBegin}
use Rattle.im_race.specs.inner.SettingUp.{AreJobs, IsFirst, IsSetUp, is_asked, session_jobs, worker_jobs}
use Rattle.im_race.specs.Jobs.{Answer, HasPlayed}
use Rattle.im_race.specs.Lines.{has_job, names, numbers_from, raced_of, sessions_in, speaks_in}
use Rattle.im_race.specs.Race.{AreWorkers, FIRST_WORKER, takes_part}
use Rattle.im_race.specs.Report.{Report}
use Rattle.im_race.proofs.AnswersLemmas.{answers-lines, answers-told, session-played}
use Rattle.im_race.proofs.ClosingLemmas.{all-take_part, all-unmap}
use Rattle.im_race.proofs.FinishLemmas.{AreEnds, IsFinished, ends-in_order, finish-all, kept_by}
use Rattle.im_race.proofs.LinesLemmas.{IsSession, has_job-raced, has_job-session, sessions-have_jobs}
use Rattle.im_race.proofs.OutcomesLemmas.{HasCome, length-replies, session-replies}
use Rattle.im_race.proofs.SetUpLemmas.{session-numbers, sessions-known, sessions-set_up, worker-numbers, workers-same, workers-set_up}
use Rattle.im_reach.specs.Sides.{Known}
use Rattle.im_replies.specs.declared.reply.Reply.{Reply}
use Rattle.im_script.specs.declared.line.Line.{Line}
use Rattle.im_script.specs.Lines.{NamesOneOf16}
use Rattle.im_session.specs.Sessions.{Kept, state_of}
use Rattle.im_statements.specs.Outcomes.{fresh}
use Rattle.im_store.specs.Sides.{fixed_of, known_by, limits_of, who_of}
use Rattle.im_turn.specs.Logs.{Begins, entries_of, entries_since}
use Rattle.im_turn.specs.Passes.{PassState, first_pass, new_pass}
use Rattle.im_turn.specs.Turns.{TurnId}
use Rattle.im_turn.proofs.LogLemmas.{added_since}
use Rattle.im_values.specs.declared.limits.TheConstants.{SESSIONS, WORKERS}
use Rattle.im_worker.specs.declared.work.Ended.{Ended}

-- ---- the first pass

pub is-first : (area : ℕ) (kept : List Kept) (old : Known) (limits : Limits) (log : History) (turn : TurnId) (first : PassState Entry) → old.limits ≡ limits
    → old.log ≡ log → old.limits ≡ script_limits area → AreSessions 0 kept old → AreThere old.log → IsLawful limits log
    → first ≡ first_pass turn log (fixed_of limits) → IsFirst area kept old.log first
is-first area kept old limits log turn first limits_are log_is scripts agree there lawful first_is =
    subst (IsFirst area kept old.log) (sym first_is)
    (record {
      limits = sym limits_are ∙ scripts;
      there = subst AreThere log_is there;
      lawful = lawful;
      agree = sessions-known 0 kept old (known_by (first_pass turn log (fixed_of limits)) 0) (sym log_is) agree;
      zeroth = refl;
      none = refl;
      from = refl;
      seen = sym log_is;
    })

-- ---- the numbers of the jobs

asked-same : (lines : List Line) (who : ℕ) → 1 ≤ who → is_asked lines who ≡ has_job (raced_of lines) who
asked-same lines who one =
    ap (λ (b : Bool). b && list_any (speaks_in who) lines) (let e : nat_lt 0 who ≡ true = grind (arith, nat_tests, one) in e)
    ∙ sym (has_job-raced lines who one)

filter-same : (lines : List Line) (first count : ℕ) → 1 ≤ first
    → filter (is_asked lines) (numbers_from first count) ≡ filter (has_job (raced_of lines)) (numbers_from first count)
filter-same lines first zero one = refl
filter-same lines first (suc count) one =
    ap (λ (b : Bool). if b then first ∷ filter (is_asked lines) (numbers_from (suc first) count) else filter (is_asked lines) (numbers_from (suc first) count))
    (asked-same lines first one)
    ∙ ap (λ (numbers : List ℕ). if has_job (raced_of lines) first then first ∷ numbers else numbers) (filter-same lines (suc first) count (omega arith))

pub numbers-of_sessions : (first : PassState Entry) (lines : List Line) (kept : List Kept) → length kept ≡ SESSIONS + 1
    → map (λ (job : Job). job.who) (session_jobs first lines 0 kept) ≡ sessions_in (raced_of lines)
numbers-of_sessions first lines kept count =
    session-numbers first lines 0 kept
    ∙ (ap (λ (n : ℕ). filter (is_asked lines) (numbers_from 0 n)) count ∙ filter-same lines 1 SESSIONS (omega arith))

pub are-jobs : (area workers : ℕ) (kept : List Kept) (lines : List Line) (first one : PassState Entry) (some all : List Job)
    → limits_of first.fixed ≡ script_limits area → AreThere first.seen → IsLawful (limits_of first.fixed) first.seen
    → AreSessions 0 kept (known_by first 0) → length kept ≡ SESSIONS + 1 → workers ≤ WORKERS
    → some ≡ session_jobs first lines 0 kept → one ≡ record first { gave = map (λ (job : Job). job.who) some }
    → all ≡ some ++ worker_jobs one FIRST_WORKER workers → AreJobs area workers kept lines first all
are-jobs area workers kept lines first one some all limits there lawful agree count few some_are one_is all_are = record {
  numbers =
      ap (map (λ (job : Job). job.who)) whole
      ∙ (map-append (λ (job : Job). job.who) (session_jobs first lines 0 kept) (worker_jobs first FIRST_WORKER workers)
      ∙ (ap (λ (l : List ℕ). l ++ map (λ (job : Job). job.who) (worker_jobs first FIRST_WORKER workers)) (numbers-of_sessions first lines kept count)
      ∙ ap (λ (l : List ℕ). sessions_in (raced_of lines) ++ l) (worker-numbers first FIRST_WORKER workers)));
  set_up =
      subst (All (IsSetUp area kept first)) (sym whole)
      (All-append (IsSetUp area kept first) (session_jobs first lines 0 kept) (worker_jobs first FIRST_WORKER workers)
      (sessions-set_up area kept first limits there lines 0 kept agree (omega (arith, count)) (λ k.
      ap (λ (n : ℕ). slice_index_or (map (λ (s : Kept). state_of s.cursors) kept) n fresh) (let e : 0 + k ≡ k = omega arith in e)))
      (workers-set_up area kept first limits there lawful FIRST_WORKER workers (omega arith) (omega (arith, few))));
}
  where
    whole : all ≡ session_jobs first lines 0 kept ++ worker_jobs first FIRST_WORKER workers
    whole =
        all_are
        ∙ (ap (λ (l : List Job). l ++ worker_jobs one FIRST_WORKER workers) some_are
        ∙ ap (λ (l : List Job). session_jobs first lines 0 kept ++ l)
        (ap (λ (p : PassState Entry). worker_jobs p FIRST_WORKER workers) one_is
        ∙ workers-same first (map (λ (job : Job). job.who) some) FIRST_WORKER workers))

pub jobs-ready : (area : ℕ) (kept : List Kept) (first : PassState Entry) (turn : TurnId) (jobs : List Job) → first.turn ≡ turn
    → All (IsSetUp area kept first) jobs → All (IsReady area turn) jobs
jobs-ready area kept first turn jobs same =
    All-weaker (IsSetUp area kept first) (IsReady area turn) (λ job set_up. subst (λ (t : TurnId). IsReady area t job) same set_up.ready) jobs

-- few sessions have a job
filter-few : (p : ℕ → Bool) (numbers : List ℕ) → length (filter p numbers) ≤ length numbers
filter-few p [] = omega arith
filter-few p (n ∷ numbers) = go (p n) (filter-few p numbers)
  where
    go : (b : Bool) → length (filter p numbers) ≤ length numbers → length (if b then n ∷ filter p numbers else filter p numbers) ≤ suc (length numbers)
    go true few = omega (arith, few)
    go false few = omega (arith, few)

pub few-sessions : (first : PassState Entry) (lines : List Line) (kept : List Kept) (jobs : List Job) → length kept ≡ SESSIONS + 1
    → jobs ≡ session_jobs first lines 0 kept → (length jobs ≡ length (sessions_in (raced_of lines))) × (length jobs ≤ SESSIONS)
few-sessions first lines kept jobs count are =
    let same : length jobs ≡ length (sessions_in (raced_of lines)) =
    ap length are
    ∙ (sym (length-map (session_jobs first lines 0 kept) (λ (job : Job). job.who)) ∙ ap length (numbers-of_sessions first lines kept count)) in
    let few : length (sessions_in (raced_of lines)) ≤ SESSIONS = filter-few (has_job (raced_of lines)) (numbers_from 1 SESSIONS) in
    (same, omega (arith, same, few))

-- ---- the jobs once they are done

-- what is known of the pass of a job that was done
record IsBack (turn : TurnId) (pass : PassState Entry) : Type 0 where
  pub turn_is : pass.turn ≡ turn
  pub idle : pass.holding ≡ false

module _ (area turns sessions : ℕ) (lines : List Line) where
  of-session : (base : History) (who : ℕ) (p : Player) (o : JobOutcome) (new : History) → MayBegin base who p
      → CameOf area turns sessions lines who p base o new → IsOfSession who o
  of-session base who (player.Session session) (outcome.Replies replies) new may came = may.1
  of-session base who (player.Session session) (outcome.Ended ended) new may came = tt
  of-session base who (player.Session session) outcome.NoMemory new may came = tt
  of-session base who player.Worker (outcome.Replies replies) new may came = absurd came
  of-session base who player.Worker (outcome.Ended ended) new may came = tt
  of-session base who player.Worker outcome.NoMemory new may came = tt

  -- the replies that came are those of sessions
  pub of-sessions : (turn : TurnId) (jobs : List Job) (dones : List Done) → All (IsReady area turn) jobs → AreDone area turns sessions lines jobs dones
      → All (λ (done : Done). IsOfSession done.who done.outcome) dones
  of-sessions turn [] [] ready are = All-nil (λ (done : Done). IsOfSession done.who done.outcome)
  of-sessions turn [] (done ∷ dones) ready are = absurd are
  of-sessions turn (job ∷ jobs) [] ready are = absurd are
  of-sessions turn (job ∷ jobs) (done ∷ dones) ready are =
      All-cons (λ (d : Done). IsOfSession d.who d.outcome) done dones
      (subst (λ (n : ℕ). IsOfSession n done.outcome) (sym are.0.who)
      (of-session job.pass.seen job.who job.player done.outcome done.pass.seen (All-head (IsReady area turn) job jobs ready).may are.0.came))
      (of-sessions turn jobs dones (All-tail (IsReady area turn) job jobs ready) are.1)

  passes-back : (turn : TurnId) (jobs : List Job) (dones : List Done) → All (IsReady area turn) jobs → AreDone area turns sessions lines jobs dones
      → All (IsBack turn) (map (λ (done : Done). done.pass) dones)
  passes-back turn [] [] ready are = All-nil (IsBack turn)
  passes-back turn [] (done ∷ dones) ready are = absurd are
  passes-back turn (job ∷ jobs) [] ready are = absurd are
  passes-back turn (job ∷ jobs) (done ∷ dones) ready are =
      let set = All-head (IsReady area turn) job jobs ready in
      All-cons (IsBack turn) done.pass (map (λ (d : Done). d.pass) dones)
      (record {
        turn_is = ap (λ (p : PassState Entry). p.turn) are.0.pass ∙ set.turn_is;
        idle = ap (λ (p : PassState Entry). p.holding) are.0.pass ∙ set.idle;
      })
      (passes-back turn jobs dones (All-tail (IsReady area turn) job jobs ready) are.1)

  -- the passes of jobs that were done are of this turn, and free
  pub passes-free : (turn : TurnId) (jobs : List Job) (dones : List Done) (passes : List (PassState Entry)) → All (IsReady area turn) jobs
      → AreDone area turns sessions lines jobs dones → passes ≡ map (λ (done : Done). done.pass) dones
      → All (λ (pass : PassState Entry). pass.turn ≡ turn) passes × All (λ (pass : PassState Entry). pass.holding ≡ false) passes
  passes-free turn jobs dones passes ready are same =
      let back : All (IsBack turn) passes = subst (All (IsBack turn)) (sym same) (passes-back turn jobs dones ready are) in (
        All-weaker (IsBack turn) (λ (pass : PassState Entry). pass.turn ≡ turn) (λ pass is. is.turn_is) passes back,
        All-weaker (IsBack turn) (λ (pass : PassState Entry). pass.holding ≡ false) (λ pass is. is.idle) passes back,
      )

  pub numbers-back : (turn : TurnId) (jobs : List Job) (dones : List Done) → All (IsReady area turn) jobs → AreDone area turns sessions lines jobs dones
      → map (λ (pass : PassState Entry). pass.who) (map (λ (done : Done). done.pass) dones) ≡ map (λ (job : Job). job.who) jobs
  numbers-back turn [] [] ready are = refl
  numbers-back turn [] (done ∷ dones) ready are = absurd are
  numbers-back turn (job ∷ jobs) [] ready are = absurd are
  numbers-back turn (job ∷ jobs) (done ∷ dones) ready are =
      ap (λ (n : ℕ). n ∷ map (λ (pass : PassState Entry). pass.who) (map (λ (d : Done). d.pass) dones))
      (ap (λ (p : PassState Entry). p.who) are.0.pass ∙ (All-head (IsReady area turn) job jobs ready).who)
      ∙ ap (λ (numbers : List ℕ). job.who ∷ numbers) (numbers-back turn jobs dones (All-tail (IsReady area turn) job jobs ready) are.1)

  pub numbers-done : (jobs : List Job) (dones : List Done) → AreDone area turns sessions lines jobs dones
      → map (λ (done : Done). done.who) dones ≡ map (λ (job : Job). job.who) jobs
  numbers-done [] [] are = refl
  numbers-done [] (done ∷ dones) are = absurd are
  numbers-done (job ∷ jobs) [] are = absurd are
  numbers-done (job ∷ jobs) (done ∷ dones) are =
      ap (λ (n : ℕ). n ∷ map (λ (d : Done). d.who) dones) are.0.who
      ∙ ap (λ (numbers : List ℕ). job.who ∷ numbers) (numbers-done jobs dones are.1)

pub no_replies-length : (count : ℕ) → length (no_replies count) ≡ count
no_replies-length zero = refl
no_replies-length (suc count) = ap suc (no_replies-length count)

-- ---- those who take part

numbers-part : (lines : List Line) (workers first count : ℕ) → FIRST_WORKER ≤ first → first + count ≤ FIRST_WORKER + workers
    → All (λ n. takes_part lines workers n ≡ true) (numbers_from first count)
numbers-part lines workers first zero above within = All-nil (λ n. takes_part lines workers n ≡ true)
numbers-part lines workers first (suc count) above within =
    All-cons (λ n. takes_part lines workers n ≡ true) first (numbers_from (suc first) count)
    (or-right (has_job lines first) _ (both-true _ _ (let e : nat_le FIRST_WORKER first ≡ true = grind (arith, nat_tests, above) in e)
    (let e : nat_lt first (FIRST_WORKER + workers) ≡ true = grind (arith, nat_tests, within) in e)))
    (numbers-part lines workers (suc first) count (omega (arith, above)) (omega (arith, within)))
  where
    or-right : (a b : Bool) → b ≡ true → (a || b) ≡ true
    or-right true b is = refl
    or-right false b is = is

    both-true : (a b : Bool) → a ≡ true → b ≡ true → (a && b) ≡ true
    both-true true b is_a is_b = is_b
    both-true false b is_a is_b = is_a

all-part : (lines : List Line) (workers : ℕ) → All (λ n. takes_part lines workers n ≡ true) (sessions_in lines ++ numbers_from FIRST_WORKER workers)
all-part lines workers =
    All-append (λ n. takes_part lines workers n ≡ true) (sessions_in lines) (numbers_from FIRST_WORKER workers)
    (All-weaker (IsSession lines) (λ n. takes_part lines workers n ≡ true)
    (λ n session. ap (λ (b : Bool). b || (nat_le FIRST_WORKER n && nat_lt n (FIRST_WORKER + workers))) session.job) (sessions_in lines)
    (sessions-have_jobs lines))
    (numbers-part lines workers FIRST_WORKER workers (omega arith) (omega arith))

-- whoever takes no part is not among them
not-among : (lines : List Line) (workers n : ℕ) (numbers : List ℕ) → All (λ m. takes_part lines workers m ≡ true) numbers → takes_part lines workers n ≡ false
    → ¬ Contains numbers n
not-among lines workers n numbers all apart there =
    let part : takes_part lines workers (slice_index_or numbers there.0 n) ≡ true = all there.0 n there.1 in
    let same : takes_part lines workers n ≡ true = subst (λ (m : ℕ). takes_part lines workers m ≡ true) there.2 part in
    let both : false ≡ true = sym apart ∙ same in
    absurd cc

-- ---- all of it

come : (area turns sessions : ℕ) (kept : List Kept) (lines : List Line) (base log : History) (who : ℕ) (o : JobOutcome)
    → IsFinished area turns sessions kept lines base log who o
    → HasCome (λ n replies. HasEnded area n (kept_by area turns sessions kept lines base log n) base lines replies log) who o
come area turns sessions kept lines base log who (outcome.Replies replies) finished = finished.2
come area turns sessions kept lines base log who (outcome.Ended ended) finished = finished.0
come area turns sessions kept lines base log who outcome.NoMemory finished = absurd finished

module _ (area turns workers sessions : ℕ) (kept : List Kept) (lines : List Line) (first : PassState Entry)
    (jobs : List Job) (dones : List Done) (log : History)
    (named : All NamesOneOf16 lines) (are : AreJobs area workers kept lines first jobs) (zeroth : first.who ≡ 0) (none : first.mine ≡ [])
    (from : first.base ≡ length first.seen) (limits : limits_of first.fixed ≡ script_limits area)
    (count : sessions ≡ length (sessions_in (raced_of lines))) (done : AreDone area turns sessions lines jobs dones)
    (whole : All (λ (d : Done). is_whole d.outcome ≡ true) dones)
    (closed : IsClosed (record first { gave = map (λ (job : Job). job.who) jobs }) (map (λ (d : Done). d.pass) dones) log) where
  abbrev pub replies : List (List Reply)
  replies = fold replies_after (no_replies (SESSIONS + 1)) dones

  numbers : map (λ (d : Done). d.who) dones ≡ sessions_in (raced_of lines) ++ numbers_from FIRST_WORKER workers
  numbers = numbers-done area turns sessions lines jobs dones done ∙ are.numbers

  finished : All (λ (d : Done). IsFinished area turns sessions kept lines first.seen log d.who d.outcome) dones
  finished =
      finish-all area turns sessions kept lines first.seen log first.turn first refl jobs dones
      (All-weaker (IsSetUp area kept first) (IsReady area first.turn) (λ job set_up. set_up.ready) jobs are.set_up)
      (All-weaker (IsSetUp area kept first) (λ (job : Job). job.pass ≡ new_pass job.who first) (λ job set_up. set_up.split) jobs are.set_up)
      (All-weaker (IsSetUp area kept first) (λ (job : Job). IsFrom kept job.who job.player) (λ job set_up. set_up.from) jobs are.set_up) done
      (all-unmap (λ (p : PassState Entry). Begins p.seen log) (λ (d : Done). d.pass) dones closed.each_begins)
      (all-unmap (λ (p : PassState Entry). entries_since who_of p.who first.base log ≡ p.mine) (λ (d : Done). d.pass) dones closed.each_own) whole

  none-of : (n : ℕ) → takes_part (raced_of lines) workers n ≡ false → entries_since who_of n first.base log ≡ []
  none-of n apart =
      dite (ℕ_discrete n first.who) (λ is. ap (λ (m : ℕ). entries_since who_of m first.base log) is ∙ (closed.own ∙ none))
      (λ ne. closed.others n ne
      (subst (λ (ns : List ℕ). ¬ Contains ns n)
      (sym (numbers-back area turns sessions lines first.turn jobs dones
      (All-weaker (IsSetUp area kept first) (IsReady area first.turn) (λ job set_up. set_up.ready) jobs are.set_up) done ∙ are.numbers))
      (not-among (raced_of lines) workers n (sessions_in (raced_of lines) ++ numbers_from FIRST_WORKER workers) (all-part (raced_of lines) workers) apart)))

  grew : After (All (λ (entry : Entry). takes_part (raced_of lines) workers entry.who ≡ true)) first.seen log
  grew = record {
    between = closed.begins.rest;
    lawful =
        all-take_part (takes_part (raced_of lines) workers) closed.begins.rest (λ n apart.
        ap (entries_of who_of n) (sym (added_since first.seen log closed.begins.rest closed.begins.is))
        ∙ (ap (λ (b : ℕ). entries_since who_of n b log) (sym from) ∙ none-of n apart));
    log = closed.begins.is;
  }

  played : (who : ℕ) → has_job (raced_of lines) who ≡ true
      → HasPlayed area who (kept_by area turns sessions kept lines first.seen log who) first.seen
      (filter (λ (answer : Answer). names who answer.line.who) (answers_by replies (raced_of lines))) log
  played who job =
      let bounds = has_job-session lines who named job in
      let most : who ≤ SESSIONS = bounds.1 in
      let long : length replies ≡ SESSIONS + 1 = length-replies dones (no_replies (SESSIONS + 1)) ∙ no_replies-length (SESSIONS + 1) in
      session-played area who (kept_by area turns sessions kept lines first.seen log who) first.seen log lines replies bounds.0 (omega (arith, most, long))
      (session-replies
      (λ n found. HasEnded area n (kept_by area turns sessions kept lines first.seen log n) first.seen lines found log) dones (raced_of lines) workers who
      numbers
      (All-weaker (λ (d : Done). IsFinished area turns sessions kept lines first.seen log d.who d.outcome)
      (λ (d : Done). HasCome (λ n found. HasEnded area n (kept_by area turns sessions kept lines first.seen log n) first.seen lines found log) d.who d.outcome)
      (λ d. come area turns sessions kept lines first.seen log d.who d.outcome) dones finished)
      bounds.0 most job)

  ends : AreEnds area turns sessions kept lines first.seen log FIRST_WORKER workers [] (fold ends_after [] dones)
  ends =
      ends-in_order area turns sessions kept lines first.seen log (sessions_in (raced_of lines)) FIRST_WORKER workers dones [] numbers
      (All-weaker (IsSession (raced_of lines)) (λ n. n ≤ SESSIONS) (λ n session. session.most) (sessions_in (raced_of lines))
      (sessions-have_jobs (raced_of lines)))
      (omega arith) finished

  -- what sessions and workers show once the store is closed
  pub beside : (report : Report) → report.history ≡ log → report.ends ≡ fold ends_after [] dones
      → report.answers ≡ map shown (answers_by replies (raced_of lines)) → IsBeside area workers turns kept first.seen lines report
  beside report history_is ends_are answers_are = record {
    grew =
        subst (After (All (λ (entry : Entry). takes_part (raced_of lines) workers entry.who ≡ true)) first.seen) (sym history_is) grew;
    lawful = subst (IsLawful (script_limits area)) (sym history_is) (subst (λ (l : Limits). IsLawful l log) limits closed.lawful);
    answers = answers_by replies (raced_of lines);
    shown = answers_are;
    answered = answers-lines replies (raced_of lines);
    told = answers-told area replies lines named;
    jobs = λ who job.
        subst (HasPlayed area who (kept_by area turns sessions kept lines first.seen log who) first.seen
        (filter (λ (answer : Answer). names who answer.line.who) (answers_by replies (raced_of lines)))) (sym history_is) (played who job);
    ended = ap length (ends_are ∙ ends.all_are) ∙ ends.count_is;
    did =
        subst (λ (h : History). AreWorkers (script_limits area) turns (length (sessions_in (raced_of lines))) FIRST_WORKER report.ends first.seen h)
        (sym history_is)
        (subst (λ (l : List Ended). AreWorkers (script_limits area) turns (length (sessions_in (raced_of lines))) FIRST_WORKER l first.seen log)
        (sym (ends_are ∙ ends.all_are))
        (subst (λ (n : ℕ). AreWorkers (script_limits area) turns n FIRST_WORKER ends.ends first.seen log) count ends.workers));
  }

-- the same, for what is at hand once all jobs are done
pub beside-all : (area turns workers sessions : ℕ) (kept : List Kept) (lines : List Line) (base : History) (first last : PassState Entry) (jobs : List Job)
    (dones : List Done) (passes : List (PassState Entry)) (given : List (List Reply)) (report : Report) → All NamesOneOf16 lines → IsFirst area kept base first
    → AreJobs area workers kept lines first jobs → sessions ≡ length (sessions_in (raced_of lines)) → AreDone area turns sessions lines jobs dones
    → All (λ (d : Done). is_whole d.outcome ≡ true) dones → last ≡ record first { gave = map (λ (job : Job). job.who) jobs }
    → passes ≡ map (λ (d : Done). d.pass) dones → IsClosed last passes report.history → report.ends ≡ fold ends_after [] dones
    → given ≡ fold replies_after (no_replies (SESSIONS + 1)) dones → report.answers ≡ map shown (answers_by given (raced_of lines))
    → IsBeside area workers turns kept base lines report
beside-all area turns workers sessions kept lines base first last jobs dones passes given report named is_first are count done whole last_is passes_are closed
    ends_are given_are answers_are =
    subst (λ (h : History). IsBeside area workers turns kept h lines report) is_first.seen
    (beside area turns workers sessions kept lines first jobs dones report.history named are is_first.zeroth is_first.none is_first.from is_first.limits count
    done whole
    (subst (λ (p : PassState Entry). IsClosed p (map (λ (d : Done). d.pass) dones) report.history) last_is
    (subst (λ (l : List (PassState Entry)). IsClosed last l report.history) passes_are closed))
    report refl ends_are
    (subst (λ (l : List (List Reply)). report.answers ≡ map shown (answers_by l (raced_of lines))) given_are answers_are))
