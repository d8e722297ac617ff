-- What came of jobs, as far as those who did them knew the history, holds of the whole one.
use Rattle.std.proofs.Common.{◌≡◌, ℕ, zero, suc, ◌<◌, ◌≤◌, ◌==◌, true, All, List, [], ◌∷◌, ◌++◌, length, map, refl, sym, ap, ◌∙◌, subst, arith, append_assoc, append-nil}
use Rattle.std.specs.Prelude.{fold, slice_index_or}
use Rattle.std.proofs.lemmas.List.Elements.{All-cons, All-head, All-nil, All-tail}
use Rattle.im_history.specs.declared.entry.Entry.{Entry}
use Rattle.im_history.specs.History.{History}
use Rattle.im_plan.specs.Goes.{After}
use Rattle.im_plan.proofs.GoesLaws.{others-go_on}
use Rattle.im_play.specs.Requests.{script_limits}
use Rattle.im_race.specs.declared.job.Done.{Done}
use Rattle.im_race.specs.declared.job.Job.{Job}
use Rattle.im_race.specs.declared.job.JobOutcome.{JobOutcome}
use Rattle.im_race.specs.declared.job.JobOutcome.TheVariants as outcome
use Rattle.im_race.specs.declared.job.Player.{Player}
use Rattle.im_race.specs.declared.job.Player.TheVariants as player
use Rattle.im_race.specs.inner.Answering.{ends_after, is_whole, with_end}
use Rattle.im_race.specs.inner.Doing.{AreDone, CameOf, HasEnded, IsDone, IsFrom, IsReady, MayBegin}
use Rattle.im_race.specs.Jobs.{OthersThan, Worker}
use Rattle.im_race.specs.Lines.{numbers_from}
use Rattle.im_race.specs.Race.{AreWorkers}
use Rattle.im_race.proofs.ClosingLemmas.{others-behind}
use Rattle.im_race.proofs.JobLaws.{job-after}
use Rattle.im_replies.specs.declared.reply.Reply.{Reply}
use Rattle.im_script.specs.declared.line.Line.{Line}
use Rattle.im_session.specs.Sessions.{Kept, state_of}
use Rattle.im_statements.specs.Outcomes.{State, fresh}
use Rattle.im_store.specs.Sides.{who_of}
use Rattle.im_turn.specs.Logs.{Begins, entries_since}
use Rattle.im_turn.specs.Passes.{PassState, new_pass}
use Rattle.im_turn.specs.Turns.{TurnId}
use Rattle.im_values.specs.declared.limits.TheConstants.{SESSIONS}
use Rattle.im_worker.specs.declared.work.Ended.{Ended}
use Rattle.im_worker.proofs.WorkLaws.{worked-last}

module _ (area turns sessions : ℕ) (kept : List Kept) (behind : List Line) (base log : History) where
  -- what the session of a number kept behind the prelude
  abbrev pub kept_by : ℕ → State
  kept_by who = slice_index_or (map (λ (s : Kept). state_of s.cursors) kept) who fresh

  -- what came of the job of a number, over the whole history
  abbrev pub IsFinished : ℕ → JobOutcome → Type 0
  IsFinished who (outcome.Replies replies) = (1 ≤ who) × (who ≤ SESSIONS) × HasEnded area who (kept_by who) base behind replies log
  IsFinished who (outcome.Ended ended) = (SESSIONS < who) × Worker (script_limits area) turns sessions who base ended log
  IsFinished who outcome.NoMemory = ⊥

  ended-after : (who : ℕ) (session : Kept) (replies : List Reply) (seen : History) → state_of session.cursors ≡ kept_by who
      → HasEnded area who (state_of session.cursors) base behind replies seen → After (OthersThan who) seen log
      → HasEnded area who (kept_by who) base behind replies log
  ended-after who session replies seen from ended after =
      subst (λ (state : State). HasEnded area who state base behind replies log) from
      (record {
        answers = ended.answers;
        lines_are = ended.lines_are;
        replies_are = ended.replies_are;
        played = job-after area who (state_of session.cursors) base seen log ended.answers after ended.played;
      })

  worker-after : (who : ℕ) (ended : Ended) (seen : History) → Worker (script_limits area) turns sessions who base ended seen
      → After (OthersThan who) seen log → Worker (script_limits area) turns sessions who base ended log
  worker-after who ended seen worker after = record {
    rounds = worker.rounds;
    worked =
        worked-last (OthersThan who) (others-go_on (λ number. who == number)) (script_limits area) who worker.rounds base seen log worker.worked after;
    told = worker.told;
  }

  finish-cases : (who : ℕ) (p : Player) (o : JobOutcome) (seen : History) → MayBegin base who p → IsFrom kept who p
      → CameOf area turns sessions behind who p base o seen → After (OthersThan who) seen log → is_whole o ≡ true → IsFinished who o
  finish-cases who (player.Session session) (outcome.Replies replies) seen may from came after whole =
      (may.0, may.1, ended-after who session replies seen from came after)
  finish-cases who (player.Session session) (outcome.Ended ended) seen may from came after whole = absurd came
  finish-cases who (player.Session session) outcome.NoMemory seen may from came after whole = absurd cc
  finish-cases who player.Worker (outcome.Replies replies) seen may from came after whole = absurd came
  finish-cases who player.Worker (outcome.Ended ended) seen may from came after whole = (from, worker-after who ended seen came after)
  finish-cases who player.Worker outcome.NoMemory seen may from came after whole = absurd came

  module _ (turn : TurnId) (first : PassState Entry) (seen_is : first.seen ≡ base) where
    -- a job that was done, once the store is closed
    finish-one : (job : Job) (done : Done) → IsReady area turn job → job.pass ≡ new_pass job.who first → IsFrom kept job.who job.player
        → IsDone area turns sessions behind job done → Begins done.pass.seen log
        → entries_since who_of done.pass.who first.base log ≡ done.pass.mine → is_whole done.outcome ≡ true → IsFinished done.who done.outcome
    finish-one job done ready split from is_done begins own whole =
        subst (λ (n : ℕ). IsFinished n done.outcome) (sym is_done.who)
        (finish-cases job.who job.player done.outcome done.pass.seen
        (subst (λ (h : History). MayBegin h job.who job.player) sees ready.may) from
        (subst (λ (h : History). CameOf area turns sessions behind job.who job.player h done.outcome done.pass.seen) sees is_done.came)
        (others-behind job.who first.base done.pass log number from_base is_done.own begins own) whole)
      where
        sees : job.pass.seen ≡ base
        sees = ap (λ (p : PassState Entry). p.seen) split ∙ seen_is

        number : done.pass.who ≡ job.who
        number = ap (λ (p : PassState Entry). p.who) is_done.pass ∙ ap (λ (p : PassState Entry). p.who) split

        from_base : done.pass.base ≡ first.base
        from_base = ap (λ (p : PassState Entry). p.base) is_done.pass ∙ ap (λ (p : PassState Entry). p.base) split

    -- all of them
    pub finish-all : (jobs : List Job) (dones : List Done) → All (IsReady area turn) jobs
        → All (λ (job : Job). job.pass ≡ new_pass job.who first) jobs → All (λ (job : Job). IsFrom kept job.who job.player) jobs
        → AreDone area turns sessions behind jobs dones → All (λ (done : Done). Begins done.pass.seen log) dones
        → All (λ (done : Done). entries_since who_of done.pass.who first.base log ≡ done.pass.mine) dones
        → All (λ (done : Done). is_whole done.outcome ≡ true) dones → All (λ (done : Done). IsFinished done.who done.outcome) dones
    finish-all [] [] ready split from are begins own whole = All-nil (λ (done : Done). IsFinished done.who done.outcome)
    finish-all [] (done ∷ dones) ready split from are begins own whole = absurd are
    finish-all (job ∷ jobs) [] ready split from are begins own whole = absurd are
    finish-all (job ∷ jobs) (done ∷ dones) ready split from are begins own whole =
        All-cons (λ (d : Done). IsFinished d.who d.outcome) done dones
        (finish-one job done (All-head (IsReady area turn) job jobs ready) (All-head (λ (j : Job). j.pass ≡ new_pass j.who first) job jobs split)
        (All-head (λ (j : Job). IsFrom kept j.who j.player) job jobs from) are.0
        (All-head (λ (d : Done). Begins d.pass.seen log) done dones begins)
        (All-head (λ (d : Done). entries_since who_of d.pass.who first.base log ≡ d.pass.mine) done dones own)
        (All-head (λ (d : Done). is_whole d.outcome ≡ true) done dones whole))
        (finish-all jobs dones (All-tail (IsReady area turn) job jobs ready) (All-tail (λ (j : Job). j.pass ≡ new_pass j.who first) job jobs split)
        (All-tail (λ (j : Job). IsFrom kept j.who j.player) job jobs from) are.1
        (All-tail (λ (d : Done). Begins d.pass.seen log) done dones begins)
        (All-tail (λ (d : Done). entries_since who_of d.pass.who first.base log ≡ d.pass.mine) done dones own)
        (All-tail (λ (d : Done). is_whole d.outcome ≡ true) done dones whole))

  -- ---- the ends of workers, in order

  -- workers of rising numbers, and what came behind what was known before
  pub record AreEnds (number count : ℕ) (known : List Ended) (all : List Ended) : Type 0 where
    pub ends : List Ended
    pub all_are : all ≡ known ++ ends
    pub count_is : length ends ≡ count
    pub workers : AreWorkers (script_limits area) turns sessions number ends base log

  abbrev AllFinished : List Done → Type 0
  AllFinished = All (λ (done : Done). IsFinished done.who done.outcome)

  with-worker : (who : ℕ) (o : JobOutcome) (rest : List Done) (number count : ℕ) (known : List Ended) → IsFinished who o → who ≡ number → SESSIONS < number
      → ((more : List Ended) → AreEnds (suc number) count more (fold ends_after more rest))
      → AreEnds number (suc count) known (fold ends_after (with_end known o) rest)
  with-worker who (outcome.Replies replies) rest number count known finished same above on =
      let within = finished.1 in absurd (omega (arith, within, above, same))
  with-worker who (outcome.Ended ended) rest number count known finished same above on =
      let later = on (known ++ ended ∷ []) in
      record {
        ends = ended ∷ later.ends;
        all_are = later.all_are ∙ append_assoc known (ended ∷ []) later.ends;
        count_is = ap suc later.count_is;
        workers = (subst (λ (n : ℕ). Worker (script_limits area) turns sessions n base ended log) same finished.1, later.workers);
      }
  with-worker who outcome.NoMemory rest number count known finished same above on = absurd finished

  ends-of_workers : (number count : ℕ) (dones : List Done) (known : List Ended) → map (λ (d : Done). d.who) dones ≡ numbers_from number count
      → SESSIONS < number → AllFinished dones → AreEnds number count known (fold ends_after known dones)
  ends-of_workers number zero [] known numbers above finished =
      record { ends = []; all_are = sym (append-nil known); count_is = refl; workers = tt }
  ends-of_workers number zero (done ∷ dones) known numbers above finished = absurd cc
  ends-of_workers number (suc count) [] known numbers above finished = absurd cc
  ends-of_workers number (suc count) (done ∷ dones) known numbers above finished =
      with-worker done.who done.outcome dones number count known (All-head (λ (d : Done). IsFinished d.who d.outcome) done dones finished)
      (let same : done.who ≡ number = cc in same) above
      (λ more. ends-of_workers (suc number) count dones more (let same : map (λ (d : Done). d.who) dones ≡ numbers_from (suc number) count = cc in same)
      (omega (arith, above)) (All-tail (λ (d : Done). IsFinished d.who d.outcome) done dones finished))

  no-end : (who : ℕ) (o : JobOutcome) (known : List Ended) → IsFinished who o → who ≤ SESSIONS → with_end known o ≡ known
  no-end who (outcome.Replies replies) known finished within = refl
  no-end who (outcome.Ended ended) known finished within = let above = finished.0 in absurd (omega (arith, above, within))
  no-end who outcome.NoMemory known finished within = absurd finished

  -- the numbers are those of sessions, and then those of so many workers
  pub ends-in_order : (first : List ℕ) (number count : ℕ) (dones : List Done) (known : List Ended)
      → map (λ (d : Done). d.who) dones ≡ first ++ numbers_from number count → All (λ n. n ≤ SESSIONS) first → SESSIONS < number
      → AllFinished dones → AreEnds number count known (fold ends_after known dones)
  ends-in_order [] number count dones known numbers within above finished = ends-of_workers number count dones known numbers above finished
  ends-in_order (n ∷ first) number count [] known numbers within above finished = absurd cc
  ends-in_order (n ∷ first) number count (done ∷ dones) known numbers within above finished =
      let is : done.who ≡ n = cc in
      let small : n ≤ SESSIONS = All-head (λ (m : ℕ). m ≤ SESSIONS) n first within in
      subst (λ (l : List Ended). AreEnds number count known (fold ends_after l dones))
      (sym (no-end done.who done.outcome known (All-head (λ (d : Done). IsFinished d.who d.outcome) done dones finished)
      (subst (λ (m : ℕ). m ≤ SESSIONS) (sym is) small)))
      (ends-in_order first number count dones known (let rest : map (λ (d : Done). d.who) dones ≡ first ++ numbers_from number count = cc in rest)
      (All-tail (λ (m : ℕ). m ≤ SESSIONS) n first within) above (All-tail (λ (d : Done). IsFinished d.who d.outcome) done dones finished))
