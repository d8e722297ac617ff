-- What came of jobs, in their order: the replies of each session.
use Rattle.std.proofs.Common.{◌≡◌, ℕ, zero, suc, ◌+◌, ◌<◌, ◌≤◌, true, List, [], ◌∷◌, ◌++◌, All, length, map, refl, sym, ap, ◌∙◌, subst, arith}
use Rattle.std.specs.Prelude.{Contains, fold, slice_index_or}
use Rattle.std.proofs.lemmas.List.{get_or-set_other, get_or-set_same, length-map, length-set}
use Rattle.im_race.specs.declared.job.Done.{Done}
use Rattle.im_race.specs.declared.job.JobOutcome.{JobOutcome}
use Rattle.im_race.specs.declared.job.JobOutcome.TheVariants as outcome
use Rattle.im_race.specs.inner.Answering.{Rises, no_replies, replies_after, with_replies}
use Rattle.im_race.specs.Lines.{has_job, numbers_from, sessions_in}
use Rattle.im_race.specs.Race.{FIRST_WORKER}
use Rattle.im_race.proofs.LinesLemmas.{numbers-apart, session-takes_part}
use Rattle.im_replies.specs.declared.reply.Reply.{Reply}
use Rattle.im_script.specs.declared.line.Line.{Line}
use Rattle.im_values.specs.declared.limits.TheConstants.{SESSIONS}

-- one session more without replies
pub no_replies-more : (count : ℕ) → no_replies count ++ [] ∷ [] ≡ no_replies (suc count)
no_replies-more zero = refl
no_replies-more (suc count) = ap (λ (replies : List (List Reply)). [] ∷ replies) (no_replies-more count)

pub no_replies-push : (before now : List (List Reply)) (count : ℕ) (none : List Reply) → before ≡ no_replies count → none ≡ []
    → now ≡ before ++ none ∷ [] → now ≡ no_replies (count + 1)
no_replies-push before now count none is empty more =
    let next : suc count ≡ count + 1 = omega arith in
    more ∙ ((λ t. is t ++ empty t ∷ []) ∙ (no_replies-more count ∙ ap no_replies next))

pub length-with_replies : (replies : List (List Reply)) (who : ℕ) (came : JobOutcome) → length (with_replies replies who came) ≡ length replies
length-with_replies replies who (outcome.Replies of_job) = length-set replies who of_job
length-with_replies replies who (outcome.Ended ended) = refl
length-with_replies replies who outcome.NoMemory = refl

-- as many sessions as there were
pub length-replies : (dones : List Done) (start : List (List Reply)) → length (fold replies_after start dones) ≡ length start
length-replies [] start = refl
length-replies (done ∷ dones) start = length-replies dones (replies_after start done) ∙ length-with_replies start done.who done.outcome

with-other : (replies : List (List Reply)) (other who : ℕ) (came : JobOutcome) → (who ≡ other → ⊥)
    → slice_index_or (with_replies replies other came) who [] ≡ slice_index_or replies who []
with-other replies other who (outcome.Replies of_job) apart = get_or-set_other replies other who of_job [] apart
with-other replies other who (outcome.Ended ended) apart = refl
with-other replies other who outcome.NoMemory apart = refl

with-own : (replies : List (List Reply)) (at who : ℕ) (came : JobOutcome) (of_job : List Reply) → at ≡ who → came ≡ outcome.Replies of_job
    → who < length replies → slice_index_or (with_replies replies at came) who [] ≡ of_job
with-own replies at who came of_job same is inside =
    (λ t. slice_index_or (with_replies replies (same t) (is t)) who []) ∙ get_or-set_same replies who of_job [] inside

-- jobs of higher numbers leave a session's replies
pub replies-kept : (dones : List Done) (start : List (List Reply)) (least who : ℕ) → Rises least (map (λ (d : Done). d.who) dones) → who < least
    → slice_index_or (fold replies_after start dones) who [] ≡ slice_index_or start who []
replies-kept [] start least who rises below = refl
replies-kept (done ∷ dones) start least who rises below =
    let from : least ≤ done.who = rises.0 in
    let under : who < done.who = omega (arith, from, below) in
    replies-kept dones (replies_after start done) (suc done.who) who rises.1 (omega (arith, under))
    ∙ with-other start done.who who done.outcome (λ (same : who ≡ done.who). omega (arith, under, same))

-- the replies of a session's job are that session's
pub replies-found : (dones : List Done) (start : List (List Reply)) (least at : ℕ) (done : Done) (of_job : List Reply)
    → Rises least (map (λ (d : Done). d.who) dones) → at < length dones → slice_index_or dones at done ≡ done
    → done.outcome ≡ outcome.Replies of_job → done.who < length start
    → slice_index_or (fold replies_after start dones) done.who [] ≡ of_job
replies-found [] start least at done of_job rises inside here is below = absurd (omega (arith, inside))
replies-found (d ∷ dones) start least zero done of_job rises inside here is below =
    let same : d.who ≡ done.who = ap (λ (x : Done). x.who) here in
    replies-kept dones (replies_after start d) (suc d.who) done.who rises.1 (omega (arith, same))
    ∙ with-own start d.who done.who d.outcome of_job same (ap (λ (x : Done). x.outcome) here ∙ is) below
replies-found (d ∷ dones) start least (suc at) done of_job rises inside here is below =
    let long : length (replies_after start d) ≡ length start = length-with_replies start d.who d.outcome in
    replies-found dones (replies_after start d) (suc d.who) at done of_job rises.1 (omega (arith, inside)) here is
    (omega (arith, long, below))

-- ---- the job of a number

-- a job that was done, by its number and its place
pub record IsDoneAt (dones : List Done) (who : ℕ) : Type 0 where
  pub done : Done
  pub at : ℕ
  pub inside : at < length dones
  pub here : slice_index_or dones at done ≡ done
  pub number : done.who ≡ who

-- the job at a place has the number at that place
pub done-at : (dones : List Done) (at who : ℕ) → at < length dones → slice_index_or (map (λ (d : Done). d.who) dones) at who ≡ who
    → IsDoneAt dones who
done-at [] at who inside here = absurd (omega (arith, inside))
done-at (done ∷ dones) zero who inside here = record { done = done; at = 0; inside = inside; here = refl; number = here }
done-at (d ∷ dones) (suc at) who inside here =
    let behind : IsDoneAt dones who = done-at dones at who (omega (arith, inside)) here in
    let within : behind.at < length dones = behind.inside in
    record { done = behind.done; at = suc behind.at; inside = omega (arith, within); here = behind.here; number = behind.number }

-- each number that is among those of the jobs has a job that was done
pub done-of : (dones : List Done) (numbers : List ℕ) (who : ℕ) → map (λ (d : Done). d.who) dones ≡ numbers → Contains numbers who → IsDoneAt dones who
done-of dones numbers who are there =
    let there_too : Contains (map (λ (d : Done). d.who) dones) who = subst (λ (ns : List ℕ). Contains ns who) (sym are) there in
    let within : there_too.0 < length (map (λ (d : Done). d.who) dones) = there_too.1 in
    let long : length (map (λ (d : Done). d.who) dones) ≡ length dones = length-map dones (λ (d : Done). d.who) in
    done-at dones there_too.0 who (omega (arith, within, long)) there_too.2

-- this holds of the replies of each session, and a worker ended
abbrev pub HasCome : (ℕ → List Reply → Type 0) → ℕ → JobOutcome → Type 0
HasCome Held who (outcome.Replies of_job) = Held who of_job
HasCome Held who (outcome.Ended ended) = SESSIONS < who
HasCome Held who outcome.NoMemory = ⊥

held-replies : (Held : ℕ → List Reply → Type 0) (found : List Reply) (at who : ℕ) (came : JobOutcome) → at ≡ who → who ≤ SESSIONS → HasCome Held at came
    → ((of_job : List Reply) → came ≡ outcome.Replies of_job → found ≡ of_job) → Held who found
held-replies Held found at who (outcome.Replies of_job) same within come finds =
    subst (λ (n : ℕ). Held n found) same (subst (Held at) (sym (finds of_job refl)) come)
held-replies Held found at who (outcome.Ended ended) same within come finds =
    let above : SESSIONS < at = come in
    absurd (omega (arith, above, same, within))
held-replies Held found at who outcome.NoMemory same within come finds = absurd come

-- what holds of the replies of each session's job holds of what is kept for that session
pub session-replies : (Held : ℕ → List Reply → Type 0) (dones : List Done) (lines : List Line) (workers who : ℕ)
    → map (λ (d : Done). d.who) dones ≡ sessions_in lines ++ numbers_from FIRST_WORKER workers
    → All (λ (d : Done). HasCome Held d.who d.outcome) dones → 1 ≤ who → who ≤ SESSIONS → has_job lines who ≡ true
    → Held who (slice_index_or (fold replies_after (no_replies (SESSIONS + 1)) dones) who [])
session-replies Held dones lines workers who are come one most job =
    let found : IsDoneAt dones who = done-of dones (sessions_in lines ++ numbers_from FIRST_WORKER workers) who are
    (session-takes_part lines workers who one most job) in
    let rises : Rises 1 (map (λ (d : Done). d.who) dones) = subst (Rises 1) (sym are) (numbers-apart lines workers) in
    let number : found.done.who ≡ who = found.number in
    let here : HasCome Held found.done.who found.done.outcome =
    subst (λ (d : Done). HasCome Held d.who d.outcome) found.here (come found.at found.done found.inside) in
    held-replies Held (slice_index_or (fold replies_after (no_replies (SESSIONS + 1)) dones) who []) found.done.who who found.done.outcome number most here
    (λ of_job is.
    ap (λ (n : ℕ). slice_index_or (fold replies_after (no_replies (SESSIONS + 1)) dones) n []) (sym number)
    ∙ replies-found dones (no_replies (SESSIONS + 1)) 1 found.at found.done of_job rises found.inside found.here is (omega (arith, number, most)))
