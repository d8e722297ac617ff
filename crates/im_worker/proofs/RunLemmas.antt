-- What the statements of the background come to.
use Rattle.std.proofs.Common.{◌≡◌, ℕ, suc, ◌+◌, ◌*◌, Bool, true, false, List, [], ◌∷◌, ◌++◌, length, Option, Some, None, is_none, refl, sym, ap, ◌∙◌, subst, inl, inr, arith}
use Rattle.std.specs.Option.{option_map}
use Rattle.im_core.specs.declared.answers.Purged.{Purged}
use Rattle.im_core.specs.Answers.{IsRefusal}
use Rattle.im_history.specs.declared.entry.What.{What}
use Rattle.im_history.specs.declared.entry.What.TheVariants as what
use Rattle.im_history.specs.declared.limits.Limits.{Limits}
use Rattle.im_history.specs.declared.refused.Refused.{Refused}
use Rattle.im_history.specs.declared.refused.Why.{Why}
use Rattle.im_history.specs.declared.refused.Why.TheVariants as why
use Rattle.im_history.specs.declared.task.Task.{Task}
use Rattle.im_history.specs.Area.{used}
use Rattle.im_history.specs.History.{History, behind}
use Rattle.im_history.specs.Horizon.{horizon, kept}
use Rattle.im_history.specs.Legal.{IsLawful, IsLegal}
use Rattle.im_history.specs.Queue.{credits}
use Rattle.im_history.specs.Refusals.{evict_refusal, when}
use Rattle.im_history.specs.Units.{Content, content_at, held_at, killed_of, unit, unit_content}
use Rattle.im_history.proofs.Laws.{IsLegal-pop}
use Rattle.im_history.proofs.UnitLaws.{is_plain}
use Rattle.im_plan.specs.Goes.{After, Goes, Others}
use Rattle.im_plan.specs.Plan.{Plan, End}
use Rattle.im_reach.specs.Rests.{Counted, Onward}
use Rattle.im_reach.specs.Sides.{Added, AreOthers, Found, Known, StoreSide, speaks}
use Rattle.im_reach.proofs.RestLaws.{counted-logged, here, keeps-counted, others-of}
use Rattle.im_replies.specs.declared.body.Body.{Body}
use Rattle.im_replies.specs.declared.body.Body.TheVariants as body
use Rattle.im_replies.specs.declared.reply.Reply.{Reply}
use Rattle.im_replies.specs.declared.task.Built.{Built}
use Rattle.im_replies.specs.declared.task.Ending.{Ending}
use Rattle.im_replies.specs.declared.task.Ending.TheVariants as ending
use Rattle.im_replies.specs.declared.aim.Aim.TheVariants as aim
use Rattle.im_replies.specs.Causes.{fault_of}
use Rattle.im_statements.specs.Background.{Answered, CommandOutcome, answer_with, begin, built_of, cancel, command_plan, drop_all, end_by, ending_by, evict, evicted, finish, fits_area, purge, run, said, switch, trickle}
use Rattle.im_statements.specs.Turns.{memory_reply, unless_refused}
use Rattle.im_worker.specs.Background.{Agrees, IsCommandPlayed, Kept, Ready, tasks_of}
use Rattle.im_worker.specs.Reads.{IsCounted}
use Rattle.im_syntax.specs.declared.statement.Stmt.{Stmt}
use Rattle.im_syntax.specs.declared.statement.Stmt.TheVariants as stmt
use Rattle.im_worker.proofs.CountLemmas.{none-counted, on-rest}
use Rattle.im_worker.specs.inner.Beginning.{IsIdle, IsReady, Lacked, WasDropped}
use Rattle.im_worker.specs.inner.Rests.{Cancels, IsEnded, IsRest, Went}
use Rattle.im_worker.specs.inner.Running.{IsCommand, IsDropping, IsLast, IsRan, IsRound, IsRun, IsRunning, WereDropped, evict_named}
use Rattle.im_worker.specs.inner.Standing.{Stands}
use Rattle.im_worker.proofs.BeginLemmas.{next-dropped, next-idle, next-lacks, next-ready}
use Rattle.im_worker.proofs.HoldingLaws.{same_number}
use Rattle.im_worker.proofs.RestLemmas.{limits-same, rest-adds, rest-end, rest-lacks, rest-last, rest-nothing, stands-agrees, stands-went, went-found, went-here}
use Rattle.im_worker.proofs.StandingLaws.{ends, stands-after, stands-finished, stands-held, stands-oldest, stands-plain}

-- the reply of a line that is settled at no place
abbrev pub told : Body → List Ready → CommandOutcome
told body builds = Answered (said body) (tasks_of builds)

-- ---- lines that do nothing

pub run-ends : (who : ℕ) (builds : List Ready) (old : Known) (plan : Plan CommandOutcome) (reply : Reply) → plan ≡ End (Answered reply (tasks_of builds))
    → Stands who builds [] old.log → IsRun who plan builds old reply builds old
run-ends who builds old plan reply is stands =
    record { rest = rest-end who 0 (tasks_of builds) old plan (Answered reply (tasks_of builds)) is; stands = stands }

-- memory lacked before the line made an entry
pub run-lacks : (who : ℕ) (builds : List Ready) (old new : Known) (P : History → Type 0) (plan : Plan CommandOutcome) → speaks old.side who ≡ true
    → IsLawful new.limits new.log → Stands who builds [] old.log → Found old new P → IsRun who plan builds old (memory_reply 0) builds new
run-lacks who builds old new P plan mine lawful stands found = record {
  rest = rest-lacks who 0 builds old new plan (went-found old new P found) now;
  stands = now;
}
  where
    now : Stands who builds [] new.log
    now = stands-went old new who builds [] mine lawful (went-found old new P found) stands

pub run-lacks_here : (who : ℕ) (builds : List Ready) (old : Known) (plan : Plan CommandOutcome) → Stands who builds [] old.log
    → IsRun who plan builds old (memory_reply 0) builds old
run-lacks_here who builds old plan stands = record { rest = rest-lacks who 0 builds old old plan (went-here old) stands; stands = stands }

-- ---- TRICKLE

-- an entry of no build was made
stands-added : (who : ℕ) (builds : List Ready) (old new : Known) (what : What) (at : History) → speaks old.side who ≡ true → IsLawful new.limits new.log
    → is_plain what ≡ true → Stands who builds [] old.log → Onward who old new what at → Stands who builds [] new.log
stands-added who builds old new what at mine lawful plain stands onward =
    subst (Stands who builds []) (sym log_is)
    (stands-plain new.limits at who who what builds [] legal plain
    (stands-after new.limits old.side who builds [] old.log at mine
    (IsLegal-pop new.limits at (record { who = who; what = what }) legal).0 onward.after stands))
  where
    log_is : new.log ≡ behind at who what
    log_is = ap (λ (s : Known). s.log) onward.now

    legal : IsLegal new.limits (behind at who what)
    legal = subst (IsLegal new.limits) log_is lawful.legal

pub trickled : (who count left : ℕ) (builds : List Ready) (old new : Known) → speaks old.side who ≡ true → IsLawful new.limits new.log
    → Stands who builds [] old.log → Added old new who (λ at. what.Trickle count) (λ at. left ≡ credits (behind at who (what.Trickle count)))
    → IsRun who (trickle who (tasks_of builds) count) builds old (said (body.Trickle left)) builds new
trickled who count left builds old new mine lawful stands added = record {
  rest = rest-last who 0 (tasks_of builds) old new true (λ at. Some (what.Trickle count)) (what.Trickle count) added.at
      (λ at. answer_with (tasks_of builds) (body.Trickle (credits (behind at who (what.Trickle count))))) (told (body.Trickle left) builds) onward refl
      (ap (λ (n : ℕ). answer_with (tasks_of builds) (body.Trickle n)) (sym added.fact));
  stands = stands-added who builds old new (what.Trickle count) added.at mine lawful refl stands onward;
}
  where
    onward : Onward who old new (what.Trickle count) added.at
    onward = record { after = added.after; now = added.now }

-- ---- PURGE

pub purged : (who : ℕ) (done : Purged) (builds : List Ready) (old new : Known) → speaks old.side who ≡ true → IsLawful new.limits new.log
    → Stands who builds [] old.log
    → Added old new who (λ at. what.Purge) (λ at. done ≡ record {
      place = length at;
      horizon = horizon (behind at who what.Purge);
      kept = kept (behind at who what.Purge);
    })
    → IsRun who (purge who (tasks_of builds)) builds old (said (body.Purged done.horizon done.kept)) builds new
purged who done builds old new mine lawful stands added = record {
  rest = rest-last who 0 (tasks_of builds) old new true (λ at. Some what.Purge) what.Purge added.at
      (λ at. answer_with (tasks_of builds) (body.Purged (horizon (behind at who what.Purge)) (kept (behind at who what.Purge))))
      (told (body.Purged done.horizon done.kept) builds) onward refl
      (ap (λ (d : Purged). answer_with (tasks_of builds) (body.Purged d.horizon d.kept)) (sym added.fact));
  stands = stands-added who builds old new what.Purge added.at mine lawful refl stands onward;
}
  where
    onward : Onward who old new what.Purge added.at
    onward = record { after = added.after; now = added.now }

-- ---- EVICT

-- where there is a unit nothing refuses
unrefused : (o : Option ℕ) (f : ℕ → Content) (content : Content) → option_map f o ≡ Some content → when (is_none o) why.NoUnit ≡ None
unrefused None f content is = absurd cc
unrefused (Some n) f content is = refl

pub evicted-run : (who table extent left : ℕ) (content : Content) (builds : List Ready) (old new : Known) (place : ℕ) → speaks old.side who ≡ true
    → IsLawful new.limits new.log → Stands who builds [] old.log
    → Added old new who (λ at. what.Evict table extent) (λ at. (place ≡ length at) × (left ≡ used (behind at who (what.Evict table extent)))
    × (unit_content at table extent ≡ Some content))
    → IsRun who (evict who (tasks_of builds) table extent) builds old (said (body.Evicted table extent left)) builds new
evicted-run who table extent left content builds old new place mine lawful stands added = record {
  rest = rest-last who 0 (tasks_of builds) old new true (λ at. unless_refused (evict_refusal at table extent) (what.Evict table extent))
      (what.Evict table extent) added.at (λ at. evicted who (tasks_of builds) table extent at (evict_refusal at table extent))
      (told (body.Evicted table extent left) builds) onward (ap (λ (o : Option Why). unless_refused o (what.Evict table extent)) none)
      (ap (evicted who (tasks_of builds) table extent added.at) none
      ∙ ap (λ (n : ℕ). answer_with (tasks_of builds) (body.Evicted table extent n)) (sym added.fact.1));
  stands = stands-added who builds old new (what.Evict table extent) added.at mine lawful refl stands onward;
}
  where
    onward : Onward who old new (what.Evict table extent) added.at
    onward = record { after = added.after; now = added.now }

    none : evict_refusal added.at table extent ≡ None
    none = unrefused (unit added.at table extent) (content_at added.at table extent) content added.fact.2

pub evicted-not : (who table extent : ℕ) (builds : List Ready) (old new : Known) (refused : Refused) → speaks old.side who ≡ true
    → IsLawful new.limits new.log → Stands who builds [] old.log → Found old new (λ at. IsRefusal at (evict_refusal at table extent) refused)
    → IsRun who (evict who (tasks_of builds) table extent) builds old (said (body.Error (fault_of (aim.Evicting table extent) refused.why))) builds new
evicted-not who table extent builds old new refused mine lawful stands found = elim found.fact.why [
  | inl lacks ↦ subst (λ (w : Why). IsRun who plan builds old (said (body.Error (fault_of (aim.Evicting table extent) w))) builds new) (sym lacks)
      (run-lacks who builds old new _ plan mine lawful stands found)
  | inr cause ↦ record {
    rest = rest-nothing who 0 (tasks_of builds) old new new true (λ at. unless_refused (evict_refusal at table extent) (what.Evict table extent))
        (λ at. evicted who (tasks_of builds) table extent at (evict_refusal at table extent)) outcome went
        (ap (λ (o : Option Why). unless_refused o (what.Evict table extent)) (at_new cause))
        (rest-end who 0 (tasks_of builds) new (evicted who (tasks_of builds) table extent new.log (evict_refusal new.log table extent)) outcome
        (ap (evicted who (tasks_of builds) table extent new.log) (at_new cause)));
    stands = stands-went old new who builds [] mine lawful went stands;
  }
]
  where
    plan : Plan CommandOutcome
    plan = evict who (tasks_of builds) table extent

    outcome : CommandOutcome
    outcome = told (body.Error (fault_of (aim.Evicting table extent) refused.why)) builds

    went : Went old new
    went = went-found old new _ found

    at_new : evict_refusal found.at table extent ≡ Some refused.why → evict_refusal new.log table extent ≡ Some refused.why
    at_new cause = ap (λ (s : Known). evict_refusal s.log table extent) found.now ∙ cause

-- ---- CANCEL and SWITCH

-- the oldest build ended, by this entry
stands-without : (who : ℕ) (first : Ready) (rest : List Ready) (old new : Known) (what : What) (at : History) → speaks old.side who ≡ true
    → IsLawful new.limits new.log → ends first.task.id what ≡ true → Stands who (first ∷ rest) [] old.log → Onward who old new what at
    → Stands who rest [] new.log
stands-without who first rest old new what at mine lawful is stands onward =
    subst (Stands who rest []) (sym log_is)
    (stands-oldest new.limits at who what first rest legal is
    (stands-after new.limits old.side who (first ∷ rest) [] old.log at mine (IsLegal-pop new.limits at (record { who = who; what = what }) legal).0
    onward.after stands))
  where
    log_is : new.log ≡ behind at who what
    log_is = ap (λ (s : Known). s.log) onward.now

    legal : IsLegal new.limits (behind at who what)
    legal = subst (IsLegal new.limits) log_is lawful.legal

pub cancelled-run : (who : ℕ) (first : Ready) (rest : List Ready) (old new : Known) → speaks old.side who ≡ true → IsLawful new.limits new.log
    → Stands who (first ∷ rest) [] old.log → Cancels who first.task old new
    → IsRun who (cancel (tasks_of (first ∷ rest))) (first ∷ rest) old (said (body.Ended (ending.Dropped first.task.id))) rest new
cancelled-run who first rest old new mine lawful stands added = record {
  rest = rest-last who 0 (tasks_of (first ∷ rest)) old new true (λ at. Some (what.Cancel first.task.id false)) (what.Cancel first.task.id false) added.at
      (λ at. answer_with (tasks_of rest) (body.Ended (ending.Dropped first.task.id))) (told (body.Ended (ending.Dropped first.task.id)) rest) onward refl refl;
  stands = stands-without who first rest old new (what.Cancel first.task.id false) added.at mine lawful
      (same_number first.task.id first.task.id refl) stands onward;
}
  where
    onward : Onward who old new (what.Cancel first.task.id false) added.at
    onward = record { after = added.after; now = added.now }

-- the entry that ends a build whose unit is ready ends this one
ends-by : (id : ℕ) (killed : Option ℕ) (fit : Bool) → ends id (end_by id killed fit) ≡ true
ends-by id (Some place) fit = same_number id id refl
ends-by id None true = same_number id id refl
ends-by id None false = same_number id id refl

-- what ended a build
abbrev ended_by : Limits → Task → History → What
ended_by limits task at = end_by task.id (killed_of (held_at at task.id)) (fits_area limits at task)

pub switched-run : (who : ℕ) (first : Ready) (rest : List Ready) (old new : Known) (ending : Ending) → speaks old.side who ≡ true
    → IsLawful new.limits new.log → Stands who (first ∷ rest) [] old.log → IsEnded who old first.task ending new
    → IsRun who (switch old.limits who (tasks_of (first ∷ rest))) (first ∷ rest) old (said (body.Ended ending)) rest new
switched-run who first rest old new ending mine lawful stands ended = record {
  rest = rest-last who 0 (tasks_of (first ∷ rest)) old new true
      (λ at. Some (ended_by old.limits first.task at)) (ended_by old.limits first.task ended.at) ended.at
      (λ at. answer_with (tasks_of rest)
      (body.Ended (ending_by old.limits who at first.task (killed_of (held_at at first.task.id)) (fits_area old.limits at first.task))))
      (told (body.Ended ending) rest) onward refl (ap (λ (e : Ending). answer_with (tasks_of rest) (body.Ended e)) (sym ended.told));
  stands = stands-without who first rest old new (ended_by old.limits first.task ended.at) ended.at mine lawful
      (ends-by first.task.id (killed_of (held_at ended.at first.task.id)) (fits_area old.limits ended.at first.task)) stands onward;
}
  where
    onward : Onward who old new (ended_by old.limits first.task ended.at) ended.at
    onward = record { after = ended.after; now = ended.now }

-- ---- BEGIN

pub begin-ready : (who : ℕ) (builds : List Ready) (old new : Known) (ready : Ready) → IsLawful new.limits new.log → IsReady who builds old ready new
    → IsRun who (begin (tasks_of builds)) builds old (said (body.Build (built_of ready.task))) (builds ++ ready ∷ []) new
begin-ready who builds old new ready lawful is = record {
  rest = next-ready who 0 builds old new new ready (λ task. answer_with (tasks_of builds ++ task ∷ []) (body.Build (built_of task)))
      (answer_with (tasks_of builds) body.Idle) (told (body.Build (built_of ready.task)) (builds ++ ready ∷ [])) is
      (rest-end who (0 + 1) (tasks_of builds) new (answer_with (tasks_of builds ++ ready.task ∷ []) (body.Build (built_of ready.task)))
      (told (body.Build (built_of ready.task)) (builds ++ ready ∷ []))
      (ap (λ (tasks : List Task). answer_with tasks (body.Build (built_of ready.task))) (of_tasks builds)));
  stands = stands-held new.limits new.log who builds ready lawful.legal is.content is.stands;
}
  where
    of_tasks : (list : List Ready) → tasks_of list ++ ready.task ∷ [] ≡ tasks_of (list ++ ready ∷ [])
    of_tasks [] = refl
    of_tasks (first ∷ rest) = ap (λ (tasks : List Task). first.task ∷ tasks) (of_tasks rest)

pub begin-idle : {place left : ℕ} (who : ℕ) (builds : List Ready) (old new : Known) → IsIdle who builds place left old new
    → IsRun who (begin (tasks_of builds)) builds old (said body.Idle) builds new
begin-idle who builds old new is = record {
  rest = next-idle who 0 builds old new new (λ task. answer_with (tasks_of builds ++ task ∷ []) (body.Build (built_of task)))
      (answer_with (tasks_of builds) body.Idle) (told body.Idle builds) is
      (rest-end who 0 (tasks_of builds) new (answer_with (tasks_of builds) body.Idle) (told body.Idle builds) refl);
  stands = is.stands;
}

pub begin-lacks : (who : ℕ) (builds : List Ready) (old new : Known) → Lacked who builds old new
    → IsRun who (begin (tasks_of builds)) builds old (memory_reply 0) builds new
begin-lacks who builds old new lacked = record { rest = next-lacks who 0 builds old new (begin (tasks_of builds)) lacked; stands = lacked.stands }

pub begin-dropped : (who : ℕ) (builds : List Ready) (old new : Known) → IsLawful new.limits new.log → WasDropped who builds old new
    → IsRun who (begin (tasks_of builds)) builds old (memory_reply 1) builds new
begin-dropped who builds old new lawful is = record {
  rest = next-dropped who 0 builds old new (λ task. answer_with (tasks_of builds ++ task ∷ []) (body.Build (built_of task)))
      (answer_with (tasks_of builds) body.Idle) lawful.legal is;
  stands = is.stands;
}

-- ---- RUN

-- builds that ended before, and what is still to come
abbrev on_end : Limits → ℕ → List Task → ℕ → List (Built × Ending) → Task → Plan CommandOutcome
on_end limits who tasks rounds so_far task = finish false limits who task (λ end. run limits who tasks rounds (so_far ++ (built_of task, end) ∷ []))

length-more : (so_far : List (Built × Ending)) (one : Built × Ending) → length (so_far ++ one ∷ []) ≡ length so_far + 1
length-more [] one = refl
length-more (first ∷ rest) one = let more = length-more rest one in omega (arith, more)

-- a build ended whose unit was ready, beside those that are held
pub stands-ended : (who : ℕ) (builds : List Ready) (mid new : Known) (task : Task) (ending : Ending) → speaks mid.side who ≡ true
    → IsLawful new.limits new.log → Stands who builds (task ∷ []) mid.log → IsEnded who mid task ending new → Stands who builds [] new.log
stands-ended who builds mid new task ending mine lawful stands ended =
    subst (Stands who builds []) (sym log_is)
    (stands-finished new.limits ended.at who (ended_by mid.limits task ended.at) builds task legal
    (ends-by task.id (killed_of (held_at ended.at task.id)) (fits_area mid.limits ended.at task))
    (stands-after new.limits mid.side who builds (task ∷ []) mid.log ended.at mine
    (IsLegal-pop new.limits ended.at (record { who = who; what = ended_by mid.limits task ended.at }) legal).0 ended.after stands))
  where
    log_is : new.log ≡ behind ended.at who (ended_by mid.limits task ended.at)
    log_is = ap (λ (s : Known). s.log) ended.now

    legal : IsLegal new.limits (behind ended.at who (ended_by mid.limits task ended.at))
    legal = subst (IsLegal new.limits) log_is lawful.legal

pub round-goes : (who : ℕ) (builds : List Ready) (so_far : List (Built × Ending)) (old mid new : Known) (ready : Ready) (ending : Ending)
    → speaks old.side who ≡ true → IsLawful new.limits new.log → IsReady who builds old ready mid → IsEnded who mid ready.task ending new
    → IsRound who builds so_far (so_far ++ (built_of ready.task, ending) ∷ []) old new
round-goes who builds so_far old mid new ready ending mine lawful is ended = record {
  onward = λ rounds outcome last rest.
      next-ready who (2 * length so_far) builds old mid last ready (on_end old.limits who (tasks_of builds) rounds so_far)
      (answer_with (tasks_of builds) (body.Ran so_far)) outcome is
      (rest-adds who (2 * length so_far + 1) (tasks_of builds) mid new last (λ at. Some (ended_by old.limits ready.task at))
      (ended_by old.limits ready.task ended.at) ended.at
      (λ at. run old.limits who (tasks_of builds) rounds
      (so_far
      ++ (built_of ready.task, ending_by old.limits who at ready.task (killed_of (held_at at ready.task.id)) (fits_area old.limits at ready.task)) ∷ [])) outcome
      (record {
        after = ended.after;
        now = ended.now
            ∙ ap (λ (limits : Limits). record mid { log = behind ended.at who (ended_by limits ready.task ended.at) }) limits_are;
      })
      refl
      (subst (λ (n : ℕ). IsRest who n (tasks_of builds) new
      (run old.limits who (tasks_of builds) rounds (so_far ++ (built_of ready.task, told_end) ∷ [])) outcome last)
      count
      (subst
      (λ (e : Ending). IsRest who (2 * length (so_far ++ (built_of ready.task, ending) ∷ [])) (tasks_of builds) new
      (run old.limits who (tasks_of builds) rounds (so_far ++ (built_of ready.task, e) ∷ [])) outcome last) told_is rest)));
  kept = keeps-counted.both old mid new (counted-logged old mid is.now) kept_mid;
  longer = length-more so_far (built_of ready.task, ending);
  stands = stands-ended who builds mid new ready.task ending (subst (λ (side : StoreSide). speaks side who ≡ true) (sym side_is) mine) lawful is.stands ended;
}
  where
    limits_are : mid.limits ≡ old.limits
    limits_are = ap (λ (s : Known). s.limits) is.now

    side_is : mid.side ≡ old.side
    side_is = ap (λ (s : Known). s.side) is.now

    told_end : Ending
    told_end = ending_by old.limits who ended.at ready.task (killed_of (held_at ended.at ready.task.id)) (fits_area old.limits ended.at ready.task)

    told_is : ending ≡ told_end
    told_is = ended.told
        ∙ ap (λ (limits : Limits). ending_by limits who ended.at ready.task
        (killed_of (held_at ended.at ready.task.id)) (fits_area limits ended.at ready.task)) limits_are

    count : 2 * length (so_far ++ (built_of ready.task, ending) ∷ []) ≡ 2 * length so_far + 1 + 1
    count = let longer = length-more so_far (built_of ready.task, ending) in omega (arith, longer)

    kept_mid : Counted mid new
    kept_mid = subst (Counted mid) (sym ended.now) refl

pub round-idle : {place left : ℕ} (who : ℕ) (builds : List Ready) (so_far : List (Built × Ending)) (old new : Known)
    → IsIdle who builds place left old new
    → IsLast who builds so_far old (said (body.Ran so_far)) new
round-idle who builds so_far old new is = record {
  rest = next-idle who (2 * length so_far) builds old new new (on_end old.limits who (tasks_of builds) 0 so_far)
      (answer_with (tasks_of builds) (body.Ran so_far)) (told (body.Ran so_far) builds) is
      (rest-end who (2 * length so_far) (tasks_of builds) new (answer_with (tasks_of builds) (body.Ran so_far)) (told (body.Ran so_far) builds) refl);
  stands = is.stands;
}

-- memory was out, others having gone on
last-lacks : (who k : ℕ) (builds : List Ready) (so_far : List (Built × Ending)) (old new : Known) → k ≡ 2 * length so_far → Went old new
    → Stands who builds [] new.log → IsLast who builds so_far old (memory_reply k) new
last-lacks who k builds so_far old new is went stands = record {
  rest = subst (λ (n : ℕ). IsRest who (2 * length so_far) (tasks_of builds) old (run old.limits who (tasks_of builds) 1 so_far)
      (Answered (memory_reply n) (tasks_of builds)) new) (sym is)
      (rest-lacks who (2 * length so_far) builds old new (run old.limits who (tasks_of builds) 1 so_far) went stands);
  stands = stands;
}

pub round-lacks : (who k : ℕ) (builds : List Ready) (so_far : List (Built × Ending)) (old new : Known) → k ≡ 2 * length so_far → Lacked who builds old new
    → IsLast who builds so_far old (memory_reply k) new
round-lacks who k builds so_far old new is lacked = last-lacks who k builds so_far old new is lacked.went lacked.stands

pub round-lacks_here : (who k : ℕ) (builds : List Ready) (so_far : List (Built × Ending)) (old : Known) → k ≡ 2 * length so_far → Stands who builds [] old.log
    → IsLast who builds so_far old (memory_reply k) old
round-lacks_here who k builds so_far old is stands = last-lacks who k builds so_far old old is (went-here old) stands

pub round-dropped : (who k : ℕ) (builds : List Ready) (so_far : List (Built × Ending)) (old new : Known) → k ≡ 2 * length so_far + 1
    → IsLawful new.limits new.log → WasDropped who builds old new → IsLast who builds so_far old (memory_reply k) new
round-dropped who k builds so_far old new is lawful dropped = record {
  rest = subst (λ (n : ℕ). IsRest who (2 * length so_far) (tasks_of builds) old (run old.limits who (tasks_of builds) 1 so_far)
      (Answered (memory_reply n) (tasks_of builds)) new) (sym is)
      (next-dropped who (2 * length so_far) builds old new (on_end old.limits who (tasks_of builds) 0 so_far)
      (answer_with (tasks_of builds) (body.Ran so_far)) lawful.legal dropped);
  stands = dropped.stands;
}

-- no round was played yet
pub running-none : (who : ℕ) (builds : List Ready) (old : Known) → Stands who builds [] old.log → IsRunning who builds [] old old
running-none who builds old stands = record {
  onward = λ rounds outcome last rest.
      subst (λ (n : ℕ). IsRest who 0 (tasks_of builds) old (run old.limits who (tasks_of builds) n []) outcome last)
      (let e : rounds ≡ 0 + rounds = omega arith in e)
      (subst (λ (k : ℕ). IsRest who k (tasks_of builds) old (run old.limits who (tasks_of builds) rounds []) outcome last)
      (let e : 2 * 0 ≡ 0 = omega arith in e) rest);
  kept = refl;
  stands = stands;
}

-- one more was
pub running-next : (who : ℕ) (builds : List Ready) (so_far now_far : List (Built × Ending)) (old mid new : Known) → IsRunning who builds so_far old mid
    → IsRound who builds so_far now_far mid new → IsRunning who builds now_far old new
running-next who builds so_far now_far old mid new running round = record {
  onward = λ rounds outcome last rest.
      subst (λ (n : ℕ). IsRest who 0 (tasks_of builds) old (run old.limits who (tasks_of builds) n []) outcome last) (count rounds)
      (running.onward (suc rounds) outcome last
      (subst (λ (limits : Limits).
      IsRest who (2 * length so_far) (tasks_of builds) mid (run limits who (tasks_of builds) (suc rounds) so_far) outcome last) limits_are
      (round.onward rounds outcome last
      (subst (λ (limits : Limits). IsRest who (2 * length now_far) (tasks_of builds) new (run limits who (tasks_of builds) rounds now_far) outcome last)
      (sym limits_are) rest))));
  kept = keeps-counted.both old mid new running.kept round.kept;
  stands = round.stands;
}
  where
    limits_are : mid.limits ≡ old.limits
    limits_are = limits-same old mid running.kept

    count : (rounds : ℕ) → length so_far + suc rounds ≡ length now_far + rounds
    count rounds = let longer = round.longer in omega (arith, longer)

-- and the last
pub running-ends : (who : ℕ) (builds : List Ready) (so_far : List (Built × Ending)) (old mid new : Known) (reply : Reply) → IsRunning who builds so_far old mid
    → IsLast who builds so_far mid reply new → IsRan who builds old reply new
running-ends who builds so_far old mid new reply running last = record {
  rounds = length so_far + 1;
  is_run = record {
    rest = running.onward 1 (Answered reply (tasks_of builds)) new
        (subst (λ (limits : Limits). IsRest who (2 * length so_far) (tasks_of builds) mid (run limits who (tasks_of builds) 1 so_far)
        (Answered reply (tasks_of builds)) new) (limits-same old mid running.kept) last.rest);
    stands = last.stands;
  };
}

-- ---- builds that are dropped

pub dropping-none : (who : ℕ) (builds : List Ready) (old : Known) → Stands who builds [] old.log → IsDropping who builds builds old old
dropping-none who builds old stands = record { onward = λ last goes. goes; known = refl; stands = stands }

pub dropping-next : (who : ℕ) (before : List Ready) (first : Ready) (left : List Ready) (old mid new : Known) → speaks old.side who ≡ true
    → IsLawful new.limits new.log → IsDropping who before (first ∷ left) old mid → Cancels who first.task mid new → IsDropping who before left old new
dropping-next who before first left old mid new mine lawful dropping cancelled = record {
  onward = λ last goes.
      dropping.onward last (
        cancelled.at,
        others-of old.side mid.log cancelled.at (subst (λ (side : StoreSide). After (AreOthers side) mid.log cancelled.at) side_is cancelled.after),
        subst (λ (s : Known). Goes (Others (speaks old.side)) who s.log (drop_all (tasks_of left)) tt last) cancelled.now goes,
      );
  known = cancelled.now ∙ (ap (λ (s : Known). record s { log = behind cancelled.at who (what.Cancel first.task.id false) }) dropping.known
      ∙ subst (λ (s : Known). record old { log = s.log } ≡ record old { log = new.log }) cancelled.now refl);
  stands = stands-without who first left mid new (what.Cancel first.task.id false) cancelled.at
      (subst (λ (side : StoreSide). speaks side who ≡ true) (sym side_is) mine) lawful (same_number first.task.id first.task.id refl) dropping.stands
      (record { after = cancelled.after; now = cancelled.now });
}
  where
    side_is : mid.side ≡ old.side
    side_is = ap (λ (s : Known). s.side) dropping.known

pub dropping-ends : (who : ℕ) (before : List Ready) (old now : Known) → IsDropping who before [] old now → WereDropped who before old now
dropping-ends who before old now dropping = record {
  known = dropping.known;
  goes = dropping.onward now.log (record { value_is = refl; after = here old.side now.log });
  stands = dropping.stands;
}

-- ---- as the calls say it

-- what is said is this
pub run-told : (who : ℕ) (plan : Plan CommandOutcome) (before : List Ready) (old : Known) (told_so reply : Reply) (after : List Ready) (new : Known)
    → reply ≡ told_so → IsRun who plan before old told_so after new → IsRun who plan before old reply after new
run-told who plan before old told_so reply after new is run = rw is run

pub switched-told : (who : ℕ) (builds : List Ready) (first : Ready) (rest : List Ready) (old new : Known) (ending : Ending) (reply : Reply)
    → builds ≡ first ∷ rest → reply ≡ said (body.Ended ending) → speaks old.side who ≡ true → IsLawful new.limits new.log
    → Stands who builds [] old.log → IsEnded who old first.task ending new
    → IsRun who (switch old.limits who (tasks_of builds)) builds old reply rest new
switched-told who builds first rest old new ending reply items is mine lawful stands ended =
    rw (is, items) (switched-run who first rest old new ending mine lawful (subst (λ (list : List Ready). Stands who list [] old.log) items stands) ended)

pub cancelled-told : (who : ℕ) (builds : List Ready) (first : Ready) (rest : List Ready) (old new : Known) (id : ℕ) (reply : Reply)
    → builds ≡ first ∷ rest → id ≡ first.task.id → reply ≡ said (body.Ended (ending.Dropped id)) → speaks old.side who ≡ true
    → IsLawful new.limits new.log → Stands who builds [] old.log → Cancels who first.task old new
    → IsRun who (cancel (tasks_of builds)) builds old reply rest new
cancelled-told who builds first rest old new id reply items id_is is mine lawful stands cancelled =
    rw (is, id_is, items) (cancelled-run who first rest old new mine lawful (subst (λ (list : List Ready). Stands who list [] old.log) items stands) cancelled)

pub commanded : (who rounds : ℕ) (statement same : Stmt) (before : List Ready) (old : Known) (reply : Reply) (after : List Ready) (new : Known)
    → statement ≡ same → IsRun who (command_plan old.limits who rounds (tasks_of before) same) before old reply after new
    → IsCommand who statement before old reply after new
commanded who rounds statement same before old reply after new is run = record {
  rounds = rounds;
  is_run = subst (λ (s : Stmt). IsRun who (command_plan old.limits who rounds (tasks_of before) s) before old reply after new) (sym is) run;
}

-- it was played by the background that held these builds
pub played-by : (statement : Stmt) (before after : Kept) (old new : Known) (reply : Reply) → after.who ≡ before.who
    → IsCommand before.who statement before.builds old reply after.builds new → IsCommandPlayed statement before old reply after new
played-by statement before after old new reply same command = record {
  same = same;
  known = command.is_run.rest.kept;
  rounds = command.rounds;
  line = record { whole = command.is_run.rest.rest };
}

pub agrees-by : (statement : Stmt) (before after : Kept) (old new : Known) (reply : Reply) → after.who ≡ before.who
    → IsCommand before.who statement before.builds old reply after.builds new → Agrees after new
agrees-by statement before after old new reply same command =
    stands-agrees after new (subst (λ (who : ℕ). Stands who after.builds [] new.log) (sym same) command.is_run.stands)

-- a line that begins no build reads nothing
pub run-counted : (who steps : ℕ) (plan : Plan CommandOutcome) (before : List Ready) (old : Known) (reply : Reply) (after : List Ready) (new : Known)
    → IsRun who plan before old reply after new → IsCounted who steps steps old.log new.log
run-counted who steps plan before old reply after new run =
    none-counted who steps steps old new (on-rest old new plan (Answered reply (tasks_of after)) run.rest) (omega arith)

pub begin-told : (who : ℕ) (kept builds after : List Ready) (old new : Known) (ready : Ready) (built : Built) (reply : Reply) → builds ≡ kept
    → after ≡ builds ++ ready ∷ [] → built ≡ built_of ready.task → reply ≡ said (body.Build built) → IsLawful new.limits new.log
    → IsReady who builds old ready new → IsRun who (begin (tasks_of kept)) kept old reply after new
begin-told who kept builds after old new ready built reply kept_is after_is built_is is lawful ready_is =
    rw (is, built_is, after_is, sym kept_is) (begin-ready who builds old new ready lawful ready_is)

-- the list of those that are held was only given room
pub begin-kept : (who : ℕ) (kept builds : List Ready) (old new : Known) (told_so reply : Reply) → builds ≡ kept → reply ≡ told_so
    → IsRun who (begin (tasks_of builds)) builds old told_so builds new → IsRun who (begin (tasks_of kept)) kept old reply builds new
begin-kept who kept builds old new told_so reply kept_is is run = rw (is, sym kept_is) run

pub evict-commanded : (who extent : ℕ) (name : List ℕ) (statement : Stmt) (before : List Ready) (old : Known) (reply : Reply) (new : Known)
    → statement ≡ stmt.Evict name extent → IsRun who (evict_named who (tasks_of before) statement) before old reply before new
    → IsCommand who statement before old reply before new
evict-commanded who extent name statement before old reply new is run =
    commanded who 0 statement (stmt.Evict name extent) before old reply before new is
    (subst (λ (s : Stmt). IsRun who (evict_named who (tasks_of before) s) before old reply before new) is run)
