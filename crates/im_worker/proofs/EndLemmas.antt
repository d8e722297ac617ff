-- How a build ends whose unit is ready.
use Rattle.std.proofs.Common.{◌≡◌, ℕ, ◌≤◌, true, false, Option, None, sym, ap, ap₂, ◌∙◌, subst, arith}
use Rattle.std.proofs.lemmas.Bool.Decides.{nat_tests}
use Rattle.im_core.specs.declared.answers.Switched.{Switched}
use Rattle.im_core.specs.declared.answers.Switched.TheVariants.{Done, AreaFull, Cancelled}
use Rattle.im_history.specs.declared.entry.What.{What}
use Rattle.im_history.specs.declared.entry.What.TheVariants.{Switch}
use Rattle.im_history.specs.declared.task.Task.{Task}
use Rattle.im_history.specs.Area.{task_bytes}
use Rattle.im_history.specs.Commits.{scn}
use Rattle.im_history.specs.Contents.{unit_bytes}
use Rattle.im_history.specs.History.{History, behind}
use Rattle.im_history.specs.Legal.{IsLegal}
use Rattle.im_history.specs.Units.{Content, IsOwn, held_at, killed_of, task_content}
use Rattle.im_history.proofs.Laws.{IsLegal-pop}
use Rattle.im_plan.specs.Goes.{After}
use Rattle.im_reach.specs.Sides.{AreOthers, IsSwitched, Known}
use Rattle.im_replies.specs.declared.task.Ending.{Ending}
use Rattle.im_replies.specs.declared.task.Ending.TheVariants as ending
use Rattle.im_statements.specs.Background.{end_by, ending_by, fits_area}
use Rattle.im_worker.specs.inner.Rests.{IsEnded, told_by}
use Rattle.im_worker.proofs.StandingLaws.{IsReached, content-later, legal-before, reached-own}

-- what its unit counts for, others having gone on
bytes-at : (old new : Known) (who : ℕ) (task : Task) (bytes : ℕ) (unit : Content) (what : What) (at : History) → IsLegal new.limits new.log
    → IsOwn old.log who task → unit ≡ task_content old.log task → bytes ≡ unit_bytes unit → After (AreOthers old.side) old.log at
    → new ≡ record old { log = behind at who what } → bytes ≡ task_bytes at task
bytes-at old new who task bytes unit what at legal own holds is after now =
    is ∙ ap unit_bytes (holds ∙ (sym (content-later old.log after.between task within) ∙ ap (λ (h : History). task_content h task) (sym after.log)))
  where
    here : IsLegal new.limits at
    here = (IsLegal-pop new.limits at (record { who = who; what = what }) (subst (IsLegal new.limits) (ap (λ (s : Known). s.log) now) legal)).0

    within : IsReached old.log task
    within = reached-own new.limits old.log who task (legal-before new.limits old.log after.between (subst (IsLegal new.limits) after.log here)) own

-- the facts of an end, by whether something killed the build and whether its unit fits
ended-by : (old new : Known) (who : ℕ) (task : Task) (at : History) (killed : Option ℕ) (fit : _) (told : Ending) → After (AreOthers old.side) old.log at
    → new ≡ record old { log = behind at who (end_by task.id killed fit) } → killed_of (held_at at task.id) ≡ killed → fits_area old.limits at task ≡ fit
    → told ≡ ending_by old.limits who at task killed fit → IsEnded who old task told new
ended-by old new who task at killed fit told after now killed_is fit_is told_is = record {
  at = at;
  after = after;
  now =
      now
      ∙ ap (λ (what : What). record old { log = behind at who what }) (sym (ap₂ (end_by task.id) killed_is fit_is));
  told = told_is ∙ sym (ap₂ (ending_by old.limits who at task) killed_is fit_is);
}

pub ended : {U : Type 0} (content : U → Content) (old new : Known) (who : ℕ) (task : Task) (result : Switched U) (bytes : ℕ) (unit : Content)
    → IsLegal new.limits new.log → IsOwn old.log who task → unit ≡ task_content old.log task → bytes ≡ unit_bytes unit
    → IsSwitched content old new who task result → IsEnded who old task (told_by task.id bytes result) new
ended content old new who task (Done place sum before) bytes unit legal own holds is added =
    ended-by old new who task added.at None true (ending.Switch task.id bytes sum) added.after added.now added.fact.0
    (let less = added.fact.1 in grind (arith, nat_tests, less))
    (ap₂ (ending.Switch task.id) (bytes-at old new who task bytes unit (Switch task.id) added.at legal own holds is added.after added.now) added.fact.3)
ended content old new who task (AreaFull place need free) bytes unit legal own holds is added =
    ended-by old new who task added.at None false (ending.Full task.id need free) added.after added.now added.fact.0
    (let over = added.fact.1 in grind (arith, nat_tests, over)) (ap₂ (ending.Full task.id) added.fact.3 added.fact.4)
ended content old new who task (Cancelled place killed) bytes unit legal own holds is added = record {
  at = added.at;
  after = added.after;
  now = added.now
      ∙ ap (λ (what : What). record old { log = behind added.at who what })
      (sym (ap (λ (o : Option ℕ). end_by task.id o (fits_area old.limits added.at task)) added.fact.0));
  told = sym (ap (λ (o : Option ℕ). ending_by old.limits who added.at task o (fits_area old.limits added.at task)) added.fact.0);
}
