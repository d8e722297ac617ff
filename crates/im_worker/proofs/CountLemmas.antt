-- The rows that builds read from the blocks, counted.
use Rattle.std.proofs.Common.{◌≡◌, ℕ, ◌+◌, ◌≤◌, List, [], ◌∷◌, ◌++◌, length, Some, refl, sym, ap, ◌∙◌, subst, arith, append-nil, append_assoc}
use Rattle.im_core.specs.Tasks.{task_fetched}
use Rattle.im_history.specs.declared.entry.What.{What}
use Rattle.im_history.specs.declared.task.Task.{Task}
use Rattle.im_history.specs.History.{History, behind}
use Rattle.im_history.specs.Queue.{next, task_of}
use Rattle.im_plan.specs.Goes.{After}
use Rattle.im_plan.specs.Plan.{Plan}
use Rattle.im_reach.specs.Sides.{AreOthers, Known}
use Rattle.im_reach.proofs.RestLaws.{rest-longer}
use Rattle.im_statements.specs.Background.{CommandOutcome}
use Rattle.im_worker.specs.Reads.{AreBegun, IsCounted, Start, WentOn, rows_of_all}
use Rattle.im_worker.specs.inner.Beginning.{IsJust}
use Rattle.im_worker.specs.inner.Rests.{IsEnded, IsRest, Went}

-- ---- longer histories

pub on-same : (h : History) → WentOn h h
on-same h = record { more = []; is = sym (append-nil h) }

pub on-on : (old mid new : History) → WentOn old mid → WentOn mid new → WentOn old new
on-on old mid new first second = record {
  more = first.more ++ second.more;
  is = second.is ∙ (ap (λ (h : History). h ++ second.more) first.is ∙ append_assoc old first.more second.more);
}

pub on-after : (others : History → Type 0) (old new : History) → After others old new → WentOn old new
on-after others old new after = record { more = after.between; is = after.log }

pub on-behind : (h : History) (who : ℕ) (what : What) → WentOn h (behind h who what)
on-behind h who what = record { more = record { who = who; what = what } ∷ []; is = refl }

pub on-went : (old new : Known) → Went old new → WentOn old.log new.log
on-went old new went = on-after (AreOthers old.side) old.log new.log went.after

-- a call that added an entry
pub on-added : (others : History → Type 0) (old at new : History) (who : ℕ) (what : What) → After others old at → new ≡ behind at who what → WentOn old new
on-added others old at new who what after is =
    subst (WentOn old) (sym is) (on-on old at (behind at who what) (on-after others old at after) (on-behind at who what))

pub on-ended : {who : ℕ} {task : Task} (old new : Known) (told : _) → IsEnded who old task told new → WentOn old.log new.log
on-ended {who} old new told ended = on-added (AreOthers old.side) old.log ended.at new.log who _ ended.after (ap (λ (s : Known). s.log) ended.now)

-- a line goes on from where it began
pub on-rest : {who k : ℕ} {builds : List Task} (old new : Known) (plan : Plan CommandOutcome) (outcome : CommandOutcome) → IsRest who k builds old plan outcome new
    → WentOn old.log new.log
on-rest old new plan outcome rest = let longer = rest-longer old new plan outcome rest in record { more = longer.more; is = longer.log }

-- ---- builds that began

begun-earlier : (who : ℕ) (first old : History) (starts : List Start) (new : History)
    → WentOn first old → AreBegun who old starts new → AreBegun who first starts new
begun-earlier who first old [] new on begun = on-on first old new on begun
begun-earlier who first old (start ∷ starts) new on begun = (on-on first old start.at on begun.0, begun.1, begun.2, begun.3)

begun-append : (who : ℕ) (old : History) (first second : List Start) (mid new : History) → AreBegun who old first mid → AreBegun who mid second new
    → AreBegun who old (first ++ second) new
begun-append who old [] second mid new begun more = begun-earlier who old mid second new begun more
begun-append who old (start ∷ first) second mid new begun more =
    (begun.0, begun.1, begun.2, begun-append who start.read first second mid new begun.3 more)

rows-append_all : (first second : List Start) → rows_of_all (first ++ second) ≡ rows_of_all first + rows_of_all second
rows-append_all [] second = omega arith
rows-append_all (start ∷ first) second = let rest = rows-append_all first second in omega (arith, rest)

-- nothing was read
pub none-counted : (who before after : ℕ) (old new : Known) → WentOn old.log new.log → after ≤ before → IsCounted who before after old.log new.log
none-counted who before after old new on few = record { starts = []; begun = on; few = omega (arith, few) }

-- more came behind
pub counted-counted : (who a b c : ℕ) (old mid new : Known) → IsCounted who a b old.log mid.log → IsCounted who b c mid.log new.log
    → IsCounted who a c old.log new.log
counted-counted who a b c old mid new first second = record {
  starts = first.starts ++ second.starts;
  begun = begun-append who old.log first.starts second.starts mid.log new.log first.begun second.begun;
  few =
      let some = first.few in
      let more = second.few in
      let all = rows-append_all first.starts second.starts in
      omega (arith, some, more, all);
}

-- what a build that just began is made of was read
pub one-counted : (who before after : ℕ) (task : Task) (old mid read new : Known)
    → (just : IsJust who task mid) → WentOn old.log just.at → next just.at ≡ Some just.choice
    → WentOn mid.log read.log → WentOn read.log new.log → after ≤ before + length (task_fetched read.log task) → IsCounted who before after old.log new.log
one-counted who before after task old mid read new just on comes later last few = record {
  starts = record { at = just.at; choice = just.choice; read = read.log } ∷ [];
  begun = (on, comes, subst (λ (h : History). WentOn h read.log) just.log later, last);
  few =
      let rows : length (task_fetched read.log task) ≡ length (task_fetched read.log (task_of just.at just.choice)) =
      ap (λ (t : Task). length (task_fetched read.log t)) just.is in
      omega (arith, few, rows);
}
