-- A build that began, and what the line goes on to.
use Rattle.std.proofs.Common.{◌≡◌, ℕ, ◌+◌, ◌≤◌, ◌==◌, false, true, List, [], ◌∷◌, length, Some, None, refl, sym, ap, ◌∙◌, subst}
use Rattle.im_worker.proofs.HoldingLaws.{same_number}
use Rattle.std.specs.Option.{option_map}
use Rattle.im_history.specs.declared.entry.What.TheVariants.{Cancel}
use Rattle.im_history.specs.declared.task.Choice.{Choice}
use Rattle.im_history.specs.declared.task.Task.{Task}
use Rattle.im_history.specs.History.{History, behind}
use Rattle.im_history.specs.Leaves.{leaves}
use Rattle.im_history.specs.Legal.{IsLawful, IsLegal}
use Rattle.im_history.specs.Queue.{build_of, next, task_of}
use Rattle.im_history.specs.Units.{task_content}
use Rattle.im_history.proofs.Laws.{IsLegal-pop}
use Rattle.im_plan.specs.Goes.{After}
use Rattle.im_plan.specs.Plan.{Plan}
use Rattle.im_reach.specs.Sides.{Added, AreOthers, Known, Missed, StoreSide, missed, speaks}
use Rattle.im_reach.proofs.RestLaws.{both-came, counted-logged, went-missed}
use Rattle.im_statements.specs.Background.{Answered, CommandOutcome, begin_next, with_choice}
use Rattle.im_statements.specs.Turns.{memory_reply}
use Rattle.im_worker.specs.Background.{Ready, tasks_of}
use Rattle.im_worker.specs.Reads.{IsCounted, WentOn}
use Rattle.im_core.specs.Tasks.{task_fetched}
use Rattle.im_worker.specs.inner.Beginning.{Began, IsIdle, IsJust, IsReady, Lacked, WasDropped}
use Rattle.im_worker.specs.inner.Rests.{IsRest, Went}
use Rattle.im_worker.specs.inner.Standing.{Stands}
use Rattle.im_worker.proofs.CountLemmas.{on-after, on-went, one-counted}
use Rattle.im_worker.proofs.RestLemmas.{rest-adds, rest-drops, rest-lacks, rest-nothing, rest-went, stands-went}
use Rattle.im_worker.proofs.StandingLaws.{stands-after, stands-begun, stands-finished}

-- ---- what the store's calls say

-- the build that began
abbrev pub Offers : Known → Known → ℕ → Task → Choice → Type 0
Offers old mid who task choice = Added old mid who (λ at. build_of at choice) (λ at. (next at ≡ Some choice) × (task ≡ task_of at choice))

pub just-of : (who : ℕ) (old mid : Known) (task : Task) (choice : Choice) → IsLawful mid.limits mid.log → Offers old mid who task choice → IsJust who task mid
just-of who old mid task choice lawful added = record {
  at = added.at;
  choice = choice;
  log = ap (λ (s : Known). s.log) added.now;
  is = added.fact.1;
  lawful = lawful;
}

began-of : (who : ℕ) (old mid : Known) (task : Task) (choice : Choice) (log : History) → (added : Offers old mid who task choice)
    → After (AreOthers old.side) mid.log log → Began who old task log
began-of who old mid task choice log added later = record {
  at = added.at;
  choice = choice;
  after = added.after;
  comes = added.fact.0;
  is = added.fact.1;
  later = subst (λ (h : History). After (AreOthers old.side) h log) (ap (λ (s : Known). s.log) added.now) later;
}

-- it is left behind those that are held
stands-offered : (who : ℕ) (builds : List Ready) (old mid : Known) (task : Task) (choice : Choice) → speaks old.side who ≡ true → IsLawful mid.limits mid.log
    → Stands who builds [] old.log → Offers old mid who task choice → Stands who builds (task ∷ []) mid.log
stands-offered who builds old mid task choice mine lawful stands added =
    subst (Stands who builds (task ∷ [])) (sym log_is)
    (subst (λ (t : Task). Stands who builds (t ∷ []) (behind at who (build_of at choice))) (sym added.fact.1)
    (stands-begun mid.limits at who choice builds legal (stands-after mid.limits old.side who builds [] old.log at mine before added.after stands)))
  where
    at : History
    at = added.at

    log_is : mid.log ≡ behind at who (build_of at choice)
    log_is = ap (λ (s : Known). s.log) added.now

    legal : IsLegal mid.limits (behind at who (build_of at choice))
    legal = subst (IsLegal mid.limits) log_is lawful.legal

    before : IsLegal mid.limits at
    before = (IsLegal-pop mid.limits at (record { who = who; what = build_of at choice }) legal).0

-- and behind others' entries too
pub stands-read : (who : ℕ) (builds : List Ready) (old mid new : Known) (task : Task) (choice : Choice) → speaks old.side who ≡ true
    → IsLawful mid.limits mid.log → IsLawful new.limits new.log → Stands who builds [] old.log → Offers old mid who task choice → Went mid new
    → Stands who builds (task ∷ []) new.log
stands-read who builds old mid new task choice mine lawful after stands added went =
    stands-went mid new who builds (task ∷ [])
    (subst (λ (side : StoreSide). speaks side who ≡ true) (sym (ap (λ (s : Known). s.side) added.now)) mine) after went
    (stands-offered who builds old mid task choice mine lawful stands added)

side-of : (old mid : Known) {log : History} → mid ≡ record old { log = log } → mid.side ≡ old.side
side-of old mid now = ap (λ (s : Known). s.side) now

pub ready-of : (who : ℕ) (builds : List Ready) (old mid new : Known) (ready : Ready) (choice : Choice) → speaks old.side who ≡ true
    → IsLawful mid.limits mid.log → IsLawful new.limits new.log → Stands who builds [] old.log → Offers old mid who ready.task choice
    → Went mid new → new ≡ record mid { log = new.log } → ready.content ≡ task_content new.log ready.task → IsReady who builds old ready new
ready-of who builds old mid new ready choice mine lawful after stands added went kept content = record {
  began = began-of who old mid ready.task choice new.log added
      (subst (λ (side : StoreSide). After (AreOthers side) mid.log new.log) (side-of old mid added.now) went.after);
  now = kept ∙ ap (λ (s : Known). record s { log = new.log }) added.now;
  stands = stands-read who builds old mid new ready.task choice mine lawful after stands added went;
  content = content;
}

-- what is known after a miss
misses-of : (old new : Known) (P : History → Type 0) → Missed old new P → new.misses ≡ missed old.misses
misses-of old new P miss = ap (λ (s : Known). s.misses) miss.now

pub idle-of : (who : ℕ) (builds : List Ready) (place left : ℕ) (old new : Known) → speaks old.side who ≡ true → IsLawful new.limits new.log
    → Stands who builds [] old.log → Missed old new (λ at. (next at ≡ None) × (place ≡ length at) × (left ≡ leaves at))
    → IsIdle who builds place left old new
idle-of who builds place left old new mine lawful stands miss = record {
  went = went-missed old new _ miss;
  misses = misses-of old new _ miss;
  none = ap (λ (s : Known). next s.log) miss.now ∙ miss.fact.0;
  place_is = miss.fact.1 ∙ sym (ap (λ (s : Known). length s.log) miss.now);
  left_is = miss.fact.2 ∙ sym (ap (λ (s : Known). leaves s.log) miss.now);
  stands = stands-went old new who builds [] mine lawful (went-missed old new _ miss) stands;
}

pub lacked-of : (who : ℕ) (builds : List Ready) (old new : Known) (P : History → Type 0) → speaks old.side who ≡ true → IsLawful new.limits new.log
    → Stands who builds [] old.log → Missed old new P → Lacked who builds old new
lacked-of who builds old new P mine lawful stands miss = record {
  went = went-missed old new P miss;
  misses = misses-of old new P miss;
  stands = stands-went old new who builds [] mine lawful (went-missed old new P miss) stands;
}

id_is : (id : ℕ) → (id == id) ≡ true
id_is id = same_number id id refl

-- its unit was not made: it is cancelled
pub dropped-of : (who : ℕ) (builds : List Ready) (old mid read new : Known) (task : Task) (choice : Choice) (P : History → Type 0)
    → speaks old.side who ≡ true → IsLawful mid.limits mid.log → IsLawful read.limits read.log → IsLawful new.limits new.log → Stands who builds [] old.log
    → Offers old mid who task choice → Went mid read → read ≡ record mid { log = read.log } → Added read new who (λ at. Cancel task.id false) P
    → WasDropped who builds old new
dropped-of who builds old mid read new task choice P mine lawful after legal stands added went kept cancelled = record {
  task = task;
  last = cancelled.at;
  began = began-of who old mid task choice cancelled.at added
      (both-came old.side mid.log read.log cancelled.at (subst (λ (side : StoreSide). After (AreOthers side) mid.log read.log) side_mid went.after)
      (subst (λ (side : StoreSide). After (AreOthers side) read.log cancelled.at) side_read cancelled.after));
  now = cancelled.now
      ∙ (ap (λ (s : Known). record s { log = behind cancelled.at who (Cancel task.id false) })
      (kept ∙ ap (λ (s : Known). record s { log = read.log }) added.now));
  left = left;
  stands = subst (Stands who builds []) (sym log_is)
      (stands-finished new.limits cancelled.at who (Cancel task.id false) builds task whole (id_is task.id) left);
}
  where
    side_mid : mid.side ≡ old.side
    side_mid = side-of old mid added.now

    side_read : read.side ≡ old.side
    side_read = side-of mid read kept ∙ side_mid

    log_is : new.log ≡ behind cancelled.at who (Cancel task.id false)
    log_is = ap (λ (s : Known). s.log) cancelled.now

    whole : IsLegal new.limits (behind cancelled.at who (Cancel task.id false))
    whole = subst (IsLegal new.limits) log_is legal.legal

    before : IsLegal new.limits cancelled.at
    before = (IsLegal-pop new.limits cancelled.at (record { who = who; what = Cancel task.id false }) whole).0

    left : Stands who builds (task ∷ []) cancelled.at
    left = stands-after new.limits read.side who builds (task ∷ []) read.log cancelled.at
        (subst (λ (side : StoreSide). speaks side who ≡ true) (sym side_read) mine) before cancelled.after
        (stands-read who builds old mid read task choice mine lawful after stands added went)

-- ---- the line's plan

-- the build began, and its unit is ready
pub next-ready : (who k : ℕ) (builds : List Ready) (old new last : Known) (ready : Ready) (on : Task → Plan CommandOutcome) (idle : Plan CommandOutcome) (outcome : CommandOutcome)
    → IsReady who builds old ready new → IsRest who (k + 1) (tasks_of builds) new (on ready.task) outcome last
    → IsRest who k (tasks_of builds) old (begin_next on idle) outcome last
next-ready who k builds old new last ready on idle outcome is rest =
    rest-adds who k (tasks_of builds) old mid last (λ at. option_map (build_of at) (next at)) (build_of at choice) at
    (λ at. with_choice on idle at (next at)) outcome (record { after = is.began.after; now = refl })
    (ap (option_map (build_of at)) is.began.comes)
    (subst (λ (p : Plan CommandOutcome). IsRest who (k + 1) (tasks_of builds) mid p outcome last)
    (sym (ap (with_choice on idle at) is.began.comes ∙ ap on (sym is.began.is)))
    (rest-went who (k + 1) (tasks_of builds) mid new last (on ready.task) outcome
    (record { after = is.began.later; now = counted-logged mid new is.now }) rest))
  where
    at : History
    at = is.began.at

    choice : Choice
    choice = is.began.choice

    mid : Known
    mid = record old { log = behind at who (build_of at choice) }

-- there was none
pub next-idle : {place left : ℕ} (who k : ℕ) (builds : List Ready) (old new last : Known) (on : Task → Plan CommandOutcome) (idle : Plan CommandOutcome)
    (outcome : CommandOutcome) → IsIdle who builds place left old new
    → IsRest who k (tasks_of builds) new idle outcome last → IsRest who k (tasks_of builds) old (begin_next on idle) outcome last
next-idle who k builds old new last on idle outcome is rest =
    rest-nothing who k (tasks_of builds) old new last false (λ at. option_map (build_of at) (next at)) (λ at. with_choice on idle at (next at)) outcome is.went
    (ap (option_map (build_of new.log)) is.none)
    (subst (λ (p : Plan CommandOutcome). IsRest who k (tasks_of builds) new p outcome last) (sym (ap (with_choice on idle new.log) is.none)) rest)

-- memory lacked
pub next-lacks : (who k : ℕ) (builds : List Ready) (old new : Known) (plan : Plan CommandOutcome) → Lacked who builds old new
    → IsRest who k (tasks_of builds) old plan (Answered (memory_reply k) (tasks_of builds)) new
next-lacks who k builds old new plan lacked = rest-lacks who k builds old new plan lacked.went lacked.stands

-- and the build that had begun was cancelled
pub next-dropped : (who k : ℕ) (builds : List Ready) (old new : Known) (on : Task → Plan CommandOutcome) (idle : Plan CommandOutcome) → IsLegal new.limits new.log
    → WasDropped who builds old new → IsRest who k (tasks_of builds) old (begin_next on idle) (Answered (memory_reply (k + 1)) (tasks_of builds)) new
next-dropped who k builds old new on idle legal is =
    rest-adds who k (tasks_of builds) old mid new (λ at. option_map (build_of at) (next at)) (build_of at choice) at
    (λ at. with_choice on idle at (next at)) (Answered (memory_reply (k + 1)) (tasks_of builds)) (record { after = is.began.after; now = refl })
    (ap (option_map (build_of at)) is.began.comes)
    (rest-drops who (k + 1) builds is.task mid new is.last (with_choice on idle at (next at)) (record { after = is.began.later; now = is.now }) legal is.left)
  where
    at : History
    at = is.began.at

    choice : Choice
    choice = is.began.choice

    mid : Known
    mid = record old { log = behind at who (build_of at choice) }

-- ---- the steps

-- what the build that began is made of was read
pub begun-counted : (who before after : ℕ) (old mid read new : Known) (task : Task) (choice : Choice) → IsLawful mid.limits mid.log
    → Offers old mid who task choice → Went mid read → WentOn read.log new.log → after ≤ before + length (task_fetched read.log task)
    → IsCounted who before after old.log new.log
unfolding just-of
begun-counted who before after old mid read new task choice lawful added went last few =
    one-counted who before after task old mid read new (just-of who old mid task choice lawful added)
    (on-after (AreOthers old.side) old.log added.at added.after) added.fact.0 (on-went mid read went) last few
