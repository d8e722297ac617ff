-- A worker's job, round by round.
use Rattle.std.proofs.Common.{◌≡◌, ℕ, ◌+◌, ◌-◌, ◌*◌, ◌<◌, ◌≤◌, ◌==◌, ◌&&◌, ◌||◌, inl, inr, Bool, true, false, All, List, [], ◌∷◌, ◌++◌, count_by, cond, fold, length, take, Option, Some, None, IfSome, refl, sym, ap, ap₂, ◌∙◌, subst, arith, append-nil, add-zero, length-append, take_all}
use Rattle.std.specs.List.{list_any}
use Rattle.std.proofs.lemmas.Bool.{cases_Bool}
use Rattle.std.proofs.lemmas.Bool.Decides.{nat_tests}
use Rattle.std.proofs.lemmas.List.{take-append-le}
use Rattle.std.proofs.lemmas.List.Elements.{All-head, All-tail}
use Rattle.std.proofs.lemmas.List.Folds.{list_any-append}
use Rattle.std.proofs.lemmas.List.Sums.{fold_push, sum_by-append, sum_by-cons}
use Rattle.im_history.specs.declared.entry.Entry.{Entry}
use Rattle.im_history.specs.declared.entry.What.{What}
use Rattle.im_history.specs.declared.entry.What.TheVariants.{Cancel}
use Rattle.im_history.specs.declared.limits.Limits.{Limits}
use Rattle.im_history.specs.declared.task.Task.{Task}
use Rattle.im_history.specs.History.{History, behind}
use Rattle.im_history.specs.Leaves.{leaves}
use Rattle.im_history.specs.Legal.{IsLawful}
use Rattle.im_history.specs.Queue.{build_of, next}
use Rattle.im_history.specs.Units.{held_at, killed_of}
use Rattle.im_plan.specs.Goes.{After, MayGoOn}
use Rattle.im_plan.proofs.GoesLaws.{after-after, after-wider, others-go_on}
use Rattle.im_reach.specs.Rests.{Counted}
use Rattle.im_reach.specs.Sides.{AreOthers, Known, StoreSide, missed, speaks}
use Rattle.im_reach.proofs.RestLaws.{Mine, both-came, counted-logged, here, keeps-counted, others-of}
use Rattle.im_replies.specs.declared.task.Ending.{Ending}
use Rattle.im_statements.specs.Background.{end_by, fits_area}
use Rattle.im_worker.specs.declared.work.Ended.TheVariants as ended
use Rattle.im_worker.specs.declared.work.Progress.{Progress}
use Rattle.im_worker.specs.Background.{Ready, builds_of, tasks_of}
use Rattle.im_worker.specs.Reads.{WentOn}
use Rattle.im_worker.specs.Work.{Built, Idled, IsIdleAt, IsRise, Lacked, Piece, Round, Total, Worked, builds_begun, end_of, is_build, is_over, task_in, total_of, with_round}
use Rattle.im_worker.specs.inner.Beginning.{IsIdle, IsReady, Lacked as LackedAt, WasDropped}
use Rattle.im_worker.specs.inner.Rests.{IsEnded}
use Rattle.im_worker.specs.inner.Standing.{Stands}
use Rattle.im_worker.specs.inner.Working.{HasEnded, IsNoted, IsOver, IsRound, IsWorking, misses_by, noted}
use Rattle.im_worker.proofs.CountLemmas.{on-after, on-behind, on-on}
use Rattle.im_worker.proofs.HoldingLaws.{same_number}
use Rattle.im_worker.proofs.RestLemmas.{limits-same}
use Rattle.im_worker.proofs.RunLemmas.{stands-ended}

-- ---- what the history says

module _ (others : History → Type 0) (on : MayGoOn others) (limits : Limits) (who : ℕ) where
  -- others came before a worker's rounds
  pub worked-first : (rounds : List Round) (old at new : History) → After others old at → Worked others limits who rounds at new
      → Worked others limits who rounds old new
  worked-first [] old at new first worked = after-after others on old at new first worked
  worked-first (Built piece ∷ rounds) old at new first worked =
      (after-after others on old at piece.began first worked.0, worked.1, worked.2, worked.3)
  worked-first (Idled place ∷ rounds) old at new first worked = (after-after others on old at place first worked.0, worked.1, worked.2)
  worked-first (Lacked place ∷ rounds) old at new first worked = (after-after others on old at place first worked.0, worked.1)

  -- others came behind them
  pub worked-last : (rounds : List Round) (old at new : History) → Worked others limits who rounds old at → After others at new
      → Worked others limits who rounds old new
  worked-last [] old at new worked last = after-after others on old at new worked last
  worked-last (Built piece ∷ rounds) old at new worked last = (worked.0, worked.1, worked.2, worked-last rounds _ at new worked.3 last)
  worked-last (Idled place ∷ rounds) old at new worked last = (worked.0, worked.1, worked-last rounds place at new worked.2 last)
  worked-last (Lacked place ∷ rounds) old at new worked last = (worked.0, worked-last rounds place at new worked.1 last)

  -- more rounds came behind them
  pub worked-append : (rounds more : List Round) (old mid new : History) → Worked others limits who rounds old mid
      → Worked others limits who more mid new → Worked others limits who (rounds ++ more) old new
  worked-append [] more old mid new worked later = worked-first more old mid new worked later
  worked-append (Built piece ∷ rounds) more old mid new worked later =
      (worked.0, worked.1, worked.2, worked-append rounds more _ mid new worked.3 later)
  worked-append (Idled place ∷ rounds) more old mid new worked later =
      (worked.0, worked.1, worked-append rounds more place mid new worked.2 later)
  worked-append (Lacked place ∷ rounds) more old mid new worked later = (worked.0, worked-append rounds more place mid new worked.1 later)

-- more others may have come
module _ (others more : History → Type 0) (wider : (h : History) → others h → more h) (limits : Limits) (who : ℕ) where
  pub worked-wider : (rounds : List Round) (old new : History) → Worked others limits who rounds old new → Worked more limits who rounds old new
  worked-wider [] old new worked = after-wider others more wider old new worked
  worked-wider (Built piece ∷ rounds) old new worked = (
    after-wider others more wider old piece.began worked.0,
    worked.1,
    after-wider others more wider _ piece.finished worked.2,
    worked-wider rounds _ new worked.3,
  )
  worked-wider (Idled place ∷ rounds) old new worked =
      (after-wider others more wider old place worked.0, worked.1, worked-wider rounds place new worked.2)
  worked-wider (Lacked place ∷ rounds) old new worked = (after-wider others more wider old place worked.0, worked-wider rounds place new worked.1)

-- ---- the builds that a number began

abbrev pub begins : ℕ → Entry → Bool
begins who entry = (entry.who == who) && is_build entry.what

pub begun-append : (h more : History) (who : ℕ) → builds_begun (h ++ more) who ≡ builds_begun h who + count_by (begins who) more
unfolding builds_begun
begun-append h more who = sum_by-append (λ entry. cond (begins who entry) 1 0) h more

-- entries of others begin no build of this number
pub begun-apart : (mine : ℕ → Bool) (who : ℕ) (between : History) → mine who ≡ true → All (λ (entry : Entry). mine entry.who ≡ false) between
    → count_by (begins who) between ≡ 0
begun-apart mine who [] own apart = refl
begun-apart mine who (entry ∷ between) own apart =
    sum_by-cons (λ entry. cond (begins who entry) 1 0) entry between
    ∙ ap₂ (λ (b : Bool) (n : ℕ). cond (b && is_build entry.what) 1 0 + n) other
    (begun-apart mine who between own (All-tail (λ (e : Entry). mine e.who ≡ false) entry between apart))
  where
    other : (entry.who == who) ≡ false
    other = elim (cases_Bool (entry.who == who)) [
      | inl same ↦ absurd (clash (same_is same) (All-head (λ (e : Entry). mine e.who ≡ false) entry between apart))
      | inr differs ↦ differs
    ]
      where
        same_is : (entry.who == who) ≡ true → entry.who ≡ who
        same_is same = grind (arith, nat_tests)

        clash : entry.who ≡ who → mine entry.who ≡ false → ⊥
        clash same none = absurd cc

begun-after : (side : StoreSide) (who : ℕ) (old new : History) → speaks side who ≡ true → After (AreOthers side) old new
    → builds_begun new who ≡ builds_begun old who
begun-after side who old new mine after =
    ap (λ (h : History). builds_begun h who) after.log
    ∙ (begun-append old after.between who
    ∙ (ap (λ (n : ℕ). builds_begun old who + n) (begun-apart (speaks side) who after.between mine after.lawful.apart) ∙ add-zero _))

-- one entry of this number
begun-one : (h : History) (who : ℕ) (what : What) (b : Bool) → is_build what ≡ b → builds_begun (behind h who what) who ≡ builds_begun h who + cond b 1 0
begun-one h who what b is =
    begun-append h (record { who = who; what = what } ∷ []) who
    ∙ ap (λ (n : ℕ). builds_begun h who + n)
    (ap₂ (λ (mine build : Bool). 0 + cond (mine && build) 1 0) (same_number who who refl) is ∙ one b)
  where
    one : (b : Bool) → 0 + cond (true && b) 1 0 ≡ cond b 1 0
    one true = refl
    one false = refl

ends-no_build : (limits : Limits) (at : History) (task : Task) (ready : Bool) → is_build (end_of limits at task ready) ≡ false
ends-no_build limits at task false = refl
ends-no_build limits at task true = by_end (killed_of (held_at at task.id)) (fits_area limits at task)
  where
    by_end : (killed : Option ℕ) (fit : Bool) → is_build (end_by task.id killed fit) ≡ false
    by_end (Some place) fit = refl
    by_end None true = refl
    by_end None false = refl

-- ---- places

pub idle-later : (who place : ℕ) (old mid new : History) → WentOn mid new → IsIdleAt who place old mid → IsIdleAt who place old new
idle-later who place old mid new on idle = record {
  since = idle.since;
  within =
      let longer = length-append mid on.more in
      let is = ap (λ (h : History). length h) on.is in
      let within = idle.within in
      omega (arith, longer, is, within);
  none = ap next same ∙ idle.none;
  unheld = ap (λ (h : History). builds_of h who) same ∙ idle.unheld;
}
  where
    same : take place new ≡ take place mid
    same = ap (λ (h : History). take place h) on.is ∙ take-append-le place mid on.more idle.within

-- none is held beside those of an empty list
unheld-none : (who : ℕ) (builds : List Ready) (h : History) → builds ≡ [] → Stands who builds [] h → builds_of h who ≡ []
unheld-none who builds h none stands = stands.tasks ∙ (append-nil (tasks_of builds) ∙ ap tasks_of none)

-- the history as it is
idle-here : (who place : ℕ) (builds : List Ready) (old new : History) → builds ≡ [] → WentOn old new → next new ≡ None → Stands who builds [] new
    → place ≡ length new → IsIdleAt who place old new
idle-here who place builds old new empty on none stands is = record {
  since =
      let longer = length-append old on.more in
      let same = ap (λ (h : History). length h) on.is in
      omega (arith, longer, same, is);
  within = omega (arith, is);
  none = ap next all ∙ none;
  unheld = ap (λ (h : History). builds_of h who) all ∙ unheld-none who builds new empty stands;
}
  where
    all : take place new ≡ new
    all = take_all place new (omega (arith, is))

-- ---- one round

-- a build began and ended: what was known of that
record Ends (who : ℕ) (piece : Piece) (old new : Known) : Type 0 where
  pub began : After (AreOthers old.side) old.log piece.began
  pub comes : next piece.began ≡ Some piece.choice
  pub later : After (AreOthers old.side) (behind piece.began who (build_of piece.began piece.choice)) piece.finished
  pub now : new ≡ record old { log = behind piece.finished who (end_of old.limits piece.finished (task_in piece) piece.ready) }

round-built : (who : ℕ) (builds : List Ready) (piece : Piece) (old new : Known) → speaks old.side who ≡ true → Ends who piece old new
    → Stands who builds [] new.log → IsRound who builds (Built piece) old new
round-built who builds piece old new mine ends stands = record {
  kept = counted-logged old new (ends.now ∙ ap (λ (h : History). record old { log = h }) (sym log_is));
  worked = (
    others-of old.side old.log piece.began ends.began,
    ends.comes,
    others-of old.side _ piece.finished ends.later,
    subst (λ (h : History). After (Mine old.side) (behind piece.finished who what) h) (sym log_is) (here old.side (behind piece.finished who what)),
  );
  misses = ap (λ (s : Known). s.misses) ends.now;
  begun =
      ap (λ (h : History). builds_begun h who) log_is
      ∙ (begun-one piece.finished who what false (ends-no_build old.limits piece.finished (task_in piece) piece.ready)
      ∙ (add-zero _ ∙ (begun-after old.side who _ piece.finished mine ends.later
      ∙ (begun-one piece.began who (build_of piece.began piece.choice) true refl
      ∙ ap (λ (n : ℕ). n + 1) (begun-after old.side who old.log piece.began mine ends.began)))));
  last = tt;
  stands = stands;
}
  where
    what : What
    what = end_of old.limits piece.finished (task_in piece) piece.ready

    log_is : new.log ≡ behind piece.finished who what
    log_is = ap (λ (s : Known). s.log) ends.now

-- its unit was ready
pub round-ended : (who sessions : ℕ) (builds : List Ready) (before after : Progress) (old mid new : Known) (ready : Ready) (ending : Ending)
    → speaks old.side who ≡ true → IsLawful new.limits new.log → after ≡ record before { left = before.left - 3 } → IsReady who builds old ready mid
    → IsEnded who mid ready.task ending new → IsNoted who sessions builds before after old new
round-ended who sessions builds before after old mid new ready ending mine lawful is ready_is ends = record {
  round = Built piece;
  is_round = round-built who builds piece old new mine
      (record {
        began = ready_is.began.after;
        comes = ready_is.began.comes;
        later = both-came old.side _ mid.log ends.at ready_is.began.later (subst (λ (side : StoreSide). After (AreOthers side) mid.log ends.at) side_is ends.after);
        now =
            ends.now
            ∙ (ap (λ (s : Known). record s { log = behind ends.at who (end_of s.limits ends.at ready.task true) }) ready_is.now
            ∙ ap (λ (task : Task). record old { log = behind ends.at who (end_of old.limits ends.at task true) }) ready_is.began.is);
      })
      (stands-ended who builds mid new ready.task ending (subst (λ (side : StoreSide). speaks side who ≡ true) (sym side_is) mine) lawful
      ready_is.stands ends);
  noted_so = is;
  not_over = refl;
}
  where
    piece : Piece
    piece = record { began = ready_is.began.at; choice = ready_is.began.choice; ready = true; finished = ends.at }

    side_is : mid.side ≡ old.side
    side_is = ap (λ (s : Known). s.side) ready_is.now

-- it was not
pub round-dropped : (who sessions : ℕ) (builds : List Ready) (before after : Progress) (old new : Known) → speaks old.side who ≡ true
    → after ≡ record before { left = before.left - 3 } → WasDropped who builds old new → IsNoted who sessions builds before after old new
round-dropped who sessions builds before after old new mine is dropped = record {
  round = Built piece;
  is_round = round-built who builds piece old new mine
      (record {
        began = dropped.began.after;
        comes = dropped.began.comes;
        later = dropped.began.later;
        now = dropped.now ∙ ap (λ (task : Task). record old { log = behind dropped.last who (Cancel task.id false) }) dropped.began.is;
      })
      dropped.stands;
  noted_so = is;
  not_over = refl;
}
  where
    piece : Piece
    piece = record { began = dropped.began.at; choice = dropped.began.choice; ready = false; finished = dropped.last }

round-idled : {place left : ℕ} (who : ℕ) (builds : List Ready) (old new : Known) → speaks old.side who ≡ true → IsIdle who builds place left old new
    → IsRound who builds (Idled new.log) old new
round-idled who builds old new mine idle = record {
  kept = idle.went.now;
  worked = (others-of old.side old.log new.log idle.went.after, idle.none, here old.side new.log);
  misses = idle.misses;
  begun = begun-after old.side who old.log new.log mine idle.went.after ∙ sym (add-zero _);
  last = refl;
  stands = idle.stands;
}

-- none came next
pub round-idle : (who sessions : ℕ) (builds : List Ready) (before after : Progress) (place left : ℕ) (old new : Known) → speaks old.side who ≡ true
    → (left ≡ sessions → ⊥) → after ≡ record before { left = before.left - 1; idle = Some place } → IsIdle who builds place left old new
    → IsNoted who sessions builds before after old new
round-idle who sessions builds before after place left old new mine more is idle = record {
  round = Idled new.log;
  is_round = round-idled who builds old new mine idle;
  noted_so = is ∙ ap (λ (n : ℕ). record before { left = before.left - 1; idle = Some n }) idle.place_is;
  not_over = ap (λ (n : ℕ). n == sessions) (sym idle.left_is) ∙ grind (arith, nat_tests, more);
}

-- and it is over
pub round-over : (who sessions : ℕ) (builds : List Ready) (place left : ℕ) (old new : Known) → speaks old.side who ≡ true → left ≡ sessions
    → IsIdle who builds place left old new → IsOver who sessions builds place old new
round-over who sessions builds place left old new mine all idle = record {
  is_round = round-idled who builds old new mine idle;
  left = sym idle.left_is ∙ all;
  place_is = idle.place_is;
}

-- memory was out
pub round-lacked : (who sessions : ℕ) (builds : List Ready) (before after : Progress) (old new : Known) → speaks old.side who ≡ true
    → after ≡ record before { left = before.left - 1; lacks = before.lacks + 1 } → LackedAt who builds old new
    → IsNoted who sessions builds before after old new
round-lacked who sessions builds before after old new mine is lacked = record {
  round = Lacked new.log;
  is_round = record {
    kept = lacked.went.now;
    worked = (others-of old.side old.log new.log lacked.went.after, here old.side new.log);
    misses = lacked.misses;
    begun = begun-after old.side who old.log new.log mine lacked.went.after ∙ sym (add-zero _);
    last = tt;
    stands = lacked.stands;
  };
  noted_so = is;
  not_over = refl;
}

-- ---- the totals

total-push : (rounds : List Round) (round : Round) → total_of (rounds ++ round ∷ []) ≡ with_round (total_of rounds) round
unfolding total_of
total-push rounds round = fold_push with_round _ rounds round

record AddsUp (total : Total) : Type 0 where
  pub turns : total.turns ≡ 3 * total.builds + total.misses
  pub lacks : total.lacks ≤ total.misses
  pub busy : total.idle ≡ None → total.misses ≤ total.lacks

adds-up_with : (total : Total) (round : Round) → AddsUp total → AddsUp (with_round total round)
adds-up_with total (Built piece) so = record {
  turns = let turns = so.turns in omega (arith, turns);
  lacks = so.lacks;
  busy = so.busy;
}
adds-up_with total (Idled at) so = record {
  turns = let turns = so.turns in omega (arith, turns);
  lacks = let lacks = so.lacks in omega (arith, lacks);
  busy = λ none. absurd (idled none);
}
  where
    idled : Some (length at) ≡ None → ⊥
    idled none = absurd cc
adds-up_with total (Lacked at) so = record {
  turns = let turns = so.turns in omega (arith, turns);
  lacks = let lacks = so.lacks in omega (arith, lacks);
  busy = λ none. let few = so.busy none in omega (arith, few);
}

adds-up : (rounds : List Round) → AddsUp (total_of rounds)
unfolding total_of
adds-up rounds = from rounds _ (record { turns = refl; lacks = omega arith; busy = λ none. omega arith })
  where
    from : (rounds : List Round) (total : Total) → AddsUp total → AddsUp (fold with_round total rounds)
    from [] total so = so
    from (round ∷ rounds) total so = from rounds (with_round total round) (adds-up_with total round so)

-- ---- the count of misses

abbrev most : ℕ
most = 18446744073709551615

rise-none : (misses : ℕ) → IsRise 0 misses misses
rise-none misses = record { few = omega arith; all = inl (sym (add-zero _)) }

rise-missed : (count old mid : ℕ) → IsRise count old mid → IsRise (count + 1) old (missed mid)
rise-missed count old mid rise = by_top (mid == most) refl
  where
    by_top : (b : Bool) → (mid == most) ≡ b → IsRise (count + 1) old (missed mid)
    by_top true at_most = subst (IsRise (count + 1) old) (sym stays)
        (record { few = let few = rise.few in omega (arith, few); all = inr (grind (arith, nat_tests)) })
      where
        stays : missed mid ≡ mid
        stays = rw at_most refl
    by_top false below = subst (IsRise (count + 1) old) (sym rises) (record {
      few = let few = rise.few in omega (arith, few);
      all = elim rise.all [
        | inl exact ↦ inl (omega (arith, exact))
        | inr full ↦ absurd (clash full)
      ];
    })
      where
        rises : missed mid ≡ mid + 1
        rises = rw below refl

        clash : mid ≡ most → ⊥
        clash full = let differ = below in grind (arith, nat_tests)

rise-round : (total : Total) (round : Round) (old mid new : ℕ) → IsRise total.misses old mid → new ≡ misses_by round mid
    → IsRise (with_round total round).misses old new
rise-round total (Built piece) old mid new rise is = subst (IsRise total.misses old) (sym is) rise
rise-round total (Idled at) old mid new rise is = subst (IsRise (total.misses + 1) old) (sym is) (rise-missed total.misses old mid rise)
rise-round total (Lacked at) old mid new rise is = subst (IsRise (total.misses + 1) old) (sym is) (rise-missed total.misses old mid rise)

-- ---- the job on its way

pub working-none : (who turns sessions : ℕ) (builds : List Ready) (old : Known) (tally : Progress) → tally ≡ record { left = turns; lacks = 0; idle = None }
    → Stands who builds [] old.log → IsWorking who turns sessions builds old tally old
unfolding total_of
working-none who turns sessions builds old tally is stands = rw is (record {
  rounds = [];
  kept = refl;
  worked = here old.side old.log;
  misses = rise-none old.misses;
  begun = sym (add-zero _);
  idle_at = tt;
  left = let none : turns ≡ turns - 0 = omega arith in none;
  few = omega arith;
  lacks = refl;
  room = omega arith;
  idle = refl;
  not_over = refl;
  stands = stands;
})

-- the tally of a round more
record Notes (turns : ℕ) (total : Total) (tally : Progress) : Type 0 where
  pub left : tally.left ≡ turns - total.turns
  pub few : total.turns ≤ turns + 2
  pub lacks : tally.lacks ≡ total.lacks
  pub room : tally.lacks + tally.left ≤ turns
  pub idle : tally.idle ≡ total.idle

notes-next : (turns : ℕ) (total : Total) (tally : Progress) (round : Round) → 0 < tally.left → Notes turns total tally
    → Notes turns (with_round total round) (noted round tally)
notes-next turns total tally (Built piece) some notes = record {
  left = let left = notes.left in omega (arith, left);
  few = let left = notes.left in omega (arith, left, some);
  lacks = notes.lacks;
  room = let room = notes.room in omega (arith, room);
  idle = notes.idle;
}
notes-next turns total tally (Idled at) some notes = record {
  left = let left = notes.left in omega (arith, left);
  few = let left = notes.left in omega (arith, left, some);
  lacks = notes.lacks;
  room = let room = notes.room in omega (arith, room);
  idle = refl;
}
notes-next turns total tally (Lacked at) some notes = record {
  left = let left = notes.left in omega (arith, left);
  few = let left = notes.left in omega (arith, left, some);
  lacks = ap (λ (n : ℕ). n + 1) notes.lacks;
  room = let room = notes.room in omega (arith, room, some);
  idle = notes.idle;
}

notes-of : {who turns sessions : ℕ} {builds : List Ready} {old now : Known} {tally : Progress} → (working : IsWorking who turns sessions builds old tally now)
    → Notes turns (total_of working.rounds) tally
notes-of working = record { left = working.left; few = working.few; lacks = working.lacks; room = working.room; idle = working.idle }

-- a round went on
on-worked : (others : History → Type 0) (limits : Limits) (who : ℕ) (rounds : List Round) (old new : History) → Worked others limits who rounds old new
    → WentOn old new
on-worked others limits who [] old new worked = on-after others old new worked
on-worked others limits who (Built piece ∷ rounds) old new worked =
    on-on old piece.began new (on-after others old piece.began worked.0)
    (on-on piece.began (behind piece.began who (build_of piece.began piece.choice)) new (on-behind piece.began who _)
    (on-on _ piece.finished new (on-after others _ piece.finished worked.2)
    (on-on piece.finished _ new (on-behind piece.finished who (end_of limits piece.finished (task_in piece) piece.ready))
    (on-worked others limits who rounds _ new worked.3))))
on-worked others limits who (Idled at ∷ rounds) old new worked =
    on-on old at new (on-after others old at worked.0) (on-worked others limits who rounds at new worked.2)
on-worked others limits who (Lacked at ∷ rounds) old new worked =
    on-on old at new (on-after others old at worked.0) (on-worked others limits who rounds at new worked.1)

-- the last place at which none came next, others having gone on
idle-stays : (who : ℕ) (builds : List Ready) (idle : Option ℕ) (old mid new : History) → WentOn mid new
    → IfSome idle (λ place. builds ≡ [] → IsIdleAt who place old mid) → IfSome idle (λ place. builds ≡ [] → IsIdleAt who place old new)
idle-stays who builds None old mid new on so = tt
idle-stays who builds (Some place) old mid new on so = λ none. idle-later who place old mid new on (so none)

-- and behind a round
idle-round : (who : ℕ) (builds : List Ready) (tally : Progress) (round : Round) (old : History) (mid new : Known) → IsRound who builds round mid new
    → WentOn old mid.log → IfSome tally.idle (λ place. builds ≡ [] → IsIdleAt who place old mid.log)
    → IfSome (noted round tally).idle (λ place. builds ≡ [] → IsIdleAt who place old new.log)
idle-round who builds tally (Built piece) old mid new is on so =
    idle-stays who builds tally.idle old mid.log new.log (on-worked _ mid.limits who (Built piece ∷ []) mid.log new.log is.worked) so
idle-round who builds tally (Idled at) old mid new is on so = λ none.
    idle-here who (length at) builds old new.log none (on-on old mid.log new.log on (on-worked _ mid.limits who (Idled at ∷ []) mid.log new.log is.worked))
    (ap next (sym is.last) ∙ is.worked.1) is.stands (ap (λ (h : History). length h) is.last)
idle-round who builds tally (Lacked at) old mid new is on so =
    idle-stays who builds tally.idle old mid.log new.log (on-worked _ mid.limits who (Lacked at ∷ []) mid.log new.log is.worked) so

-- a round behind those that were made: its part of the history
worked-more : (who : ℕ) (builds : List Ready) (rounds : List Round) (round : Round) (old mid new : Known)
    → Counted old mid → Worked (Mine old.side) old.limits who rounds old.log mid.log
    → IsRound who builds round mid new → Worked (Mine old.side) old.limits who (rounds ++ round ∷ []) old.log new.log
worked-more who builds rounds round old mid new kept worked is =
    worked-append (Mine old.side) (others-go_on (speaks old.side)) old.limits who rounds (round ∷ []) old.log mid.log new.log worked
    (subst (λ (side : StoreSide). Worked (Mine side) old.limits who (round ∷ []) mid.log new.log) (keeps-counted.side old mid kept)
    (subst (λ (limits : Limits). Worked (Mine mid.side) limits who (round ∷ []) mid.log new.log) (limits-same old mid kept) is.worked))

begun-more : (who : ℕ) (builds : List Ready) (total : Total) (round : Round) (old mid new : Known) → IsRound who builds round mid new
    → builds_begun mid.log who ≡ builds_begun old.log who + total.builds
    → builds_begun new.log who ≡ builds_begun old.log who + (with_round total round).builds
begun-more who builds total (Built piece) old mid new is begun = let more = is.begun in omega (arith, more, begun)
begun-more who builds total (Idled at) old mid new is begun = let more = is.begun in omega (arith, more, begun)
begun-more who builds total (Lacked at) old mid new is begun = let more = is.begun in omega (arith, more, begun)

not_over-more : (sessions : ℕ) (rounds : List Round) (round : Round) → list_any (is_over sessions) rounds ≡ false → is_over sessions round ≡ false
    → list_any (is_over sessions) (rounds ++ round ∷ []) ≡ false
not_over-more sessions rounds round before now =
    list_any-append (is_over sessions) rounds (round ∷ []) ∙ ap₂ (λ (a b : Bool). a || (b || false)) before now

-- one round more
pub working-next : (who turns sessions : ℕ) (builds : List Ready) (old mid new : Known) (before after : Progress) → 0 < before.left
    → IsWorking who turns sessions builds old before mid → IsNoted who sessions builds before after mid new
    → IsWorking who turns sessions builds old after new
working-next who turns sessions builds old mid new before after some working is = record {
  rounds = working.rounds ++ is.round ∷ [];
  kept = keeps-counted.both old mid new working.kept is.is_round.kept;
  worked = worked-more who builds working.rounds is.round old mid new working.kept working.worked is.is_round;
  misses = subst (λ (t : Total). IsRise t.misses old.misses new.misses) total_is
      (rise-round (total_of working.rounds) is.round old.misses mid.misses new.misses working.misses is.is_round.misses);
  begun = subst (λ (t : Total). builds_begun new.log who ≡ builds_begun old.log who + t.builds) total_is
      (begun-more who builds (total_of working.rounds) is.round old mid new is.is_round working.begun);
  idle_at = subst (λ (t : Progress). IfSome t.idle (λ place. builds ≡ [] → IsIdleAt who place old.log new.log)) (sym is.noted_so)
      (idle-round who builds before is.round old.log mid new is.is_round
      (on-worked _ old.limits who working.rounds old.log mid.log working.worked) working.idle_at);
  left = notes.left;
  few = notes.few;
  lacks = notes.lacks;
  room = notes.room;
  idle = notes.idle;
  not_over = not_over-more sessions working.rounds is.round working.not_over is.not_over;
  stands = is.is_round.stands;
}
  where
    total_is : with_round (total_of working.rounds) is.round ≡ total_of (working.rounds ++ is.round ∷ [])
    total_is = sym (total-push working.rounds is.round)

    notes : Notes turns (total_of (working.rounds ++ is.round ∷ [])) after
    notes = subst (λ (t : Progress). Notes turns (total_of (working.rounds ++ is.round ∷ [])) t) (sym is.noted_so)
        (subst (λ (t : Total). Notes turns t (noted is.round before)) total_is
        (notes-next turns (total_of working.rounds) before is.round some (notes-of working)))

-- all turns were made
pub working-spent : (who turns sessions : ℕ) (builds : List Ready) (old new : Known) (tally : Progress) → tally.left ≡ 0
    → IsWorking who turns sessions builds old tally new → HasEnded who turns sessions builds old (ended.Spent tally.lacks tally.idle) new
working-spent who turns sessions builds old new tally none working = record {
  worked = record {
    rounds = working.rounds;
    known = working.kept;
    worked = working.worked;
    misses = working.misses;
    few = working.few;
    told = (working.not_over, all, working.lacks, working.idle);
  };
  over = λ empty. tt;
  spent = record {
    builds = total.builds;
    misses = total.misses;
    begun = working.begun;
    rise = working.misses;
    lacked = let same = working.lacks in let few = sums.lacks in omega (arith, same, few);
    least = let same = sums.turns in omega (arith, all, same);
    most = let same = sums.turns in let few = working.few in omega (arith, few, same);
    busy = λ never.
        let same = sums.turns in
        let few = sums.busy (sym working.idle ∙ never) in
        let lacks = working.lacks in
        omega (arith, all, same, few, lacks);
  };
  idle = λ empty. idle-told who builds tally.idle old.log new.log empty working.idle_at;
  stands = working.stands;
}
  where
    total : Total
    total = total_of working.rounds

    sums : AddsUp total
    sums = adds-up working.rounds

    all : turns ≤ total.turns
    all = let left = working.left in omega (arith, none, left)

    idle-told : (who : ℕ) (builds : List Ready) (idle : Option ℕ) (old new : History) → builds ≡ []
        → IfSome idle (λ place. builds ≡ [] → IsIdleAt who place old new) → IfSome idle (λ place. IsIdleAt who place old new)
    idle-told who builds None old new empty so = tt
    idle-told who builds (Some place) old new empty so = so empty

-- the job is over
pub working-over : (who turns sessions : ℕ) (builds : List Ready) (old mid new : Known) (tally : Progress) (place : ℕ) → 0 < tally.left
    → IsWorking who turns sessions builds old tally mid → IsOver who sessions builds place mid new
    → HasEnded who turns sessions builds old (ended.Over place) new
working-over who turns sessions builds old mid new tally place some working is = record {
  worked = record {
    rounds = working.rounds ++ Idled new.log ∷ [];
    known = keeps-counted.both old mid new working.kept is.is_round.kept;
    worked = worked-more who builds working.rounds (Idled new.log) old mid new working.kept working.worked is.is_round;
    misses = subst (λ (t : Total). IsRise t.misses old.misses new.misses) total_is
        (rise-round (total_of working.rounds) (Idled new.log) old.misses mid.misses new.misses working.misses is.is_round.misses);
    few = subst (λ (t : Total). t.turns ≤ turns + 2) total_is (omega (arith, begun));
    told = (working.rounds, new.log, refl, working.not_over, begun, is.left, is.place_is);
  };
  over = λ empty. record {
    idle = idle-here who place builds old.log new.log empty
        (on-on old.log mid.log new.log (on-worked _ old.limits who working.rounds old.log mid.log working.worked)
        (on-worked _ mid.limits who (Idled new.log ∷ []) mid.log new.log is.is_round.worked))
        is.is_round.worked.1 is.is_round.stands is.place_is;
    left = ap leaves (take_all place new.log (let at = is.place_is in omega (arith, at))) ∙ is.left;
  };
  spent = tt;
  idle = λ empty. tt;
  stands = is.is_round.stands;
}
  where
    total_is : with_round (total_of working.rounds) (Idled new.log) ≡ total_of (working.rounds ++ Idled new.log ∷ [])
    total_is = sym (total-push working.rounds (Idled new.log))

    begun : (total_of working.rounds).turns < turns
    begun = let left = working.left in omega (arith, left, some)

-- a round may lack memory once more
pub working-room : (who turns sessions : ℕ) (builds : List Ready) (old mid : Known) (tally : Progress) → 0 < tally.left
    → IsWorking who turns sessions builds old tally mid → tally.lacks + 1 ≤ turns
working-room who turns sessions builds old mid tally some working = let room = working.room in omega (arith, room, some)
