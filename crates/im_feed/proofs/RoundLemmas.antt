-- A sender's job, round by round.
use Rattle.std.proofs.Common.{◌≡◌, ◌≢◌, ℕ, ◌+◌, ◌-◌, ◌<◌, ◌≤◌, ◌==◌, ◌⊎◌, inl, inr, Bool, true, false, All, List, [], ◌∷◌, ◌++◌, length, refl, sym, ap, ◌∙◌, subst, arith, append_assoc, add-zero, length-append}
use Rattle.std.proofs.lemmas.Bool.Decides.{nat_tests}
use Rattle.std.proofs.lemmas.List.Elements.{All-head, All-nil, All-push, All-weaker}
use Rattle.im_history.specs.declared.member.Member.{Member}
use Rattle.im_history.specs.Commits.{scn}
use Rattle.im_history.specs.History.{History}
use Rattle.im_history.specs.Leaves.{leaves}
use Rattle.im_plan.specs.Goes.{After}
use Rattle.im_reach.specs.Rests.{Counted}
use Rattle.im_reach.specs.Sides.{AreOthers, Known, Missed, StoreSide, missed}
use Rattle.im_reach.proofs.RestLaws.{both-came, keeps-counted, nobody-came}
use Rattle.im_feed.specs.declared.sending.Tally.{Tally}
use Rattle.im_feed.specs.Sent.{AreFirst, IsReading, IsRise, WasFull, WasWaited}
use Rattle.im_feed.specs.inner.Sending.{IsGoing, IsOffering, IsRound, IsSending, WasIdle, WasKept, WasLacking, WasPushed, WasRead, when_read, when_waited}
use Rattle.im_feed.proofs.FirstLemmas.{first-got, first-later}

-- ---- the count of misses

abbrev most : ℕ
most = 18446744073709551615

rise-none : (misses : ℕ) → IsRise 0 misses misses
rise-none misses = record { few = omega arith; all = inl (sym (add-zero _)) }

rise-missed : (count old mid : ℕ) → IsRise count old mid → IsRise (count + 1) old (missed mid)
rise-missed count old mid rise = by_top (mid == most) refl
  where
    by_top : (b : Bool) → (mid == most) ≡ b → IsRise (count + 1) old (missed mid)
    by_top true at_most = subst (IsRise (count + 1) old) (sym stays)
        (record { few = let few = rise.few in omega (arith, few); all = inr (grind (arith, nat_tests)) })
      where
        stays : missed mid ≡ mid
        stays = rw at_most refl
    by_top false below = subst (IsRise (count + 1) old) (sym rises) (record {
      few = let few = rise.few in omega (arith, few);
      all = elim rise.all [
        | inl exact ↦ inl (omega (arith, exact))
        | inr full ↦ absurd (clash full)
      ];
    })
      where
        rises : missed mid ≡ mid + 1
        rises = rw below refl

        clash : mid ≡ most → ⊥
        clash full = let differ = below in grind (arith, nat_tests)

-- ---- the feed was full

full-later : (room : ℕ) (pushed more : List Member) → WasFull room pushed → WasFull room (pushed ++ more)
full-later room pushed more was = record {
  before = was.before;
  held = was.held;
  later = was.later ++ more;
  is = ap (λ (l : List Member). l ++ more) was.is ∙ append_assoc (was.before ++ was.held) was.later more;
  full = was.full;
}

waited-later : (room fulls : ℕ) (pushed more : List Member) → WasWaited room fulls pushed → WasWaited room fulls (pushed ++ more)
waited-later room fulls pushed more was = record {
  full = elim was.full [
    | inl none ↦ inl none
    | inr full ↦ inr (full-later room pushed more full)
  ];
}

waited-both : (room first second : ℕ) (pushed : List Member) → WasWaited room first pushed → WasWaited room second pushed → WasWaited room (first + second) pushed
waited-both room first second pushed one two = record {
  full = elim one.full [
    | inl none ↦ (elim two.full [
      | inl none' ↦ inl (omega (arith, none, none'))
      | inr full ↦ inr full
    ])
    | inr full ↦ inr full
  ];
}

-- ---- a member is offered

pub offering-none : (room : ℕ) (tally : Tally) (pushed : List Member) → IsOffering room tally tally pushed pushed
offering-none room tally pushed = record {
  waited = 0;
  some = omega arith;
  full = record { full = inl refl };
  tally = λ i. record tally { left = left i; waits = waits i };
  pushed = refl;
}
  where
    left : tally.left ≡ tally.left - 0
    left = omega arith

    waits : tally.waits ≡ tally.waits + 0
    waits = omega arith

pub offering-next : (room : ℕ) (before mid after : Tally) (old midway new : List Member) → IsOffering room before mid old midway → 0 < mid.left
    → after ≡ when_waited mid → new ≡ midway → WasFull room midway → IsOffering room before after old new
offering-next room before mid after old midway new was some noted same full =
    let within = was.some in
    let at = ap (λ (t : Tally). t.left) was.tally in
    let left : before.left - was.waited - 1 ≡ before.left - (was.waited + 1) = omega arith in
    let waits : before.waits + was.waited + 1 ≡ before.waits + (was.waited + 1) = omega arith in
    record {
      waited = was.waited + 1;
      some = omega (arith, some, within, at);
      full = record { full = inr (subst (WasFull room) was.pushed full) };
      tally = noted ∙ (ap when_waited was.tally ∙ (λ i. record before { left = left i; waits = waits i }));
      pushed = same ∙ was.pushed;
    }

-- ---- rounds

-- others came in a round
moved : (old mid new : Known) (at : History) → Counted old mid → After (AreOthers mid.side) mid.log at → at ≡ new.log
    → After (AreOthers old.side) mid.log new.log
moved old mid new at kept after is =
    subst (λ (log : History). After (AreOthers old.side) mid.log log) is
    (subst (λ (side : StoreSide). After (AreOthers side) mid.log at) (keeps-counted.side old mid kept) after)

-- what was read before
readings-later : (sessions sent more lacks : ℕ) (old mid new : Known) (readings : List History) → After (AreOthers old.side) mid.log new.log → sent ≤ more
    → All (IsReading old.side sessions old.log mid.log sent) readings → All (IsReading old.side sessions old.log new.log more) readings
readings-later sessions sent more lacks old mid new readings after few each =
    All-weaker (IsReading old.side sessions old.log mid.log sent) (IsReading old.side sessions old.log new.log more)
    (λ at (is : IsReading old.side sessions old.log mid.log sent at). record {
      since = is.since;
      until = both-came old.side at mid.log new.log is.until after;
      all = let all = is.all in omega (arith, all, few);
      left = is.left;
    })
    readings each

pub going-none : (room turns sessions : ℕ) (old : Known) (pushed : List Member) → pushed ≡ []
    → IsGoing room turns sessions old (record { left = turns; sent = 0; lacks = 0; waits = 0 }) pushed old
going-none room turns sessions old pushed none = record {
  hand = 0;
  few = omega arith;
  free = λ some. refl;
  is = record {
    kept = refl;
    after = nobody-came old.side old.log;
    first = record { are = none; reached = omega arith };
    waited = record {
      readings = [];
      fulls = 0;
      each = All-nil (IsReading old.side sessions old.log old.log 0);
      full = record { full = inl refl };
      waits_are = refl;
      misses = rise-none old.misses;
    };
    made = omega arith;
  };
}

next-read : (room turns sessions : ℕ) (old mid new : Known) (before after : Tally) (p q : List Member) → 1 ≤ before.left
    → IsSending room turns sessions 0 old before p mid → WasRead room before after p q mid new → IsGoing room turns sessions old after q new
next-read room turns sessions old mid new before after p q some is read = elim read.offered.ended [
  | inl pushed ↦ sent pushed
  | inr kept ↦ over kept
]
  where
    now : new ≡ record mid { log = read.found.at }
    now = read.found.now

    on : After (AreOthers old.side) mid.log new.log
    on = moved old mid new read.found.at is.kept read.found.after (sym (ap (λ (k : Known). k.log) now))

    kept : Counted old new
    kept = keeps-counted.both old mid new is.kept (now ∙ (λ i. record mid { log = sym (ap (λ (k : Known). k.log) now) i; misses = sym (ap (λ (k : Known). k.misses) now) i }))

    came : After (AreOthers old.side) old.log new.log
    came = both-came old.side old.log mid.log new.log is.after on

    same_misses : mid.misses ≡ new.misses
    same_misses = sym (ap (λ (k : Known). k.misses) now)

    waited : ℕ
    waited = read.offered.waited

    sent : WasPushed waited read.member (when_read before) after p q → IsGoing room turns sessions old after q new
    sent pushed =
        let left = ap (λ (t : Tally). t.left) pushed.tally in
        let sent_is = ap (λ (t : Tally). t.sent) pushed.tally in
        let lacks_is = ap (λ (t : Tally). t.lacks) pushed.tally in
        let waits_is = ap (λ (t : Tally). t.waits) pushed.tally in
        let enough = pushed.some in
        let made = is.made in
        let waits = is.waited.waits_are in
        record {
          hand = 0;
          few = omega arith;
          free = λ more. refl;
          is = record {
            kept = kept;
            after = came;
            first = subst (λ (n : ℕ). AreFirst n q new.log) (sym sent_is) (subst (λ (l : List Member). AreFirst (before.sent + 1) l new.log) (sym pushed.pushed)
                (first-got mid new before.sent p read.member is.first read.found));
            waited = record {
              readings = is.waited.readings;
              each = readings-later sessions before.sent after.sent after.lacks old mid new is.waited.readings on (omega (arith, sent_is)) is.waited.each;
              misses = subst (λ (n : ℕ). IsRise (n + length is.waited.readings) old.misses new.misses) (sym lacks_is)
                  (subst (IsRise (before.lacks + length is.waited.readings) old.misses) same_misses is.waited.misses);
              fulls = is.waited.fulls + waited;
              full = subst (WasWaited room (is.waited.fulls + waited)) (sym pushed.pushed)
                  (waited-later room (is.waited.fulls + waited) p (read.member ∷ []) (waited-both room is.waited.fulls waited p is.waited.full read.offered.full));
              waits_are = omega (arith, waits_is, waits);
            };
            made = omega (arith, left, sent_is, lacks_is, waits_is, enough, some, made);
          };
        }

    over : WasKept waited (when_read before) after p q → IsGoing room turns sessions old after q new
    over pushed =
        let left = ap (λ (t : Tally). t.left) pushed.tally in
        let sent_is = ap (λ (t : Tally). t.sent) pushed.tally in
        let lacks_is = ap (λ (t : Tally). t.lacks) pushed.tally in
        let waits_is = ap (λ (t : Tally). t.waits) pushed.tally in
        let all = pushed.all in
        let made = is.made in
        let waits = is.waited.waits_are in
        record {
          hand = 1;
          few = omega arith;
          free = λ more. absurd (omega (arith, left, more));
          is = record {
            kept = kept;
            after = came;
            first = subst (λ (n : ℕ). AreFirst n q new.log) (sym sent_is) (subst (λ (l : List Member). AreFirst before.sent l new.log) (sym pushed.pushed)
                (first-later (AreOthers old.side) before.sent p mid.log new.log on is.first));
            waited = record {
              readings = is.waited.readings;
              each = readings-later sessions before.sent after.sent after.lacks old mid new is.waited.readings on (omega (arith, sent_is)) is.waited.each;
              misses = subst (λ (n : ℕ). IsRise (n + length is.waited.readings) old.misses new.misses) (sym lacks_is)
                  (subst (IsRise (before.lacks + length is.waited.readings) old.misses) same_misses is.waited.misses);
              fulls = is.waited.fulls + waited;
              full = subst (WasWaited room (is.waited.fulls + waited)) (sym pushed.pushed) (waited-both room is.waited.fulls waited p is.waited.full read.offered.full);
              waits_are = omega (arith, waits_is, waits);
            };
            made = omega (arith, left, sent_is, lacks_is, waits_is, all, some, made);
          };
        }

-- what a call that missed leaves
record Missing (old mid new : Known) : Type 0 where
  pub on : After (AreOthers old.side) mid.log new.log
  pub kept : Counted old new
  pub came : After (AreOthers old.side) old.log new.log
  pub misses : new.misses ≡ missed mid.misses

missing : (old mid new : Known) (P : History → Type 0) → Counted old mid → After (AreOthers old.side) old.log mid.log → Missed mid new P → Missing old mid new
missing old mid new P kept came was =
    let log : new.log ≡ was.at = ap (λ (k : Known). k.log) was.now in
    let on = moved old mid new was.at kept was.after (sym log) in
    record {
      on = on;
      kept = keeps-counted.both old mid new kept
          (was.now ∙ (λ i. record mid { log = sym log i; misses = sym (ap (λ (k : Known). k.misses) was.now) i }));
      came = both-came old.side old.log mid.log new.log came on;
      misses = ap (λ (k : Known). k.misses) was.now;
    }

next-idle : (room turns sessions : ℕ) (old mid new : Known) (before after : Tally) (p q : List Member) → 1 ≤ before.left
    → IsSending room turns sessions 0 old before p mid → WasIdle sessions before after p q mid new → IsGoing room turns sessions old after q new
next-idle room turns sessions old mid new before after p q some is idle =
    let went = missing old mid new _ is.kept is.after idle.missed in
    let log : idle.missed.at ≡ new.log = sym (ap (λ (k : Known). k.log) idle.missed.now) in
    let left = ap (λ (t : Tally). t.left) idle.tally in
    let sent_is = ap (λ (t : Tally). t.sent) idle.tally in
    let lacks_is = ap (λ (t : Tally). t.lacks) idle.tally in
    let waits_is = ap (λ (t : Tally). t.waits) idle.tally in
    let made = is.made in
    let waits = is.waited.waits_are in
    let past = subst (λ (h : History). scn h < before.sent + 1) log idle.missed.fact.0 in
    let more = length-append is.waited.readings (new.log ∷ []) in
    let count : before.lacks + length is.waited.readings + 1 ≡ after.lacks + length (is.waited.readings ++ new.log ∷ []) = omega (arith, lacks_is, more) in
    record {
      hand = 0;
      few = omega arith;
      free = λ more. refl;
      is = record {
        kept = went.kept;
        after = went.came;
        first = subst (λ (n : ℕ). AreFirst n q new.log) (sym sent_is) (subst (λ (l : List Member). AreFirst before.sent l new.log) (sym idle.same)
            (first-later (AreOthers old.side) before.sent p mid.log new.log went.on is.first));
        waited = record {
          readings = is.waited.readings ++ new.log ∷ [];
          each = All-push (IsReading old.side sessions old.log new.log after.sent) is.waited.readings new.log
              (readings-later sessions before.sent after.sent after.lacks old mid new is.waited.readings went.on (omega (arith, sent_is)) is.waited.each)
              (record {
                since = went.came;
                until = nobody-came old.side new.log;
                all = omega (arith, past, sent_is);
                left = subst (λ (h : History). leaves h ≢ sessions) log idle.missed.fact.1;
              });
          misses = subst (λ (n : ℕ). IsRise n old.misses new.misses) count
              (subst (IsRise (before.lacks + length is.waited.readings + 1) old.misses) (sym went.misses)
              (rise-missed (before.lacks + length is.waited.readings) old.misses mid.misses is.waited.misses));
          fulls = is.waited.fulls;
          full = subst (WasWaited room is.waited.fulls) (sym idle.same) is.waited.full;
          waits_are = omega (arith, waits_is, waits, more);
        };
        made = omega (arith, left, sent_is, lacks_is, waits_is, some, made);
      };
    }

next-lacking : (room turns sessions : ℕ) (old mid new : Known) (before after : Tally) (p q : List Member) → 1 ≤ before.left
    → IsSending room turns sessions 0 old before p mid → WasLacking before after p q mid new → IsGoing room turns sessions old after q new
next-lacking room turns sessions old mid new before after p q some is lacks =
    let went = missing old mid new _ is.kept is.after lacks.missed in
    let left = ap (λ (t : Tally). t.left) lacks.tally in
    let sent_is = ap (λ (t : Tally). t.sent) lacks.tally in
    let lacks_is = ap (λ (t : Tally). t.lacks) lacks.tally in
    let waits_is = ap (λ (t : Tally). t.waits) lacks.tally in
    let made = is.made in
    let waits = is.waited.waits_are in
    let count : before.lacks + length is.waited.readings + 1 ≡ after.lacks + length is.waited.readings = omega (arith, lacks_is) in
    record {
      hand = 0;
      few = omega arith;
      free = λ more. refl;
      is = record {
        kept = went.kept;
        after = went.came;
        first = subst (λ (n : ℕ). AreFirst n q new.log) (sym sent_is) (subst (λ (l : List Member). AreFirst before.sent l new.log) (sym lacks.same)
            (first-later (AreOthers old.side) before.sent p mid.log new.log went.on is.first));
        waited = record {
          readings = is.waited.readings;
          each = readings-later sessions before.sent after.sent after.lacks old mid new is.waited.readings went.on (omega (arith, sent_is)) is.waited.each;
          misses = subst (λ (n : ℕ). IsRise n old.misses new.misses) count
              (subst (IsRise (before.lacks + length is.waited.readings + 1) old.misses) (sym went.misses)
              (rise-missed (before.lacks + length is.waited.readings) old.misses mid.misses is.waited.misses));
          fulls = is.waited.fulls;
          full = subst (WasWaited room is.waited.fulls) (sym lacks.same) is.waited.full;
          waits_are = omega (arith, waits_is, waits);
        };
        made = omega (arith, left, sent_is, lacks_is, waits_is, some, made);
      };
    }

-- no member is in hand while a turn is left
free-hand : (room turns sessions : ℕ) (old mid : Known) (before : Tally) (p : List Member) → 1 ≤ before.left → IsGoing room turns sessions old before p mid
    → IsSending room turns sessions 0 old before p mid
free-hand room turns sessions old mid before p some going =
    subst (λ (hand : ℕ). IsSending room turns sessions hand old before p mid) (going.free some) going.is

-- one round more
pub going-next : (room turns sessions : ℕ) (old mid new : Known) (before after : Tally) (p q : List Member) → 0 < before.left
    → IsGoing room turns sessions old before p mid → IsRound room sessions before after p q mid new false → IsGoing room turns sessions old after q new
going-next room turns sessions old mid new before after p q some going round =
    let is = free-hand room turns sessions old mid before p some going in
    elim round [
      | inl read ↦ next-read room turns sessions old mid new before after p q some is read
      | inr other ↦ (elim other [
        | inl idle ↦ next-idle room turns sessions old mid new before after p q some is idle
        | inr lacks ↦ next-lacking room turns sessions old mid new before after p q some is lacks
      ])
    ]

-- the last round
pub record HasEnded (sessions : ℕ) (old : Known) (tally : Tally) (pushed : List Member) (new : Known) : Type 0 where
  pub first : AreFirst tally.sent pushed new.log
  pub all : tally.sent ≡ scn new.log
  pub left : leaves new.log ≡ sessions
  pub kept : Counted old new
  pub after : After (AreOthers old.side) old.log new.log

pub going-over : (room turns sessions : ℕ) (old mid new : Known) (before after : Tally) (p q : List Member) → IsGoing room turns sessions old before p mid
    → IsRound room sessions before after p q mid new true → HasEnded sessions old after q new
going-over room turns sessions old mid new before after p q going over =
    let is = going.is in
    let went = missing old mid new _ is.kept is.after over.missed in
    let log : over.missed.at ≡ new.log = sym (ap (λ (k : Known). k.log) over.missed.now) in
    let sent_is = ap (λ (t : Tally). t.sent) over.tally in
    let past = subst (λ (h : History). scn h < before.sent + 1) log over.missed.fact.0 in
    let first : AreFirst after.sent q new.log = subst (λ (n : ℕ). AreFirst n q new.log) (sym sent_is)
    (subst (λ (l : List Member). AreFirst before.sent l new.log) (sym over.same)
    (first-later (AreOthers old.side) before.sent p mid.log new.log went.on is.first)) in
    let reached = first.reached in
    record {
      first = first;
      all = omega (arith, past, reached, sent_is);
      left = subst (λ (h : History). leaves h ≡ sessions) log over.missed.fact.1;
      kept = went.kept;
      after = went.came;
    }

-- ---- what is said where all turns were made

pub some-waits : (room turns sessions : ℕ) (old : Known) (tally : Tally) (pushed : List Member) (now : Known) → IsGoing room turns sessions old tally pushed now
    → (tally.waits ≡ 0) ⊎ WasFull room pushed ⊎ ((at : History) × IsReading old.side sessions old.log now.log tally.sent at)
some-waits room turns sessions old tally pushed now going =
    let is = going.is in
    elim is.waited.full.full [
      | inl none ↦ by_readings is.waited.readings is.waited.each none is.waited.waits_are
      | inr full ↦ inr (inl full)
    ]
  where
    by_readings : (readings : List History) → All (IsReading old.side sessions old.log now.log tally.sent) readings → going.is.waited.fulls ≡ 0
        → tally.waits ≡ length readings + going.is.waited.fulls
        → (tally.waits ≡ 0) ⊎ WasFull room pushed ⊎ ((at : History) × IsReading old.side sessions old.log now.log tally.sent at)
    by_readings [] each none waits = inl (omega (arith, none, waits))
    by_readings (at ∷ readings) each none waits =
        inr (inr (at, All-head (IsReading old.side sessions old.log now.log tally.sent) at readings each))
