-- What callers need to begin a script: players that keep nothing agree with a store in which nothing has happened.
use Rattle.std.proofs.Common.{◌≡◌, ℕ, zero, suc, ◌+◌, List, [], ◌∷◌, ◌++◌, length, map, refl, ap, ◌∙◌, arith}
use Rattle.im_history.specs.Cursors.{opened}
use Rattle.im_history.specs.History.{replay}
use Rattle.im_history.specs.Transactions.{begun}
use Rattle.im_history.proofs.UnitLaws.{held-nil}
use Rattle.im_play.specs.Between.{AreSessions, IsBetween, IsHolding, machine_of, nothing_in, unused_background, unused_from, unused_session}
use Rattle.im_play.specs.Machine.{idle, unused}
use Rattle.im_play.proofs.SessionsLemmas.{holding-new}
use Rattle.im_play.proofs.ThereLemmas.{there-start}
use Rattle.im_reach.specs.Sides.{Known}
use Rattle.im_session.specs.Sessions.{Kept, state_of}
use Rattle.im_statements.specs.Outcomes.{State, fresh}
use Rattle.im_values.specs.declared.limits.TheConstants.{SESSIONS}
use Rattle.im_worker.specs.Background as background

pub unused-states : (who count : ℕ) → map (λ s. state_of s.cursors) (unused_from who count) ≡ unused count
unused-states who zero = refl
unused-states who (suc left) = ap (λ (states : List State). fresh ∷ states) (unused-states (suc who) left)

pub unused-length : (who count : ℕ) → length (unused_from who count) ≡ count
unused-length who zero = refl
unused-length who (suc left) = ap suc (unused-length (suc who) left)

pub unused-last : (who count : ℕ) → unused_from who count ++ unused_session (who + count) ∷ [] ≡ unused_from who (suc count)
unused-last who zero = ap (λ (n : ℕ). unused_session n ∷ []) (let same : who + 0 ≡ who = omega arith in same)
unused-last who (suc left) =
    ap (λ (sessions : List Kept). unused_session who ∷ sessions)
    (ap (λ (n : ℕ). unused_from (suc who) left ++ unused_session n ∷ []) (let same : who + suc left ≡ suc who + left = omega arith in same)
    ∙ unused-last (suc who) left)

pub unused-push : (items after : List Kept) (new : Kept) (who : ℕ) → items ≡ unused_from 0 who → new ≡ unused_session who
    → after ≡ items ++ new ∷ [] → after ≡ unused_from 0 (who + 1)
unused-push items after new who is new_is pushed =
    pushed
    ∙ (ap (λ (sessions : List Kept). sessions ++ new ∷ []) is
    ∙ (ap (λ (session : Kept). unused_from 0 who ++ session ∷ []) (new_is ∙ ap unused_session (let e : who ≡ 0 + who = omega arith in e))
    ∙ (unused-last 0 who ∙ ap (unused_from 0) (let e : suc who ≡ who + 1 = omega arith in e))))

pub unused-all : (items : List Kept) (who : ℕ) → items ≡ unused_from 0 who → who ≡ SESSIONS + 1 → items ≡ unused_from 0 (SESSIONS + 1)
unused-all items who is all = is ∙ ap (unused_from 0) all

-- sessions that keep nothing agree with a store in which nothing has happened
unused-agree : (who count : ℕ) (now : Known) → now.log ≡ [] → AreSessions who (unused_from who count) now
unfolding begun opened replay
unused-agree who zero now empty = tt
unused-agree who (suc left) now empty = (
  refl,
  λ one. record { cursors = record { closed = rw empty refl; queries = rw empty tt }; sound = tt; apart = tt; transaction = rw empty refl },
  unused-agree (suc who) left now empty,
)

-- and so does a background that holds nothing
unused-holds : (now : Known) → now.log ≡ [] → IsHolding unused_background now
unused-holds now empty =
    holding-new unused_background now refl
    (record { builds = rw (empty, held-nil) refl; ready = tt; own = tt })

pub between-start : (area : ℕ) (now : Known) (sessions : List Kept) (kept : background.Kept) → now ≡ nothing_in area
    → sessions ≡ unused_from 0 (SESSIONS + 1) → kept ≡ unused_background → IsBetween now sessions kept
between-start area now sessions kept is unused_is kept_is = rw (is, unused_is, kept_is) (record {
  side = refl;
  limits = refl;
  count = unused-length 0 (SESSIONS + 1);
  agree = unused-agree 0 (SESSIONS + 1) _ refl;
  holding = unused-holds _ refl;
  there = there-start;
})

pub machine-start : (area : ℕ) (now : Known) (sessions : List Kept) (kept : background.Kept) → now ≡ nothing_in area
    → sessions ≡ unused_from 0 (SESSIONS + 1) → kept ≡ unused_background → machine_of now sessions kept ≡ idle
machine-start area now sessions kept is unused_is kept_is =
    rw (is, unused_is, kept_is) (ap (λ (states : List State). record { history = []; states = states; builds = [] }) (unused-states 0 (SESSIONS + 1)))
