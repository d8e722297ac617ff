-- What each reading of the queue is after one more entry.
use Rattle.std.proofs.Common.{◌≡◌, ℕ, ◌+◌, ◌*◌, ◌^◌, ◌<◌, ◌≤◌, All, [], ◌∷◌, ◌++◌, length, List, Bool, true, false, Some, None, refl, ◌∙◌, arith}
use Rattle.std.proofs.lemmas.Bool.{false≢true}
use Rattle.std.proofs.lemmas.List.{length_push}
use Rattle.std.proofs.lemmas.List.Elements.{All-nil, All-cons, All-head, All-tail}
use Rattle.im_history.specs.declared.entry.Entry.{Entry}
use Rattle.im_history.specs.declared.entry.What.{What}
use Rattle.im_history.specs.declared.entry.What.TheVariants.{Memory, Build, Cancel, Trickle, Evict}
use Rattle.im_history.specs.declared.limits.Limits.{Limits}
use Rattle.im_history.specs.History.{History, replay}
use Rattle.im_history.specs.Legal.{IsAllowed, IsLegal}
use Rattle.im_history.specs.Queue.{is_opened, table_opened_after, spent, spent_after, trickled, trickled_after, waits, waits_after}
use Rattle.im_history.proofs.Laws.{IsLegal-pop}
use Rattle.im_history.proofs.NextLaws.{next-is}
use Rattle.im_history.proofs.Replay.{replay-push}
use Rattle.im_history.proofs.RowLaws.{each_history}

pub waits-push : (h : History) (entry : Entry) (table extent : ℕ)
    → waits (h ++ entry ∷ []) table extent ≡ waits_after table extent h (waits h table extent) entry.what
unfolding waits
waits-push h entry table extent = replay-push (λ before so_far e. waits_after table extent before so_far e.what) false h entry

pub is_opened-push : (h : History) (entry : Entry) (table : ℕ) → is_opened (h ++ entry ∷ []) table ≡ table_opened_after table (is_opened h table) entry.what
unfolding is_opened
is_opened-push h entry table = replay-push (λ before so_far e. table_opened_after table so_far e.what) false h entry

pub trickled-push : (h : History) (entry : Entry) → trickled (h ++ entry ∷ []) ≡ trickled_after (trickled h) entry.what
unfolding trickled
trickled-push h entry = replay-push (λ before so_far e. trickled_after so_far e.what) 0 h entry

pub spent-push : (h : History) (entry : Entry) → spent (h ++ entry ∷ []) ≡ spent_after (spent h) entry.what
unfolding spent
spent-push h entry = replay-push (λ before so_far e. spent_after so_far e.what) 0 h entry

-- ---- the empty history

pub waits-nil : (table extent : ℕ) → waits [] table extent ≡ false
unfolding waits replay
waits-nil table extent = refl

pub is_opened-nil : (table : ℕ) → is_opened [] table ≡ false
unfolding is_opened replay
is_opened-nil table = refl

pub trickled-nil : trickled [] ≡ 0
unfolding trickled replay
trickled-nil = refl

pub spent-nil : spent [] ≡ 0
unfolding spent replay
spent-nil = refl

-- ---- entries that let each extent wait on

-- the entry cancels no build and takes nothing out of the column store
abbrev pub keeps_waits : What → Bool
keeps_waits (Cancel id full) = false
keeps_waits (Evict table extent) = false
keeps_waits (Memory table None) = false
keeps_waits _ = true

waits_after-plain : (table extent : ℕ) (before : History) (so_far : Bool) (what : What) → keeps_waits what ≡ true
    → waits_after table extent before so_far what ≡ so_far
waits_after-plain table extent before so_far (Cancel id full) plain = absurd (false≢true plain)
waits_after-plain table extent before so_far (Evict other place) plain = absurd (false≢true plain)
waits_after-plain table extent before so_far (Memory other None) plain = absurd (false≢true plain)
waits_after-plain table extent before so_far (Memory other (Some level)) plain = refl
waits_after-plain table extent before so_far _ plain = refl

pub waits-plain : (h : History) (entry : Entry) (table extent : ℕ) → keeps_waits entry.what ≡ true
    → waits (h ++ entry ∷ []) table extent ≡ waits h table extent
waits-plain h entry table extent plain =
    waits-push h entry table extent ∙ waits_after-plain table extent h (waits h table extent) entry.what plain

-- ---- credits

-- in a legal history no credit is spent that was not given
record IsPaid (limits : Limits) (h : History) : Type 0 where
  paid : IsLegal limits h → spent h ≤ trickled h

IsPaid-nil : (limits : Limits) → IsPaid limits []
IsPaid-nil limits = record { paid = λ legal. rw (spent-nil, trickled-nil) (omega arith) }

paid_step : (limits : Limits) (h : History) (who : ℕ) (what : What) → IsAllowed limits h who what → spent h ≤ trickled h
    → spent_after (spent h) what ≤ trickled_after (trickled h) what
paid_step limits h who (Build id table extent true) may paid = let left = (next-is h _ may.comes).paid refl in omega (arith, left)
paid_step limits h who (Build id table extent false) may paid = paid
paid_step limits h who (Trickle count) may paid = omega (arith, paid)
paid_step limits h who _ may paid = paid

IsPaid-push : (limits : Limits) (h : History) (entry : Entry) → IsPaid limits h → IsPaid limits (h ++ entry ∷ [])
IsPaid-push limits h entry before = record {
  paid = λ legal.
      let parts = IsLegal-pop limits h entry legal in
      rw (spent-push h entry, trickled-push h entry) (paid_step limits h entry.who entry.what parts.1 (before.paid parts.0));
}

pub spent-paid : (limits : Limits) (h : History) → IsLegal limits h → spent h ≤ trickled h
spent-paid limits h legal = (each_history (IsPaid limits) (IsPaid-nil limits) (IsPaid-push limits) h).paid legal

-- ---- few credits

-- the credits that an entry gives
abbrev pub given_credits : What → ℕ
given_credits (Trickle count) = count
given_credits _ = 0

-- where each entry gives fewer than 2^32, so many entries give no more than so many times that
pub trickled_after-few : (so_far : ℕ) (what : What) (n : ℕ) → given_credits what < 2 ^ 32 → so_far ≤ n * 2 ^ 32
    → trickled_after so_far what ≤ (n + 1) * 2 ^ 32
trickled_after-few so_far (Trickle count) n few within = omega (arith, few, within)
trickled_after-few so_far _ n few within = omega (arith, within)

-- all and the last
all_and_last : {X : Type 0} (P : X → Type 0) (xs : List X) (x : X) → All P (xs ++ x ∷ []) → All P xs × P x
all_and_last P [] x all = (All-nil P, All-head P x [] all)
all_and_last P (y ∷ xs) x all =
    let rest = all_and_last P xs x (All-tail P y (xs ++ x ∷ []) all) in
    (All-cons P y xs (All-head P y (xs ++ x ∷ []) all) rest.0, rest.1)

-- the credits given are few
record AreFew (h : History) : Type 0 where
  few : All (λ entry. given_credits entry.what < 2 ^ 32) h → trickled h ≤ length h * 2 ^ 32

AreFew-nil : AreFew []
AreFew-nil = record { few = λ all. rw trickled-nil (omega arith) }

AreFew-push : (h : History) (entry : Entry) → AreFew h → AreFew (h ++ entry ∷ [])
AreFew-push h entry before = record {
  few = λ all.
      let parts = all_and_last (λ (e : Entry). given_credits e.what < 2 ^ 32) h entry all in
      rw (trickled-push h entry, length_push h entry)
      (trickled_after-few (trickled h) entry.what (length h) parts.1 (before.few parts.0));
}

pub trickled-few : (h : History) → All (λ entry. given_credits entry.what < 2 ^ 32) h → trickled h ≤ length h * 2 ^ 32
trickled-few h all = (each_history AreFew AreFew-nil AreFew-push h).few all
