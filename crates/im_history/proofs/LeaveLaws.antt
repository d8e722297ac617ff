-- Who left, after one more entry.
use Rattle.std.proofs.Common.{◌≡◌, ℕ, zero, suc, ◌+◌, ◌≤◌, ◌<◌, ◌==◌, ◌&&◌, ◌||◌, [], ◌∷◌, ◌++◌, length, All, Bool, true, false, if◌then◌else◌, refl, sym, ap, ap₂, ◌∙◌, ⊎_elim, arith}
use Rattle.std.proofs.lemmas.Bool.{false≢true}
use Rattle.std.proofs.lemmas.Bool.Decides.{eqb_tells, nat_tests}
use Rattle.std.proofs.lemmas.List.{length_push}
use Rattle.std.proofs.lemmas.List.Elements.{All-head, All-tail}
use Rattle.im_values.specs.declared.limits.TheConstants.{NUMBERS}
use Rattle.im_history.specs.declared.entry.Entry.{Entry}
use Rattle.im_history.specs.declared.entry.What.{What}
use Rattle.im_history.specs.declared.entry.What.TheVariants.{Leave}
use Rattle.im_history.specs.declared.limits.Limits.{Limits}
use Rattle.im_history.specs.History.{History, replay}
use Rattle.im_history.specs.Leaves.{has_left, is_leave, leaves}
use Rattle.im_history.specs.Legal.{IsAllowed, IsLegal}
use Rattle.im_history.proofs.Laws.{IsLegal-numbers, IsLegal-pop}
use Rattle.im_history.proofs.Replay.{replay-push}
use Rattle.im_history.proofs.RowLaws.{each_history}

pub leaves-push : (h : History) (entry : Entry) → leaves (h ++ entry ∷ []) ≡ (if is_leave entry.what then leaves h + 1 else leaves h)
unfolding leaves
leaves-push h entry = replay-push (λ before so_far e. if is_leave e.what then so_far + 1 else so_far) 0 h entry

pub has_left-push : (h : History) (entry : Entry) (who : ℕ)
    → has_left (h ++ entry ∷ []) who ≡ (has_left h who || ((entry.who == who) && is_leave entry.what))
unfolding has_left
has_left-push h entry who = replay-push (λ before so_far e. so_far || ((e.who == who) && is_leave e.what)) false h entry

-- ---- the empty history

pub leaves-nil : leaves [] ≡ 0
unfolding leaves replay
leaves-nil = refl

pub has_left-nil : (who : ℕ) → has_left [] who ≡ false
unfolding has_left replay
has_left-nil who = refl

-- ---- how many

-- no more sessions left than there are entries
record AreFew (h : History) : Type 0 where
  few : leaves h ≤ length h

one_more : (b : Bool) (n k : ℕ) → n ≤ k → (if b then n + 1 else n) ≤ k + 1
one_more true n k few = omega (arith, few)
one_more false n k few = omega (arith, few)

AreFew-push : (h : History) (entry : Entry) → AreFew h → AreFew (h ++ entry ∷ [])
AreFew-push h entry before = record {
  few = rw (leaves-push h entry, length_push h entry) (one_more (is_leave entry.what) (leaves h) (length h) before.few);
}

pub leaves-few : (h : History) → leaves h ≤ length h
leaves-few h = (each_history AreFew (record { few = rw leaves-nil (omega arith) }) AreFew-push h).few

-- ---- no more than there are numbers

abbrev one_if : Bool → ℕ
one_if true = 1
one_if false = 0

-- how many of the numbers below n pass a test
abbrev passing : (ℕ → Bool) → ℕ → ℕ
passing test zero = 0
passing test (suc n) = passing test n + one_if (test n)

one_if-few : (b : Bool) → one_if b ≤ 1
one_if-few true = omega arith
one_if-few false = omega arith

passing-few : (test : ℕ → Bool) (n : ℕ) → passing test n ≤ n
passing-few test zero = omega arith
passing-few test (suc n) = let before = passing-few test n in let one = one_if-few (test n) in omega (arith, before, one)

passing-none : (test : ℕ → Bool) (n : ℕ) → ((i : ℕ) → test i ≡ false) → passing test n ≡ 0
passing-none test zero none = refl
passing-none test (suc n) none = ap₂ (λ (k : ℕ) (b : Bool). k + one_if b) (passing-none test n none) (none n)

passing-same : (was now : ℕ → Bool) (n : ℕ) → ((i : ℕ) → i < n → now i ≡ was i) → passing now n ≡ passing was n
passing-same was now zero same = refl
passing-same was now (suc n) same =
    ap₂ (λ (k : ℕ) (b : Bool). k + one_if b) (passing-same was now n (λ i less. same i (omega (arith, less)))) (same n (omega arith))

or_yes : (a b : Bool) → b ≡ true → (a || (b && true)) ≡ true
or_yes true b is = refl
or_yes false true is = refl
or_yes false false is = absurd (false≢true is)

or_no : (a b c : Bool) → b ≡ false → (a || (b && c)) ≡ a
or_no true b c is = refl
or_no false false c is = refl
or_no false true c is = absurd (false≢true (sym is))

or_never : (a b : Bool) → (a || (b && false)) ≡ a
or_never true b = refl
or_never false true = refl
or_never false false = refl

-- who left, once one more number is known to have left or not
abbrev left_after : (ℕ → Bool) → ℕ → Bool → ℕ → Bool
left_after was who leave i = was i || ((who == i) && leave)

-- a number that did not leave before leaves
passing-more : (was : ℕ → Bool) (who n : ℕ) → who < n → was who ≡ false → passing (left_after was who true) n ≡ passing was n + 1
passing-more was who zero less stayed = absurd (omega (arith, less))
passing-more was who (suc n) less stayed = ⊎_elim last (earlier (λ below. passing-more was who n below stayed)) (eqb_tells who n)
  where
    last : ((who == n) ≡ true) × (who ≡ n) → passing (left_after was who true) (suc n) ≡ passing was (suc n) + 1
    last is =
        let same : passing (left_after was who true) n ≡ passing was n =
        passing-same was (left_after was who true) n
        (λ i below. let e = is.1 in or_no (was i) (who == i) true (grind (arith, nat_tests, below, e))) in
        let now : one_if (left_after was who true n) ≡ 1 = ap one_if (or_yes (was n) (who == n) is.0) in
        let before : one_if (was n) ≡ 0 = ap one_if (ap was (sym is.1) ∙ stayed) in
        omega (arith, same, now, before)

    earlier : (who < n → passing (left_after was who true) n ≡ passing was n + 1) → ((who == n) ≡ false) × (who ≡ n → ⊥)
        → passing (left_after was who true) (suc n) ≡ passing was (suc n) + 1
    earlier rest other =
        let apart = other.0 in
        let below : who < n = grind (arith, nat_tests, less, apart) in
        let more = rest below in
        let same : one_if (left_after was who true n) ≡ one_if (was n) = ap one_if (or_no (was n) (who == n) true other.0) in
        omega (arith, more, same)

passing-after : (was : ℕ → Bool) (who n : ℕ) (leave : Bool) → who < n → (leave ≡ true → was who ≡ false)
    → passing (left_after was who leave) n ≡ (if leave then passing was n + 1 else passing was n)
passing-after was who n true less stayed = passing-more was who n less (stayed refl)
passing-after was who n false less stayed = passing-same was (left_after was who false) n (λ i below. or_never (was i) (who == i))

-- who leaves did not leave before
leaves_once : (limits : Limits) (h : History) (who : ℕ) (what : What) → IsAllowed limits h who what → is_leave what ≡ true → has_left h who ≡ false
leaves_once limits h who Leave may is = may.once
leaves_once limits h who _ may is = absurd (false≢true is)

last_number : (h : History) (entry : Entry) → All (λ e. e.who < NUMBERS) (h ++ entry ∷ []) → entry.who < NUMBERS
last_number [] entry all = All-head (λ (e : Entry). e.who < NUMBERS) entry [] all
last_number (first ∷ h) entry all = last_number h entry (All-tail (λ (e : Entry). e.who < NUMBERS) first (h ++ entry ∷ []) all)

-- in a legal history so many sessions left as there are numbers that left
record IsCounted (limits : Limits) (h : History) : Type 0 where
  counted : IsLegal limits h → leaves h ≡ passing (has_left h) NUMBERS

IsCounted-nil : (limits : Limits) → IsCounted limits []
IsCounted-nil limits = record { counted = λ legal. leaves-nil ∙ sym (passing-none (has_left []) NUMBERS has_left-nil) }

IsCounted-push : (limits : Limits) (h : History) (entry : Entry) → IsCounted limits h → IsCounted limits (h ++ entry ∷ [])
IsCounted-push limits h entry before = record {
  counted = λ legal.
      let parts = IsLegal-pop limits h entry legal in
      let less = last_number h entry (IsLegal-numbers limits (h ++ entry ∷ []) legal) in
      leaves-push h entry
      ∙ (ap (λ (k : ℕ). if is_leave entry.what then k + 1 else k) (before.counted parts.0)
      ∙ (sym (passing-after (has_left h) entry.who NUMBERS (is_leave entry.what) less (leaves_once limits h entry.who entry.what parts.1))
      ∙ sym (passing-same (left_after (has_left h) entry.who (is_leave entry.what)) (has_left (h ++ entry ∷ [])) NUMBERS
      (λ i below. has_left-push h entry i))));
}

-- no more sessions left than there are numbers, since each leaves once
pub leaves-numbers : (limits : Limits) (h : History) → IsLegal limits h → leaves h ≤ NUMBERS
leaves-numbers limits h legal =
    rw ((each_history (IsCounted limits) (IsCounted-nil limits) (IsCounted-push limits) h).counted legal)
    (passing-few (has_left h) NUMBERS)
