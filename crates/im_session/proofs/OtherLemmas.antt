-- What others leave as it is, the cursors and the transaction of each number that a side speaks for, and what its own entries do.
use Rattle.std.proofs.Common.{◌≡◌, ℕ, ◌==◌, ◌&&◌, ◌||◌, Bool, true, false, if◌then◌else◌, [], ◌∷◌, ◌++◌, length, List, Option, is_some, All, refl, sym, ap, ◌∙◌, arith, append-nil, append_assoc}
use Rattle.std.specs.List.{list_any}
use Rattle.std.proofs.lemmas.Bool.Decides.{nat_tests}
use Rattle.std.proofs.lemmas.List.Elements.{All-head, All-tail, All-weaker}
use Rattle.im_history.specs.declared.entry.Entry.{Entry}
use Rattle.im_history.specs.declared.entry.What.{What}
use Rattle.im_history.specs.Cursors.{Opened, has_own_open, is_cursor, is_cursor_open, is_own, opened, opened_after}
use Rattle.im_history.specs.History.{History}
use Rattle.im_history.specs.Leaves.{has_left, is_leave}
use Rattle.im_history.specs.Transactions.{begun, begun_after, is_open, pending}
use Rattle.im_history.specs.Transactions as transactions
use Rattle.im_history.proofs.Laws.{begun-push, opened-push, pending-push}
use Rattle.im_history.proofs.LeaveLaws.{has_left-push}
use Rattle.im_plan.specs.Goes.{After}
use Rattle.im_reach.specs.Sides.{Added, AreOthers, Found, Known, StoreSide, speaks}

other-number : (side : StoreSide) (who number : ℕ) → speaks side who ≡ true → speaks side number ≡ false → (number == who) ≡ false
other-number side who number mine other = by (number == who) refl
  where
    by : (b : Bool) → (number == who) ≡ b → (number == who) ≡ false
    by false is = is
    by true is =
        let same : number ≡ who = grind (arith, nat_tests, is) in
        let both : true ≡ false = sym mine ∙ (ap (speaks side) (sym same) ∙ other) in
        absurd cc

-- what entries of other numbers leave as it is stays when others come
module _ {A : Type 0} (f : History → A) (who : ℕ)
    (stays : (h : History) (entry : Entry) → (entry.who == who) ≡ false → f (h ++ entry ∷ []) ≡ f h) where
  stays-behind : (h between : History) → All (λ entry. (entry.who == who) ≡ false) between → f (h ++ between) ≡ f h
  stays-behind h [] apart = ap f (append-nil h)
  stays-behind h (entry ∷ rest) apart =
      ap f (sym (append_assoc h (entry ∷ []) rest))
      ∙ (stays-behind (h ++ entry ∷ []) rest (All-tail (λ (e : Entry). (e.who == who) ≡ false) entry rest apart)
      ∙ stays h entry (All-head (λ (e : Entry). (e.who == who) ≡ false) entry rest apart))

  stays-after : (side : StoreSide) (old at : History) → speaks side who ≡ true → After (AreOthers side) old at → f at ≡ f old
  stays-after side old at mine after =
      ap f after.log
      ∙ stays-behind old after.between
      (All-weaker (λ (e : Entry). speaks side e.who ≡ false) (λ (e : Entry). (e.who == who) ≡ false)
      (λ entry. other-number side who entry.who mine) after.between after.lawful.apart)

-- the session's cursors
pub opened-after : (side : StoreSide) (who : ℕ) (old at : History) → speaks side who ≡ true → After (AreOthers side) old at
    → opened at who ≡ opened old who
opened-after side who =
    stays-after (λ h. opened h who) who
    (λ h entry other.
    opened-push h entry who
    ∙ ap (λ (b : Bool). if b then opened_after h who (opened h who) entry.what else opened h who) other) side

-- a cursor that is open stays open, and one that is not stays shut
pub cursor-after : (side : StoreSide) (who cursor : ℕ) (old at : History) → speaks side who ≡ true → After (AreOthers side) old at
    → is_cursor_open at who cursor ≡ is_cursor_open old who cursor
cursor-after side who cursor old at mine after = ap (list_any (is_cursor cursor)) (opened-after side who old at mine after)

-- and no cursor that a statement opened by itself is open that was not
pub own-after : (side : StoreSide) (who : ℕ) (old at : History) → speaks side who ≡ true → After (AreOthers side) old at
    → has_own_open at who ≡ has_own_open old who
own-after side who old at mine after = ap (list_any (λ (other : Opened). is_own other.cursor)) (opened-after side who old at mine after)

-- its transaction
pub begun-after : (side : StoreSide) (who : ℕ) (old at : History) → speaks side who ≡ true → After (AreOthers side) old at
    → begun at who ≡ begun old who
begun-after side who =
    stays-after (λ h. begun h who) who
    (λ h entry other.
    begun-push h entry who
    ∙ ap (λ (b : Bool). if b then begun_after (length h) (begun h who) entry.what else begun h who) other) side

-- and what it has pending
pub pending-after : (side : StoreSide) (who : ℕ) (old at : History) → speaks side who ≡ true → After (AreOthers side) old at
    → pending at who ≡ pending old who
pending-after side who =
    stays-after (λ h. pending h who) who
    (λ h entry other.
    pending-push h entry who
    ∙ ap (λ (b : Bool). if b then transactions.pending_after (pending h who) entry.what else pending h who) other) side

-- whether it left
pub left-after : (side : StoreSide) (who : ℕ) (old at : History) → speaks side who ≡ true → After (AreOthers side) old at
    → has_left at who ≡ has_left old who
left-after side who =
    stays-after (λ h. has_left h who) who
    (λ h entry other.
    has_left-push h entry who
    ∙ (ap (λ (b : Bool). has_left h who || (b && is_leave entry.what)) other ∙ or-no (has_left h who))) side
  where
    or-no : (b : Bool) → (b || false) ≡ b
    or-no true = refl
    or-no false = refl

-- a session with no transaction open has none once others went on
pub idle-found : (who : ℕ) (old new : Known) (P : History → Type 0) {b : Bool} → speaks old.side who ≡ true → Found old new P
    → is_open old.log who ≡ b → is_open new.log who ≡ b
idle-found who old new P mine found is =
    ap (λ (s : Known). is_open s.log who) found.now ∙ (ap is_some (begun-after old.side who old.log found.at mine found.after) ∙ is)

-- ---- what an entry of the number's own leaves as it is

pub itself : (n : ℕ) → (n == n) ≡ true
itself n = grind (arith, nat_tests)

module _ (who : ℕ) (old new : Known) (entry : What) (P : History → Type 0) (mine : speaks old.side who ≡ true)
    (added : Added old new who (λ at. entry) P) where
  log-added : new.log ≡ added.at ++ record { who = who; what = entry } ∷ []
  log-added = ap (λ (k : Known). k.log) added.now

  pub opened-added : opened new.log who ≡ opened_after added.at who (opened old.log who) entry
  opened-added =
      ap (λ (h : History). opened h who) log-added
      ∙ (opened-push added.at (record { who = who; what = entry }) who
      ∙ (ap (λ (b : Bool). if b then opened_after added.at who (opened added.at who) entry else opened added.at who) (itself who)
      ∙ ap (λ (os : List Opened). opened_after added.at who os entry) (opened-after old.side who old.log added.at mine added.after)))

  pub begun-added : begun new.log who ≡ begun_after (length added.at) (begun old.log who) entry
  begun-added =
      ap (λ (h : History). begun h who) log-added
      ∙ (begun-push added.at (record { who = who; what = entry }) who
      ∙ (ap (λ (b : Bool). if b then begun_after (length added.at) (begun added.at who) entry else begun added.at who) (itself who)
      ∙ ap (λ (b : Option ℕ). begun_after (length added.at) b entry) (begun-after old.side who old.log added.at mine added.after)))

  pub left-added : is_leave entry ≡ false → has_left new.log who ≡ has_left old.log who
  left-added stays =
      ap (λ (h : History). has_left h who) log-added
      ∙ (has_left-push added.at (record { who = who; what = entry }) who
      ∙ (ap (λ (b : Bool). has_left added.at who || ((who == who) && b)) stays
      ∙ (or_never (has_left added.at who) (who == who) ∙ left-after old.side who old.log added.at mine added.after)))
    where
      or_never : (a b : Bool) → (a || (b && false)) ≡ a
      or_never true b = refl
      or_never false true = refl
      or_never false false = refl
