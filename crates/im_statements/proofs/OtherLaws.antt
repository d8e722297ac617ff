-- What entries of others leave as it is.
use Rattle.std.proofs.Common.{◌≡◌, ℕ, ◌==◌, Bool, true, false, if◌then◌else◌, [], ◌∷◌, ◌++◌, length, is_some, All, refl, sym, ap, ◌∙◌, arith, append-nil, append_assoc}
use Rattle.std.proofs.lemmas.Bool.Decides.{nat_tests}
use Rattle.std.proofs.lemmas.List.Elements.{All-head, All-tail, All-weaker}
use Rattle.im_history.specs.declared.entry.Entry.{Entry}
use Rattle.im_history.specs.Cursors.{opened, opened_after}
use Rattle.im_history.specs.History.{History}
use Rattle.im_history.specs.Transactions.{begun, begun_after, is_open}
use Rattle.im_history.proofs.Laws.{begun-push, opened-push}
use Rattle.im_plan.specs.Goes.{After, Others}

-- a number that is not mine is another
other-number : (mine : ℕ → Bool) (who number : ℕ) → mine who ≡ true → mine number ≡ false → (number == who) ≡ false
other-number mine who number is_mine other = by (number == who) refl
  where
    by : (b : Bool) → (number == who) ≡ b → (number == who) ≡ false
    by false is = is
    by true is =
        let same : number ≡ who = grind (arith, nat_tests, is) in
        let both : true ≡ false = sym is_mine ∙ (ap mine (sym same) ∙ other) in
        absurd cc

-- what one entry of another number leaves as it is stays when others come
module _ {A : Type 0} (f : History → A) (who : ℕ) (stays : (h : History) (entry : Entry) → (entry.who == who) ≡ false → f (h ++ entry ∷ []) ≡ f h) where
  stays-behind : (h between : History) → All (λ entry. (entry.who == who) ≡ false) between → f (h ++ between) ≡ f h
  stays-behind h [] apart = ap f (append-nil h)
  stays-behind h (entry ∷ rest) apart =
      ap f (sym (append_assoc h (entry ∷ []) rest))
      ∙ (stays-behind (h ++ entry ∷ []) rest (All-tail (λ (e : Entry). (e.who == who) ≡ false) entry rest apart)
      ∙ stays h entry (All-head (λ (e : Entry). (e.who == who) ≡ false) entry rest apart))

  pub stays-after : (mine : ℕ → Bool) (old at : History) → mine who ≡ true → After (Others mine) old at → f at ≡ f old
  stays-after mine old at is_mine after =
      ap f after.log
      ∙ stays-behind old after.between
      (All-weaker (λ (e : Entry). mine e.who ≡ false) (λ (e : Entry). (e.who == who) ≡ false) (λ entry. other-number mine who entry.who is_mine)
      after.between after.lawful.apart)

-- the session's cursors
pub opened-after : (mine : ℕ → Bool) (who : ℕ) (old at : History) → mine who ≡ true → After (Others mine) old at → opened at who ≡ opened old who
opened-after mine who =
    stays-after (λ h. opened h who) who
    (λ h entry other.
    opened-push h entry who
    ∙ ap (λ (b : Bool). if b then opened_after h who (opened h who) entry.what else opened h who) other) mine

-- whether its transaction is open
pub is_open-after : (mine : ℕ → Bool) (who : ℕ) (old at : History) → mine who ≡ true → After (Others mine) old at → is_open at who ≡ is_open old who
is_open-after mine who old at is_mine after =
    ap is_some
    (stays-after (λ h. begun h who) who
    (λ h entry other.
    begun-push h entry who
    ∙ ap (λ (b : Bool). if b then begun_after (length h) (begun h who) entry.what else begun h who) other) mine old at is_mine after)
