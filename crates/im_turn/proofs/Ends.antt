-- The rule holds of a new turn, and what it says at the end.
use Rattle.std.proofs.Common.{◌≡◌, ◌≢◌, ℕ, List, [], ◌∷◌, ◌++◌, true, length, All, Contains, Option, Some, refl, sym, ap, ◌∙◌, subst, inl, ⊎_elim, arith}
use Rattle.std.proofs.lemmas.List.Elements.{All-nil, All-map, All-contains}
use Rattle.std.proofs.Math.Seq.{drop-length}
use mathlib.Core.Option.{some, some-injective, some-ne-none}
use lib.ListN.{get_elem?}
use Rattle.atomic_table.specs.Table.{State, opening, Final, Seen}
use Rattle.im_turn.specs.Logs.{entries_of, entries_since, Begins}
use Rattle.im_turn.specs.Turns.{TurnId}
use Rattle.im_turn.specs.Passes.{PassState, numbers_of}
use Rattle.im_turn.specs.inner.Views.{first_view, state_of}
use Rattle.im_turn.specs.inner.Rule.{Account, Fits, IsAt, HasEnded, IsHome, IsOut, OneHistory}
use Rattle.im_turn.specs.declared.view.View.{View}
use Rattle.im_turn.specs.declared.view.Phase.TheVariants.{Idle}
use Rattle.im_turn.proofs.LogLemmas.{begins_self}
use Rattle.im_turn.proofs.RosterLemmas.{same_view}
use Rattle.im_turn.proofs.PlaceLemmas.{busy}
use Rattle.im_turn.proofs.ShareSteps.{at_push}

module _ {Value Item : Type 0} (logs : Value → List Item) (who : Item → ℕ) (fixed_of : Value → List ℕ) where
  -- the account of a new turn
  new_account : Value → Account Item
  new_account value = record { log = logs value; gave = []; olds = []; fixed = fixed_of value; base = length (logs value) }

  -- since the base there is no entry yet
  none_yet : (value : Value) (n : ℕ) → entries_since who n (length (logs value)) (logs value) ≡ []
  none_yet value n = ap (entries_of who n) (drop-length (logs value))

  -- the first view fits
  fits_new : (value : Value) → Fits who (new_account value) (first_view (logs value) (fixed_of value))
  unfolding new_account
  fits_new value = record {
    sees = begins_self (logs value);
    found = record { rest = logs value; is = refl };
    recalls = record { past_base = omega arith; own = none_yet value 0 };
    all_own = none_yet value 0;
    given = inl refl;
    not_ended = All-nil (λ (old : ℕ × List Item). old.0 ≢ 0);
    first = λ _. (refl, refl);
    same_fixed = refl;
    same_base = refl;
  }

  -- making the table
  pub opens : (value : Value) (n : ℕ) → n ≡ length (logs value)
      → OneHistory logs who fixed_of (opening (n ∷ 0 ∷ []) (Some value ∷ []) (first_view (logs value) (fixed_of value)))
  unfolding new_account
  opens value n count =
      let v : View Item = first_view (logs value) (fixed_of value) in
      let only : (i : ℕ) (u : View Item) → IsAt (v ∷ []) i u → (i ≡ 0) × (v ≡ u) = λ i u at. ⊎_elim
      (λ (t : get_elem? [] i ≡ some u). absurd (some-ne-none u (sym t)))
      (λ (t : (i ≡ 0) × (v ≡ u)). t)
      (at_push [] v u i at.there) in
      record {
        account = new_account value;
        roster = record {
          past_base = omega arith;
          fits = λ i u at. subst (Fits who (new_account value)) (only i u at).1 (fits_new value);
          apart = λ i j u x a b e. (only i u a).0 ∙ sym (only j x b).0;
          ended = All-nil (HasEnded who (new_account value));
          strangers = λ m nz out. none_yet value m;
        };
        place = inl record {
          value = value;
          words = ap (λ k. k ∷ 0 ∷ []) count;
          homes = refl;
          whole = refl;
          same_fixed = refl;
          idle = λ i u at. ap (λ (y : View Item). y.phase) (sym (only i u at).1);
        };
      }

  -- the same of a slot and a key that are known to have the value
  pub opens_at : (value key : Value) (n : ℕ) (row xs : List (Option Value)) → n ≡ length (logs value) → row ≡ []
      → xs ≡ row ++ Some value ∷ [] → key ≡ value
      → OneHistory logs who fixed_of (opening (n ∷ 0 ∷ []) xs (first_view (logs key) (fixed_of key)))
  opens_at value key n row xs count empty slots same =
      let P : List (Option Value) → Value → Type 0 = λ l k. OneHistory logs who fixed_of (opening (n ∷ 0 ∷ []) l (first_view (logs k) (fixed_of k))) in
      let only : xs ≡ Some value ∷ [] = slots ∙ ap (λ (l : List (Option Value)). l ++ Some value ∷ []) empty in
      subst (λ l. P l key) (sym only) (subst (P (Some value ∷ [])) (sym same) (opens value n count))

  -- what the first pass knows of the value at the end
  pub record IsWhole (pass : PassState Item) (value : Value) : Type 0 where
    pub seen : Begins pass.seen (logs value)
    pub own : entries_since who 0 pass.base (logs value) ≡ pass.mine
    pub olds : All (λ old. entries_since who old.0 pass.base (logs value) ≡ old.1) pass.olds
    pub no_others : (n : ℕ) → n ≢ 0 → ¬ Contains (numbers_of pass.olds) n → entries_since who n pass.base (logs value) ≡ []
    pub same_fixed : fixed_of value ≡ pass.fixed

  -- where all have joined, the value is at home
  home_at_end : (id : ℕ) (v : View Item) (s : State (Option Value) (View Item)) (h : OneHistory logs who fixed_of s)
      → IsAt s.views id v → v.who ≡ 0 → v.phase ≡ Idle
      → All (Contains (numbers_of v.olds)) v.gave → IsHome logs fixed_of h.account.log h.account.fixed s
  home_at_end id v s h at first idle joined = ⊎_elim
      (λ (home : IsHome logs fixed_of h.account.log h.account.fixed s). home)
      (λ (out : IsOut h.account.log s).
      let r = h.roster in
      let u = out.view in
      let f : Fits who h.account v = r.fits id v at in
      let g : Fits who h.account u = r.fits out.holder u out.there in
      let is_first : ¬ (u.who ≡ 0) = λ z.
      let same : out.holder ≡ id = r.apart out.holder id u v out.there at (z ∙ sym first) in
      let one : u ≡ v = same_view (subst (λ (i : ℕ). IsAt s.views i u) same out.there) at in
      busy h.account.log u out.has (ap (λ (y : View Item). y.phase) one ∙ idle) in
      let apart : All (λ (n : ℕ). n ≢ u.who) (numbers_of v.olds) =
      All-map (λ (n : ℕ). n ≢ u.who) (λ (old : ℕ × List Item). old.0) v.olds
      (subst (λ (l : List (ℕ × List Item)). All (λ (old : ℕ × List Item). old.0 ≢ u.who) l) (sym (f.first first).1) g.not_ended) in
      let not_given : ¬ Contains h.account.gave u.who = λ c.
      let mine : Contains v.gave u.who = subst (λ (l : List ℕ). Contains l u.who) (sym (f.first first).0) c in
      let old : Contains (numbers_of v.olds) u.who = All-contains (Contains (numbers_of v.olds)) v.gave u.who joined mine in
      All-contains (λ (n : ℕ). n ≢ u.who) (numbers_of v.olds) u.who apart old refl in
      absurd (⊎_elim (λ (z : u.who ≡ 0). is_first z) (λ (c : Contains h.account.gave u.who). not_given c) g.given))
      h.place

  -- closing
  pub closes : (turn : TurnId) (id : ℕ) (v : View Item) (ws : List ℕ) (xs : List (Option Value))
      → Final (Seen (OneHistory logs who fixed_of) id v) ws xs
      → v.live ≡ true → v.who ≡ 0 → v.phase ≡ Idle → All (Contains (numbers_of v.olds)) v.gave
      → (value : Value) × (get_elem? xs 0 ≡ some (Some value)) × IsWhole (state_of turn v) value
  closes turn id v ws xs final live first idle joined =
      let s = final.0 in
      let h : OneHistory logs who fixed_of s = final.1.0 in
      let at : IsAt s.views id v = record { there = final.1.1; live = live } in
      let home = home_at_end id v s h at first idle joined in
      let f : Fits who h.account v = h.roster.fits id v at in
      let value = home.value in
      let log = h.account.log in
      let whole = home.whole in
      let moved : (n : ℕ) → entries_since who n v.base (logs value) ≡ entries_since who n h.account.base log = λ n.
      ap (entries_since who n v.base) whole ∙ ap (λ b. entries_since who n b log) f.same_base in (
        value,
        final.4 0 (Some value) (ap (λ l. get_elem? l 0) home.homes),
        record {
          seen = subst (Begins v.seen) (sym whole) f.sees;
          own = moved 0 ∙ (ap (λ n. entries_since who n h.account.base log) (sym first) ∙ f.all_own);
          olds = subst (λ (l : List (ℕ × List Item)). All (λ old. entries_since who old.0 v.base (logs value) ≡ old.1) l) (sym (f.first first).1)
              (λ k d lt. moved _ ∙ (h.roster.ended k d lt).all_own);
          no_others = λ n nz out. moved n ∙ h.roster.strangers n nz
              (λ c. out (All-contains (Contains (numbers_of v.olds)) v.gave n joined (subst (λ (l : List ℕ). Contains l n) (sym (f.first first).0) c)));
          same_fixed = home.same_fixed ∙ sym f.same_fixed;
        },
      )

  -- the same of the value that stood in the slot
  pub closes_with : (turn : TurnId) (id : ℕ) (v : View Item) (ws : List ℕ) (xs : List (Option Value)) (slot : Option Value) (pass : PassState Item)
      → Final (Seen (OneHistory logs who fixed_of) id v) ws xs → get_elem? xs 0 ≡ some slot → state_of turn v ≡ pass
      → v.live ≡ true → v.phase ≡ Idle → pass.who ≡ 0 → All (Contains (numbers_of pass.olds)) pass.gave
      → (value : Value) × (slot ≡ Some value) × IsWhole pass value
  closes_with turn id v ws xs slot pass final found is live idle first joined =
      let first' : v.who ≡ 0 = ap (λ (p : PassState Item). p.who) is ∙ first in
      let joined' : All (Contains (numbers_of v.olds)) v.gave = subst (λ (p : PassState Item). All (Contains (numbers_of p.olds)) p.gave) (sym is) joined in
      let end = closes turn id v ws xs final live first' idle joined' in (
        end.0,
        some-injective slot (Some end.0) (sym found ∙ end.1),
        subst (λ (p : PassState Item). IsWhole p end.0) is end.2,
      )
