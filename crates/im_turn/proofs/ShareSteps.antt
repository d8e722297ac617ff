-- The steps of splitting and joining keep the rule.
use Rattle.std.proofs.Common.{◌≡◌, ◌≢◌, ℕ, zero, suc, ◌≤◌, ◌⊎◌, List, [], ◌∷◌, ◌++◌, true, false, length, set, get_or, All, Contains, slice_index, slice_set, Option, refl, sym, ap, ◌∙◌, subst, inl, inr, ⊎_elim, arith}
use Rattle.std.proofs.lemmas.List.Elements.{All-push, Contains-append_left, Contains-push}
use mathlib.Core.Option.{some, some-injective, some-ne-none}
use lib.ListN.{get_elem?}
use lib.Seq.{set-get_or}
use Rattle.atomic_table.specs.Table.{State, keeps, Allows, Splits, Joins}
use Rattle.atomic_table.proofs.Lists.{set_else}
use Rattle.im_turn.specs.Logs.{entries_of, entries_since, Begins, longer}
use Rattle.im_turn.specs.inner.Views.{Recalls, giving, newcomer, joined, compared, spent}
use Rattle.im_turn.specs.inner.Rule.{Account, Fits, IsAt, HasEnded, Roster, IsHome, HasValue, IsOut, OneHistory}
use Rattle.im_turn.specs.inner.Steps.{SeatState, recalls, Compares}
use Rattle.im_turn.specs.declared.view.View.{View}
use Rattle.im_turn.specs.declared.view.Phase.{Phase}
use Rattle.im_turn.specs.declared.view.Phase.TheVariants.{Idle, Taken, Holding}
use Rattle.im_turn.proofs.LogLemmas.{IsLonger, begins_length, entries_since-begins, no_parts, same_between, own_nothing, longer_is}
use Rattle.im_turn.proofs.RosterLemmas.{at_of_set, fits_moves, fits_told, roster_moves}
use Rattle.im_turn.proofs.PlaceLemmas.{holder_has, out_moves, out_stays, out_comes, home_stays, home_comes}

-- an element that stands in a list with one more at its end
pub at_push : {A : Type 0} (l : List A) (a b : A) (j : ℕ) → get_elem? (l ++ a ∷ []) j ≡ some b
    → (get_elem? l j ≡ some b) ⊎ ((j ≡ length l) × (a ≡ b))
at_push [] a b zero e = inr (refl, some-injective a b e)
at_push [] a b (suc j) e = absurd (some-ne-none b (sym e))
at_push (x ∷ xs) a b zero e = inl e
at_push (x ∷ xs) a b (suc j) e = ⊎_elim (λ t. inl t) (λ t. inr (ap suc t.0, t.1)) (at_push xs a b j e)

-- the account, after a number was given
abbrev pub with_given : {Item : Type 0} → Account Item → ℕ → Account Item
with_given account n = record account { gave = account.gave ++ n ∷ [] }

-- the account, after a pass has ended
abbrev pub with_ended : {Item : Type 0} → Account Item → ℕ × List Item → Account Item
with_ended account old = record account { olds = account.olds ++ old ∷ [] }

module _ {Item : Type 0} (who : Item → ℕ) where
  -- a number that is not in a log is not in its beginnings
  none_before : {xs ys : List Item} (n base : ℕ) → Begins xs ys → base ≤ length xs → entries_since who n base ys ≡ []
      → entries_since who n base xs ≡ []
  none_before {xs} n base p h nothing = no_parts (entries_since who n base xs) (entries_of who n p.rest) (sym (entries_since-begins who n base p h) ∙ nothing)

  -- another view than the first still fits, once a number was given
  fits_given : {account : Account Item} {u : View Item} (n : ℕ) → (u.who ≡ 0 → ⊥) → Fits who account u → Fits who (with_given account n) u
  fits_given {account} {u} n nz f =
      fits_told who f f.found
      (⊎_elim (λ (z : u.who ≡ 0). inl z) (λ (c : Contains account.gave u.who). inr (Contains-append_left account.gave (n ∷ []) u.who c)) f.given)
      f.not_ended (λ z. absurd (nz z))

  -- and so does the first
  fits_first : {account : Account Item} {v : View Item} (n : ℕ) → Fits who account v → v.who ≡ 0
      → Fits who (with_given account n) (giving n v)
  fits_first n f z = fits_told who f f.found (inl z) f.not_ended (λ _. (ap (λ (l : List ℕ). l ++ n ∷ []) (f.first z).0, (f.first z).1))

  -- and so does the new one
  fits_newcomer : {account : Account Item} {views : List (View Item)} {v : View Item} (n : ℕ) → Roster who account views
      → Fits who account v → n ≢ 0 → ¬ Contains account.gave n
      → Fits who (with_given account n) (newcomer n v)
  fits_newcomer {account} {v = v} n r f nz new =
      let nothing = r.strangers n nz new in record {
        sees = f.sees;
        found = record { rest = account.log; is = refl };
        recalls = record {
          past_base = f.recalls.past_base;
          own = none_before n v.base f.sees f.recalls.past_base (ap (λ b. entries_since who n b account.log) f.same_base ∙ nothing);
        };
        all_own = nothing;
        given = inr (Contains-push account.gave n);
        not_ended = λ k d lt e. new (subst (Contains account.gave) e (r.ended k d lt).given);
        first = λ z. absurd (nz z);
        same_fixed = f.same_fixed;
        same_base = f.same_base;
      }

  -- the live views after a split
  roster_splits : {account : Account Item} {views : List (View Item)} {seat : ℕ} {v : View Item} (n : ℕ)
      → Roster who account views → IsAt views seat v → v.who ≡ 0 → n ≢ 0 → ¬ Contains account.gave n
      → Roster who (with_given account n) (set views seat (giving n v) ++ newcomer n v ∷ [])
  roster_splits {account} {views} {seat} {v} n r at first nz new =
      let f : Fits who account v = r.fits seat v at in
      let left : View Item = giving n v in
      let right : View Item = newcomer n v in
      let before = set views seat left in
      let later = with_given account n in
      let not_first : (i : ℕ) (u : View Item) → i ≢ seat → IsAt views i u →
      ¬ (u.who ≡ 0) = λ i u ne there z. ne (r.apart i seat u v there at (z ∙ sym first)) in
      let not_new : (i : ℕ) (u : View Item) → IsAt views i u → ¬ (u.who ≡ n) = λ i u there e. ⊎_elim
      (λ (z : u.who ≡ 0). nz (sym e ∙ z))
      (λ (c : Contains account.gave u.who). new (subst (Contains account.gave) e c))
      (r.fits i u there).given in
      -- the view that stood there before the split
      let number : (i : ℕ) (u : View Item) → IsAt before i u → (x : View Item) × IsAt views i x × (x.who ≡ u.who) = λ i u there. ⊎_elim
      (λ (t : (i ≡ seat) × (left ≡ u)). (v, subst (λ (k : ℕ). IsAt views k v) (sym t.0) at, ap (λ (y : View Item). y.who) t.1))
      (λ (t : (i ≢ seat) × IsAt views i u). (u, t.1, refl))
      (at_of_set views seat i left u there) in
      let old : (i : ℕ) (u : View Item) → IsAt (before ++ right ∷ []) i u → IsAt before i u ⊎ ((i ≡ length before) × (right ≡ u)) = λ i u there. ⊎_elim
      (λ (t : get_elem? before i ≡ some u). inl record { there = t; live = there.live })
      (λ (t : (i ≡ length before) × (right ≡ u)). inr t)
      (at_push before right u i there.there) in
      record {
        past_base = r.past_base;
        fits = λ i u there. ⊎_elim
            (λ (t : IsAt before i u). ⊎_elim
            (λ (x : (i ≡ seat) × (left ≡ u)). subst (Fits who later) x.1 (fits_first n f first))
            (λ (x : (i ≢ seat) × IsAt views i u). fits_given n (not_first i u x.0 x.1) (r.fits i u x.1))
            (at_of_set views seat i left u t))
            (λ (t : (i ≡ length before) × (right ≡ u)). subst (Fits who later) t.1 (fits_newcomer n r f nz new))
            (old i u there);
        apart = λ i j u x a b e. ⊎_elim
            (λ (s : IsAt before i u). let p = number i u s in ⊎_elim
            (λ (t : IsAt before j x). let q = number j x t in r.apart i j p.0 q.0 p.1 q.1 (p.2 ∙ (e ∙ sym q.2)))
            (λ (t : (j ≡ length before) × (right ≡ x)). absurd (not_new i p.0 p.1 (p.2 ∙ (e ∙ ap (λ (y : View Item). y.who) (sym t.1)))))
            (old j x b))
            (λ (s : (i ≡ length before) × (right ≡ u)). ⊎_elim
            (λ (t : IsAt before j x). let q = number j x t in absurd (not_new j q.0 q.1 (q.2 ∙ (sym e ∙ ap (λ (y : View Item). y.who) (sym s.1)))))
            (λ (t : (j ≡ length before) × (right ≡ x)). s.0 ∙ sym t.0)
            (old j x b))
            (old i u a);
        ended = λ k d lt. let was = r.ended k d lt in let o =
            get_or account.olds k d in record { all_own = was.all_own; given = Contains-append_left account.gave (n ∷ []) o.0 was.given };
        strangers = λ m z out. r.strangers m z (λ c. out (Contains-append_left account.gave (n ∷ []) m c));
      }

  -- another view still fits, once a pass has ended whose number is not its own
  fits_ended : {account : Account Item} {u : View Item} (old : ℕ × List Item) → (u.who ≡ 0 → ⊥) → old.0 ≢ u.who
      → Fits who account u → Fits who (with_ended account old) u
  fits_ended {account} {u} old nz ne f =
      let P : ℕ × List Item → Type 0 = λ o. o.0 ≢ u.who in
      fits_told who f f.found f.given (All-push P account.olds old f.not_ended ne) (λ z. absurd (nz z))

  -- and so does the first, which has taken the pass in
  fits_joined : {account : Account Item} {v w : View Item} → Fits who account v → Fits who account w → v.who ≡ 0
      → ¬ (w.who ≡ 0) → Fits who (with_ended account (w.who, w.mine)) (joined v w)
  fits_joined {account} {v} {w} f g z nz =
      let P : ℕ × List Item → Type 0 = λ o. o.0 ≢ v.who in
      fits_told who f g.sees (inl z) (All-push P account.olds (w.who, w.mine) f.not_ended (λ e. nz (e ∙ z)))
      (λ _. ((f.first z).0, ap (λ (l : List (ℕ × List Item)). l ++ (w.who, w.mine) ∷ []) (f.first z).1))

  -- the live views after a join
  roster_joins : {account : Account Item} {views : List (View Item)} {seat other : ℕ} {v w : View Item}
      → Roster who account views → IsAt views seat v → v.who ≡ 0 → IsAt views other w → other ≢ seat
      → Roster who (with_ended account (w.who, w.mine)) (set (set views seat (joined v w)) other spent)
  roster_joins {account} {views} {seat} {other} {v} {w} r at first at_other ne =
      let f : Fits who account v = r.fits seat v at in
      let g : Fits who account w = r.fits other w at_other in
      let left : View Item = joined v w in
      let old : ℕ × List Item = (w.who, w.mine) in
      let later = with_ended account old in
      let nz : ¬ (w.who ≡ 0) = λ z. ne (r.apart other seat w v at_other at (z ∙ sym first)) in
      -- which view stands at a seat now
      let now : (i : ℕ) (u : View Item) → IsAt (set (set views seat left) other spent) i u
      → ((i ≡ seat) × (left ≡ u)) ⊎ ((i ≢ seat) × (i ≢ other) × IsAt views i u) = λ i u there. ⊎_elim
      (λ (t : (i ≡ other) × (spent ≡ u)). let l : false ≡ true = ap (λ (y : View Item). y.live) t.1 ∙ there.live in absurd cc)
      (λ (t : (i ≢ other) × IsAt (set views seat left) i u). ⊎_elim
      (λ (x : (i ≡ seat) × (left ≡ u)). inl x)
      (λ (x : (i ≢ seat) × IsAt views i u). inr (x.0, t.0, x.1))
      (at_of_set views seat i left u t.1))
      (at_of_set (set views seat left) other i spent u there) in
      record {
        past_base = r.past_base;
        fits = λ i u there. ⊎_elim
            (λ (t : (i ≡ seat) × (left ≡ u)). subst (Fits who later) t.1 (fits_joined f g first nz))
            (λ (t : (i ≢ seat) × (i ≢ other) × IsAt views i u).
            fits_ended old (λ z. t.0 (r.apart i seat u v t.2 at (z ∙ sym first))) (λ e. t.1 (r.apart i other u w t.2 at_other (sym e))) (r.fits i u t.2))
            (now i u there);
        apart = λ i j u x a b e. ⊎_elim
            (λ (s : (i ≡ seat) × (left ≡ u)). ⊎_elim
            (λ (t : (j ≡ seat) × (left ≡ x)). s.0 ∙ sym t.0)
            (λ (t : (j ≢ seat) × (j ≢ other) × IsAt views j x). s.0 ∙ r.apart seat j v x at t.2 (ap (λ (y : View Item). y.who) s.1 ∙ e))
            (now j x b))
            (λ (s : (i ≢ seat) × (i ≢ other) × IsAt views i u). ⊎_elim
            (λ (t : (j ≡ seat) × (left ≡ x)). r.apart i seat u v s.2 at (e ∙ sym (ap (λ (y : View Item). y.who) t.1)) ∙ sym t.0)
            (λ (t : (j ≢ seat) × (j ≢ other) × IsAt views j x). r.apart i j u x s.2 t.2 e)
            (now j x b))
            (now i u a);
        ended =
            let kept : All (HasEnded who later) account.olds = λ k d lt. let was = r.ended k d lt in record { all_own = was.all_own; given = was.given } in
            let given : Contains account.gave w.who = ⊎_elim (λ (z : w.who ≡ 0). absurd (nz z)) (λ (c : Contains account.gave w.who). c) g.given in
            All-push (HasEnded who later) account.olds old kept record { all_own = g.all_own; given = given };
        strangers = r.strangers;
      }

-- a pass is idle or is not
idle_or_busy : (p : Phase) → (p ≡ Idle) ⊎ ¬ (p ≡ Idle)
idle_or_busy Idle = inl refl
idle_or_busy Taken = inr (λ e. absurd cc)
idle_or_busy Holding = inr (λ e. absurd cc)

module _ {Value Item : Type 0} (logs : Value → List Item) (who : Item → ℕ) (fixed_of : Value → List ℕ) where
  -- a view keeps its phase, and what it has found and seen where it has the value, and the value is out
  out_keeps : {log : List Item} {s t : State (Option Value) (View Item)} (id : ℕ) (v w : View Item) → IsOut log s → IsAt s.views id v
      → w.live ≡ true → w.phase ≡ v.phase → (¬ (v.phase ≡ Idle) → (w.held ≡ v.held) × (w.seen ≡ v.seen))
      → t.words ≡ s.words → t.homes ≡ s.homes → t.views ≡ set s.views id w → IsOut log t
  out_keeps {log} {s} {t} id v w out at live phase same words homes views = ⊎_elim
      (λ (idle : v.phase ≡ Idle). out_stays w out at idle (phase ∙ idle) words homes views)
      (λ (is_busy : ¬ (v.phase ≡ Idle)).
      let has : HasValue log w = ⊎_elim
      (λ (x : (v.phase ≡ Taken) × (v.held ≡ log)). inl (phase ∙ x.0, (same is_busy).0 ∙ x.1))
      (λ (x : (v.phase ≡ Holding) × (v.seen ≡ log)). inr (phase ∙ x.0, (same is_busy).1 ∙ x.1))
      (holder_has out at is_busy) in
      out_moves w log out at is_busy live has (words ∙ out.words) homes views)
      (idle_or_busy v.phase)

  -- after a load by which a view changes and still fits the history
  loads_kept : {s : State (Option Value) (View Item)} (id : ℕ) (v w : View Item) (h : OneHistory logs who fixed_of s) → IsAt s.views id v
      → w.live ≡ true → w.phase ≡ v.phase → (¬ (v.phase ≡ Idle) → (w.held ≡ v.held) × (w.seen ≡ v.seen)) → w.who ≡ v.who → Fits who h.account w
      → OneHistory logs who fixed_of record { words = slice_set s.words 0 (slice_index s.words 0); homes = s.homes; views = set s.views id w }
  loads_kept {s} id v w h at live phase same number f =
      let log = h.account.log in
      let words : slice_set s.words 0 (slice_index s.words 0) ≡ s.words = set-get_or s.words 0 0 in
      record {
        account = h.account;
        roster = roster_moves who w log h.roster at number (own_nothing who v.who log) f;
        place = ⊎_elim
            (λ (home : IsHome logs fixed_of log h.account.fixed s). inl (home_stays logs fixed_of id w home (phase ∙ home.idle id v at) words refl refl))
            (λ (out : IsOut log s). inr (out_keeps id v w out at live phase same words refl refl))
            h.place;
      }

  -- splitting a seat
  pub splits_allowed : (id : ℕ) (v : View Item) (n : ℕ) → v.live ≡ true → v.who ≡ 0 → n ≢ 0 → ¬ Contains v.gave n
      → Splits (OneHistory logs who fixed_of) id v (giving n v) (newcomer n v)
  splits_allowed id v n live first nz new s h there =
      let at : IsAt s.views id v = record { there = there; live = live } in
      let f : Fits who h.account v = h.roster.fits id v at in
      let new' : ¬ Contains h.account.gave n = λ c. new (subst (λ (l : List ℕ). Contains l n) (sym (f.first first).0) c) in
      let left : View Item = giving n v in
      let right : View Item = newcomer n v in
      let mid : State (Option Value) (View Item) = record { words = s.words; homes = s.homes; views = set s.views id left } in
      let log = h.account.log in
      let fixed = h.account.fixed in
      record {
        account = with_given h.account n;
        roster = roster_splits who n h.roster at first nz new';
        place = ⊎_elim
            (λ (home : IsHome logs fixed_of log fixed s).
            let first_step : IsHome logs fixed_of log fixed mid = home_stays logs fixed_of id left home (home.idle id v at) refl refl refl in
            inl (home_comes logs fixed_of right first_step refl refl refl refl))
            (λ (out : IsOut log s).
            let first_step : IsOut log mid = out_keeps id v left out at live refl (λ _. (refl, refl)) refl refl refl in
            inr (out_comes right first_step refl refl refl refl))
            h.place;
      }

  -- a load that changes nothing
  pub recalls_allowed : (slots id : ℕ) (seat : SeatState Value Item) → seat.0.live ≡ true
      → Allows (OneHistory logs who fixed_of) slots id seat 0 (λ n. n) (λ n. recalls who seat)
  recalls_allowed slots id seat live s h sized there fits =
      let v = seat.0 in
      let at : IsAt s.views id v = record { there = there; live = live } in
      let f : Fits who h.account v = h.roster.fits id v at in (
        v,
        keeps,
        tt,
        loads_kept id v v h at live refl (λ _. (refl, refl)) refl f,
        (refl, f.recalls),
      )

  -- joining a seat
  pub joins_allowed : (id : ℕ) (v : View Item) (other : ℕ) (w : View Item) → v.live ≡ true → v.who ≡ 0 → v.phase ≡ Idle
      → w.live ≡ true → w.phase ≡ Idle
      → Joins (OneHistory logs who fixed_of) id v other w (joined v w) spent
  joins_allowed id v other w live first idle other_live other_idle s h there ne other_there =
      let left : View Item = joined v w in
      let at : IsAt s.views id v = record { there = there; live = live } in
      let at_other : IsAt s.views other w = record { there = sym (set_else s.views id other left ne) ∙ other_there; live = other_live } in
      let mid : State (Option Value) (View Item) = record { words = s.words; homes = s.homes; views = set s.views id left } in
      let at_mid : IsAt mid.views other w = record { there = other_there; live = other_live } in
      let log = h.account.log in
      let fixed = h.account.fixed in
      record {
        account = with_ended h.account (w.who, w.mine);
        roster = roster_joins who h.roster at first at_other ne;
        place = ⊎_elim
            (λ (home : IsHome logs fixed_of log fixed s).
            let first_step : IsHome logs fixed_of log fixed mid = home_stays logs fixed_of id left home idle refl refl refl in
            inl (home_stays logs fixed_of other spent first_step refl refl refl refl))
            (λ (out : IsOut log s).
            let first_step : IsOut log mid = out_stays left out at idle idle refl refl refl in
            inr (out_stays spent first_step at_mid other_idle refl refl refl refl))
            h.place;
      }

  -- the load that compares
  pub compares_allowed : (slots id : ℕ) (seat : SeatState Value Item) → seat.0.live ≡ true → seat.0.phase ≡ Idle
      → Allows (OneHistory logs who fixed_of) slots id seat 0 (λ n. n) (λ n. Compares who seat)
  compares_allowed slots id seat live idle s h sized there fits =
      let v = seat.0 in
      let log = h.account.log in
      let at : IsAt s.views id v = record { there = there; live = live } in
      let f : Fits who h.account v = h.roster.fits id v at in
      let top : IsLonger v.seen v.held (longer v.seen v.held) log = longer_is v.seen v.held log f.sees f.found in
      let w : View Item = compared v in
      let whole : entries_since who v.who v.base log ≡ entries_since who v.who v.base v.seen =
      ap (λ b. entries_since who v.who b log) f.same_base ∙ (f.all_own ∙ sym f.recalls.own) in
      let knows : Recalls who w = record {
        past_base = let p = begins_length top.one_begins in let q = f.recalls.past_base in omega arith;
        own = same_between who v.who v.base top.one_begins top.begins f.recalls.past_base whole ∙ f.recalls.own;
      } in
      let fits' : Fits who h.account w = fits_moves who f top.begins f.found knows f.all_own in (
        w,
        keeps,
        tt,
        loads_kept id v w h at live refl (λ is_busy. absurd (is_busy idle)) refl fits',
        record { is = refl; in_line = top.in_line; seen_begins = top.one_begins; found_begins = top.other_begins; recalls = knows },
      )
