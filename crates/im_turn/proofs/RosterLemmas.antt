-- The live views, when one of them changes.
use Rattle.std.proofs.Common.{◌≡◌, ◌≢◌, ℕ, zero, suc, ◌≤◌, ◌⊎◌, List, [], ◌∷◌, true, length, set, All, Contains, get_or, refl, sym, ap, ◌∙◌, subst, inl, inr, ⊎_elim, arith}
use mathlib.Core.Option.{some, some-injective, some-ne-none}
use lib.ListN.{get_elem?}
use Rattle.atomic_table.proofs.Lists.{at_set, set_else}
use Rattle.im_turn.specs.Logs.{entries_since, Begins, GrewByOwn}
use Rattle.im_turn.specs.inner.Views.{Recalls}
use Rattle.im_turn.specs.inner.Rule.{Account, Fits, IsAt, Roster}
use Rattle.im_turn.specs.declared.view.View.{View}
use Rattle.im_turn.specs.declared.view.Phase.{Phase}
use Rattle.im_turn.proofs.LogLemmas.{begins_trans, begins_length, own_leaves, own_begins}

-- an element that is there can be set
pub set_there : {A : Type 0} (l : List A) (i : ℕ) (a b : A) → get_elem? l i ≡ some b → get_elem? (set l i a) i ≡ some a
set_there [] i a b e = absurd (some-ne-none b (sym e))
set_there (x ∷ xs) zero a b e = refl
set_there (x ∷ xs) (suc i) a b e = set_there xs i a b e

module _ {Item : Type 0} where
  -- a live view that is set stands at its seat
  pub is_at_set : {views : List (View Item)} {seat : ℕ} {v : View Item} (w : View Item) → IsAt views seat v → w.live ≡ true
      → IsAt (set views seat w) seat w
  is_at_set {views} {seat} {v} w at live = record { there = set_there views seat w v at.there; live = live }

  -- what stands at a seat once another view was set
  pub at_of_set : (views : List (View Item)) (seat other : ℕ) (w u : View Item) → IsAt (set views seat w) other u
      → ((other ≡ seat) × (w ≡ u)) ⊎ ((other ≢ seat) × IsAt views other u)
  at_of_set views seat other w u at = ⊎_elim
      (λ (t : (other ≡ seat) × (w ≡ u)). inl t)
      (λ (t : (other ≢ seat) × (get_elem? views other ≡ some u)). inr (t.0, record { there = t.1; live = at.live }))
      (at_set views seat other w u at.there)

  -- another seat keeps its view
  pub is_at_other : (views : List (View Item)) (seat other : ℕ) (w u : View Item) → other ≢ seat → IsAt views other u
      → IsAt (set views seat w) other u
  is_at_other views seat other w u ne at = record { there = set_else views seat other w ne ∙ at.there; live = at.live }

  -- one view stands at a seat
  pub same_view : {views : List (View Item)} {seat : ℕ} {v u : View Item} → IsAt views seat v → IsAt views seat u → v ≡ u
  same_view {views} {seat} {v} {u} a b = some-injective v u (sym a.there ∙ b.there)

-- the account, after the history has become this one
abbrev pub with_log : {Item : Type 0} → Account Item → List Item → Account Item
with_log account log = record account { log = log }

module _ {Item : Type 0} (who : Item → ℕ) where
  -- a view still fits where it knows this of the history, which may have grown, and the rest stays
  pub fits_moves : {account : Account Item} {v : View Item} {phase : Phase} {seen mine held log : List Item} → Fits who account v
      → Begins seen log → Begins held log → Recalls who (record v { phase = phase; seen = seen; mine = mine; held = held })
      → entries_since who v.who account.base log ≡ mine
      → Fits who (with_log account log) (record v { phase = phase; seen = seen; mine = mine; held = held })
  fits_moves f sees found recalls all_own = record {
    sees = sees;
    found = found;
    recalls = recalls;
    all_own = all_own;
    given = f.given;
    not_ended = f.not_ended;
    first = f.first;
    same_fixed = f.same_fixed;
    same_base = f.same_base;
  }

  -- and where more numbers were given, or more passes have ended, which the first pass is told
  pub fits_told : {account : Account Item} {v : View Item} {held : List Item} {gave told_gave : List ℕ} {olds told_olds : List (ℕ × List Item)}
      → Fits who account v → Begins held account.log → (v.who ≡ 0) ⊎ Contains gave v.who → All (λ old. old.0 ≢ v.who) olds
      → (v.who ≡ 0 → (told_gave ≡ gave) × (told_olds ≡ olds))
      → Fits who (record account { gave = gave; olds = olds }) (record v { held = held; gave = told_gave; olds = told_olds })
  fits_told f found given not_ended first = record {
    sees = f.sees;
    found = found;
    recalls = record { past_base = f.recalls.past_base; own = f.recalls.own };
    all_own = f.all_own;
    given = given;
    not_ended = not_ended;
    first = first;
    same_fixed = f.same_fixed;
    same_base = f.same_base;
  }

  -- a view still fits, once the history has grown by entries of another number
  pub fits_later : {account : Account Item} {n : ℕ} {u : View Item} (log : List Item) → account.base ≤ length account.log
      → GrewByOwn who n account.log log → u.who ≢ n → Fits who account u → Fits who (with_log account log) u
  fits_later {account} {n} {u} log past grew ne f =
      fits_moves f (begins_trans f.sees (own_begins who grew)) (begins_trans f.found (own_begins who grew)) f.recalls
      (own_leaves who u.who account.base grew ne past ∙ f.all_own)

  -- a view's number is neither one that was not given nor one that has ended
  not_stranger : {account : Account Item} {v : View Item} (n : ℕ) → Fits who account v → n ≢ 0 → ¬ Contains account.gave n → n ≢ v.who
  not_stranger {account} {v} n f nz out same = ⊎_elim
      (λ (z : v.who ≡ 0). nz (same ∙ z))
      (λ (c : Contains account.gave v.who). out (subst (Contains account.gave) (sym same) c)) f.given

  -- one live view changes, and the history grows by entries of its number alone
  pub roster_moves : {account : Account Item} {views : List (View Item)} {seat : ℕ} {v : View Item} (w : View Item) (log : List Item)
      → Roster who account views → IsAt views seat v → w.who ≡ v.who → GrewByOwn who v.who account.log log → Fits who (with_log account log) w
      → Roster who (with_log account log) (set views seat w)
  roster_moves {account} {views} {seat} {v} w log r at same grew f =
      let mine : Fits who account v = r.fits seat v at in
      let later = with_log account log in
      record {
        past_base = let p = r.past_base in let q = begins_length (own_begins who grew) in omega arith;
        fits = λ other u there. ⊎_elim
            (λ (t : (other ≡ seat) × (w ≡ u)). subst (Fits who later) t.1 f)
            (λ (t : (other ≢ seat) × IsAt views other u). fits_later log r.past_base grew (λ e. t.0 (r.apart other seat u v t.1 at e)) (r.fits other u t.1))
            (at_of_set views seat other w u there);
        apart = λ i j u x a b e. ⊎_elim
            (λ (s : (i ≡ seat) × (w ≡ u)). ⊎_elim
            (λ (t : (j ≡ seat) × (w ≡ x)). s.0 ∙ sym t.0)
            (λ (t : (j ≢ seat) × IsAt views j x). s.0 ∙ r.apart seat j v x at t.1 (sym same ∙ (ap (λ (y : View Item). y.who) s.1 ∙ e)))
            (at_of_set views seat j w x b))
            (λ (s : (i ≢ seat) × IsAt views i u). ⊎_elim
            (λ (t : (j ≡ seat) × (w ≡ x)). r.apart i seat u v s.1 at (e ∙ (sym (ap (λ (y : View Item). y.who) t.1) ∙ same)) ∙ sym t.0)
            (λ (t : (j ≢ seat) × IsAt views j x). r.apart i j u x s.1 t.1 e)
            (at_of_set views seat j w x b))
            (at_of_set views seat i w u a);
        ended = λ k d lt. let old = get_or account.olds k d in let was = r.ended k d lt in record {
          all_own = own_leaves who old.0 account.base grew (mine.not_ended k d lt) r.past_base ∙ was.all_own;
          given = was.given;
        };
        strangers = λ n nz out. own_leaves who n account.base grew (not_stranger n mine nz out) r.past_base ∙ r.strangers n nz out;
      }
