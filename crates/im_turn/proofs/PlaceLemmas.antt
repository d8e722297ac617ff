-- Where the value is, when one view changes.
use Rattle.std.proofs.Common.{◌≡◌, ◌≢◌, ℕ, ◌⊎◌, List, [], ◌∷◌, ◌++◌, true, length, set, Option, sym, ap, ◌∙◌, subst, ⊎_elim}
use mathlib.Core.Option.{some}
use mathlib.Core.Logic.{dite}
use native.Mathlib.Decide.{ℕ_discrete}
use lib.ListN.{get_elem?}
use Rattle.atomic_table.specs.Table.{State}
use Rattle.atomic_table.proofs.Lists.{at_snoc, at_longer}
use Rattle.im_turn.specs.inner.Rule.{IsAt, IsHome, HasValue, IsOut}
use Rattle.im_turn.specs.declared.view.View.{View}
use Rattle.im_turn.specs.declared.view.Phase.TheVariants.{Idle, Taken, Holding}
use Rattle.im_turn.proofs.RosterLemmas.{at_of_set, is_at_set, same_view, is_at_other}

-- who has the value is not idle
pub busy : {Item : Type 0} (log : List Item) (v : View Item) → HasValue log v → ¬ (v.phase ≡ Idle)
busy log v has idle = ⊎_elim
    (λ (t : (v.phase ≡ Taken) × (v.held ≡ log)). let p = t.0 in absurd cc)
    (λ (t : (v.phase ≡ Holding) × (v.seen ≡ log)). let p = t.0 in absurd cc)
    has

module _ {Value Item : Type 0} where
  -- a live view that is not idle is the holder's
  pub holder_is : {log : List Item} {s : State (Option Value) (View Item)} {seat : ℕ} {v : View Item} (out : IsOut log s)
      → IsAt s.views seat v → ¬ (v.phase ≡ Idle) → seat ≡ out.holder
  holder_is {seat = seat} {v} out at is_busy = dite (ℕ_discrete seat out.holder) (λ e. e) (λ ne. absurd (is_busy (out.others seat v at ne)))

  -- so it has the value
  pub holder_has : {log : List Item} {s : State (Option Value) (View Item)} {seat : ℕ} {v : View Item} (out : IsOut log s)
      → IsAt s.views seat v → ¬ (v.phase ≡ Idle) → HasValue log v
  holder_has {log} {s} {seat} {v} out at is_busy =
      let moved : IsAt s.views out.holder v = subst (λ (i : ℕ). IsAt s.views i v) (holder_is out at is_busy) at in
      subst (HasValue log) (same_view out.there moved) out.has

  -- before the load it has found the history
  pub taken_finds : {log : List Item} {s : State (Option Value) (View Item)} {seat : ℕ} {v : View Item} (out : IsOut log s)
      → IsAt s.views seat v → v.phase ≡ Taken → v.held ≡ log
  taken_finds {log} {v = v} out at phase = ⊎_elim
      (λ (t : (v.phase ≡ Taken) × (v.held ≡ log)). t.1)
      (λ (t : (v.phase ≡ Holding) × (v.seen ≡ log)). let p = t.0 in absurd cc)
      (holder_has out at (λ e. absurd cc))

  -- from the load on it has seen the history
  pub holding_sees : {log : List Item} {s : State (Option Value) (View Item)} {seat : ℕ} {v : View Item} (out : IsOut log s)
      → IsAt s.views seat v → v.phase ≡ Holding → v.seen ≡ log
  holding_sees {log} {v = v} out at phase = ⊎_elim
      (λ (t : (v.phase ≡ Taken) × (v.held ≡ log)). let p = t.0 in absurd cc)
      (λ (t : (v.phase ≡ Holding) × (v.seen ≡ log)). t.1)
      (holder_has out at (λ e. absurd cc))

  -- the holder's view changes
  pub out_moves : {log : List Item} {s t : State (Option Value) (View Item)} {seat : ℕ} {v : View Item} (w : View Item) (later : List Item)
      → IsOut log s → IsAt s.views seat v → ¬ (v.phase ≡ Idle) → w.live ≡ true → HasValue later w
      → t.words ≡ length later ∷ 1 ∷ [] → t.homes ≡ s.homes → t.views ≡ set s.views seat w → IsOut later t
  out_moves {s = s} {t} {seat} {v} w later out at is_busy live has words homes views =
      let same : seat ≡ out.holder = holder_is out at is_busy in
      record {
        holder = seat;
        view = w;
        words = words;
        homes = homes ∙ out.homes;
        there = subst (λ (l : List (View Item)). IsAt l seat w) (sym views) (is_at_set w at live);
        has = has;
        others = λ other u there ne. ⊎_elim
            (λ (x : (other ≡ seat) × (w ≡ u)). absurd (ne x.0))
            (λ (x : (other ≢ seat) × IsAt s.views other u). out.others other u x.1 (λ e. x.0 (e ∙ sym same)))
            (at_of_set s.views seat other w u (subst (λ (l : List (View Item)). IsAt l other u) views there));
      }

  -- an idle view changes and stays idle, and the value is out
  pub out_stays : {log : List Item} {s t : State (Option Value) (View Item)} {seat : ℕ} {v : View Item} (w : View Item)
      → IsOut log s → IsAt s.views seat v → v.phase ≡ Idle → w.phase ≡ Idle
      → t.words ≡ s.words → t.homes ≡ s.homes → t.views ≡ set s.views seat w → IsOut log t
  out_stays {log} {s} {t} {seat} {v} w out at idle stays words homes views =
      let apart : out.holder ≢ seat = λ e. busy log v
      (subst (HasValue log) (same_view out.there (subst (λ (i : ℕ). IsAt s.views i v) (sym e) at)) out.has) idle in
      record {
        holder = out.holder;
        view = out.view;
        words = words ∙ out.words;
        homes = homes ∙ out.homes;
        there = subst (λ (l : List (View Item)). IsAt l out.holder out.view) (sym views) (is_at_other s.views seat out.holder w out.view apart out.there);
        has = out.has;
        others = λ other u there ne. ⊎_elim
            (λ (x : (other ≡ seat) × (w ≡ u)). ap (λ (y : View Item). y.phase) (sym x.1) ∙ stays)
            (λ (x : (other ≢ seat) × IsAt s.views other u). out.others other u x.1 ne)
            (at_of_set s.views seat other w u (subst (λ (l : List (View Item)). IsAt l other u) views there));
      }

  -- an idle view comes, and the value is out
  pub out_comes : {log : List Item} {s t : State (Option Value) (View Item)} (w : View Item) → IsOut log s → w.phase ≡ Idle
      → t.words ≡ s.words → t.homes ≡ s.homes → t.views ≡ s.views ++ w ∷ [] → IsOut log t
  out_comes {s = s} w out idle words homes views = record {
    holder = out.holder;
    view = out.view;
    words = words ∙ out.words;
    homes = homes ∙ out.homes;
    there = record {
      there = ap (λ (l : List (View Item)). get_elem? l out.holder) views
          ∙ at_longer s.views (w ∷ []) out.holder out.view out.there.there;
      live = out.there.live;
    };
    has = out.has;
    others = λ other u there ne. ⊎_elim
        (λ (x : get_elem? s.views other ≡ some u). out.others other u record { there = x; live = there.live } ne)
        (λ (x : w ≡ u). ap (λ (y : View Item). y.phase) (sym x) ∙ idle)
        (at_snoc s.views w u other (ap (λ (l : List (View Item)). get_elem? l other) (sym views) ∙ there.there));
  }

module _ {Value Item : Type 0} (logs : Value → List Item) (fixed_of : Value → List ℕ) where
  -- where a live view is not idle, the value is out
  pub is_out : {log : List Item} {fixed : List ℕ} {s : State (Option Value) (View Item)} {seat : ℕ} {v : View Item}
      → IsHome logs fixed_of log fixed s ⊎ IsOut log s → IsAt s.views seat v → ¬ (v.phase ≡ Idle) → IsOut log s
  is_out {log} {fixed} {s} {seat} {v} place at is_busy = ⊎_elim
      (λ (home : IsHome logs fixed_of log fixed s). absurd (is_busy (home.idle seat v at)))
      (λ (out : IsOut log s). out)
      place

  -- a view changes and is idle, and the value is at home
  pub home_stays : {log : List Item} {fixed : List ℕ} {s t : State (Option Value) (View Item)} (seat : ℕ) (w : View Item)
      → IsHome logs fixed_of log fixed s → w.phase ≡ Idle
      → t.words ≡ s.words → t.homes ≡ s.homes → t.views ≡ set s.views seat w → IsHome logs fixed_of log fixed t
  home_stays {s = s} seat w home stays words homes views = record {
    value = home.value;
    words = words ∙ home.words;
    homes = homes ∙ home.homes;
    whole = home.whole;
    same_fixed = home.same_fixed;
    idle = λ other u there. ⊎_elim
        (λ (x : (other ≡ seat) × (w ≡ u)). ap (λ (y : View Item). y.phase) (sym x.1) ∙ stays)
        (λ (x : (other ≢ seat) × IsAt s.views other u). home.idle other u x.1)
        (at_of_set s.views seat other w u (subst (λ (l : List (View Item)). IsAt l other u) views there));
  }

  -- an idle view comes, and the value is at home
  pub home_comes : {log : List Item} {fixed : List ℕ} {s t : State (Option Value) (View Item)} (w : View Item)
      → IsHome logs fixed_of log fixed s → w.phase ≡ Idle
      → t.words ≡ s.words → t.homes ≡ s.homes → t.views ≡ s.views ++ w ∷ [] → IsHome logs fixed_of log fixed t
  home_comes {s = s} w home idle words homes views = record {
    value = home.value;
    words = words ∙ home.words;
    homes = homes ∙ home.homes;
    whole = home.whole;
    same_fixed = home.same_fixed;
    idle = λ other u there. ⊎_elim
        (λ (x : get_elem? s.views other ≡ some u). home.idle other u record { there = x; live = there.live })
        (λ (x : w ≡ u). ap (λ (y : View Item). y.phase) (sym x) ∙ idle)
        (at_snoc s.views w u other (ap (λ (l : List (View Item)). get_elem? l other) (sym views) ∙ there.there));
  }
