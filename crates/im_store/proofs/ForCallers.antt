-- What callers need of a side of a store, once it has called: its pass is still of the store, and may be joined.
use Rattle.std.proofs.Common.{◌≡◌, ℕ, Bool, List, Some, ap, ◌∙◌}
use Rattle.im_history.specs.declared.entry.Entry.{Entry}
use Rattle.im_reach.specs.Sides.{Frame, StoreSide}
use Rattle.im_store.specs.Sides.{frame_of, known_by}
use Rattle.im_turn.specs.Passes.{PassState}

the_same : {X : Type 0} {a b : X} → Some a ≡ Some b → a ≡ b
the_same is = cc

-- a pass of this frame and number
abbrev framed : Frame → ℕ → Bool → List Entry → List Entry → PassState Entry
framed frame who holding seen mine = record {
  turn = frame.turn;
  holding = holding;
  who = who;
  base = frame.base;
  seen = seen;
  mine = mine;
  olds = frame.olds;
  gave = frame.gave;
  fixed = frame.fixed;
}

-- calls change nothing of a pass but what it has seen and its own entries
pub pass-called : (old new : PassState Entry) (before after : ℕ) → (known_by new after).side ≡ (known_by old before).side → new.holding ≡ old.holding
    → new ≡ record old { seen = new.seen; mine = new.mine }
pass-called old new before after side holding =
    ap (λ (frame : Frame). framed frame new.who new.holding new.seen new.mine) frame
    ∙ (ap (λ (who : ℕ). framed (frame_of old) who new.holding new.seen new.mine) who
    ∙ ap (λ (held : Bool). framed (frame_of old) old.who held new.seen new.mine) holding)
  where
    frame : frame_of new ≡ frame_of old
    frame = the_same (ap (λ (s : StoreSide). s.frame) side)

    who : new.who ≡ old.who
    who = the_same (ap (λ (s : StoreSide). s.number) side)
