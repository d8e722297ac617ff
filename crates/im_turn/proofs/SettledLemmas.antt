-- A pass between two calls.
use Rattle.std.proofs.Common.{◌≡◌, ℕ, [], ◌∷◌, true, false, None, ap, sym, ◌∙◌, ⊎_elim}
use Rattle.im_turn.specs.inner.Views.{is_holding}
use Rattle.im_turn.specs.inner.Steps.{SeatState, IsSettled, IsFree, IsHolder}
use Rattle.im_turn.specs.declared.view.Phase.TheVariants.{Idle, Holding}

module _ {Value Item : Type 0} (who : Item → ℕ) where
  -- it may take the value where it does not have it
  pub free_where_idle : (seat : SeatState Value Item) → IsSettled who seat → is_holding seat.0.phase ≡ false → IsFree who seat
  free_where_idle seat s idle = ⊎_elim
      (λ (t : (seat.0.phase ≡ Idle) × (seat.1 ≡ [])). record { live = s.live; recalls = s.recalls; idle = t.0; carries = t.1 })
      (λ (t : (seat.0.phase ≡ Holding) × (seat.1 ≡ (0, None) ∷ [])). let e : true ≡ false = sym (ap is_holding t.0) ∙ idle in absurd cc)
      s.carries

  -- else it carries the emptied slot
  pub holder_where_holding : (seat : SeatState Value Item) → IsSettled who seat → is_holding seat.0.phase ≡ true → IsHolder who seat
  holder_where_holding seat s holding = ⊎_elim
      (λ (t : (seat.0.phase ≡ Idle) × (seat.1 ≡ [])). let e : false ≡ true = sym (ap is_holding t.0) ∙ holding in absurd cc)
      (λ (t : (seat.0.phase ≡ Holding) × (seat.1 ≡ (0, None) ∷ [])). record { live = s.live; recalls = s.recalls; has = t.0; carries = t.1 })
      s.carries
