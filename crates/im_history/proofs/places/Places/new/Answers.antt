use Rattle.std.proofs.Common.{◌≡◌, ℕ, zero, suc, List, [], ◌∷◌, refl}
use Rattle.im_history.specs.inner.Places.{head_of}
use Rattle.im_history.proofs.PlaceLaws.{ArePlaces-nil}
use Rattle.im_history.proofs.places.Places.new.Goals as goal

zeros : ℕ → List ℕ
zeros zero = []
zeros (suc n) = 0 ∷ zeros n

head-zeros : (n who : ℕ) → head_of (zeros n) who ≡ 0
unfolding zeros
head-zeros zero who = refl
head-zeros (suc n) zero = refl
head-zeros (suc n) (suc who) = head-zeros n who

pub returns-clause-places : goal.returns-clause-places
unfolding zeros
returns-clause-places c = ArePlaces-nil _ c.new.ensures.items c.new-2.ensures.items (head-zeros 26)
