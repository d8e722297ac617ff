-- A history that goes on is replayed by going on.
use Rattle.std.proofs.Common.{◌≡◌, [], ◌∷◌, ◌++◌, refl, ap, ◌∙◌, append_assoc, append-nil}
use Rattle.im_history.specs.declared.entry.Entry.{Entry}
use Rattle.im_history.specs.History.{History, replay, replay_from}

pub replay_from-append : {S : Type 0} (step : History → S → Entry → S) (before : History) (state : S) (h k : History)
    → replay_from step before state (h ++ k) ≡ replay_from step (before ++ h) (replay_from step before state h) k
replay_from-append step before state [] k = rw append-nil refl
replay_from-append step before state (entry ∷ h) k =
    replay_from-append step (before ++ entry ∷ []) (step before state entry) h k
    ∙ ap (λ (b : History). replay_from step b (replay_from step (before ++ entry ∷ []) (step before state entry) h) k) (append_assoc before (entry ∷ []) h)

-- one more entry is one more step
pub replay-push : {S : Type 0} (step : History → S → Entry → S) (start : S) (h : History) (entry : Entry)
    → replay step start (h ++ entry ∷ []) ≡ step h (replay step start h) entry
unfolding replay
replay-push step start h entry = replay_from-append step [] start h (entry ∷ [])
