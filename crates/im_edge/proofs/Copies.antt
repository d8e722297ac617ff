-- What a copy out of the bytes that are left does.
use Rattle.std.proofs.Common.{◌≡◌, ℕ, ◌+◌, ◌≤◌, List, ◌++◌, length, take, drop, refl, ap, ◌∙◌}
use Rattle.std.proofs.lemmas.List.{drop-drop, take-append-drop, take_at, length-take-le}

-- bytes copied to the front of a buffer, and those that are left behind them, are those that were left
pub copied : (all buffer front : List ℕ) (at count : ℕ) → count ≤ length (drop at all) → front ≡ take count (drop at all)
    → drop at all ≡ take count (front ++ drop count buffer) ++ drop (at + count) all
copied all buffer front at count few e =
    let size : length front ≡ count = ap length e ∙ length-take-le count (drop at all) few in
    rw (take_at front (drop count buffer) count size, e, ← drop-drop count at all, take-append-drop count (drop at all)) refl
