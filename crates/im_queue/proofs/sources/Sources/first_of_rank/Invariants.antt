use Rattle.std.proofs.Common.{◌≡◌, ℕ, ◌≤◌, None}
use Rattle.im_history.specs.History.{History}
use Rattle.im_queue.specs.inner.Search.{AreOf, ranked_in}
use Rattle.im_queue.proofs.sources.Sources.first_of_rank.Given as goal

-- no table up to this place has such an extent
abbrev pub invariant-loop-place : goal.invariant-loop-place
invariant-loop-place g l =
    (history : History) → AreOf g.U.UnitLike.content history l.self
    → (table : ℕ) → 1 ≤ table → table ≤ l.place → ranked_in l.reason history l.rank table ≡ None
