use Rattle.std.proofs.Common.{◌≡◌, ℕ, ◌<◌, None}
use Rattle.im_history.specs.History.{History}
use Rattle.im_queue.specs.inner.Search.{AreOf, first_of_rank}
use Rattle.im_queue.proofs.sources.Sources.most_urgent.Given as goal

-- no rank before this one has such an extent
abbrev pub invariant-loop-rank : goal.invariant-loop-rank
invariant-loop-rank g l =
    (history : History) → AreOf g.U.UnitLike.content history l.self
    → (rank : ℕ) → rank < l.rank → first_of_rank l.reason history rank ≡ None
