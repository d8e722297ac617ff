use Rattle.std.proofs.Common.{◌≡◌, List, map, take}
use Rattle.im_values.specs.declared.content.Content.{Content as Value}
use Rattle.im_group.specs.declared.asked.Asked.{Asked}
use Rattle.im_group.specs.Sums.{sums_of}
use Rattle.im_scan.specs.inner.ByCode.{ComeTo}
use Rattle.im_scan.proofs.by_code.sums_at.Given as goal

-- the summaries so far
abbrev pub invariant-loop-i : goal.invariant-loop-i
invariant-loop-i l =
    (of : Asked → List Value) → ComeTo of l.place l.asked (map (λ tallies. tallies.items) l.all)
    → l.sums.items ≡ map (λ a. sums_of a (of a)) (take l.i l.asked)
