use Rattle.std.proofs.Common.{map, take}
use Rattle.im_values.specs.Sizes.{dictionary}
use Rattle.im_codes.specs.Dictionary.{coded}
use Rattle.im_unit.specs.Holding.{present_rows}
use Rattle.im_scan.specs.inner.ByCode.{AreAllTallies}
use Rattle.im_scan.proofs.by_code.all_tallies.Given as goal

-- the tallies so far
abbrev pub invariant-loop-one : goal.invariant-loop-one
invariant-loop-one l =
    AreAllTallies l.spots l.keys (present_rows l.unit.rows) (coded (dictionary l.keys)) (take l.one-index l.asked) (map (λ tallies. tallies.items) l.all.items)
