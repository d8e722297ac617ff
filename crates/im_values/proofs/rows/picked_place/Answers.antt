use Rattle.std.proofs.Common.{rules, ◌≡◌, ◌+◌, ◌≤◌, [], drop, Some, ◌∙◌, arith}
use Rattle.std.specs.Arc.{arc_value}
use Rattle.std.specs.List.{slice_get, slice_range}
use Rattle.std.proofs.lemmas.Option.{get_or_from_slice_get}
use Rattle.im_values.specs.Stretches.{cut}
use Rattle.im_values.proofs.PickLemmas.{get-first, get-other}
use Rattle.im_values.proofs.RunLemmas.{length-cut}
use Rattle.im_values.proofs.rows.picked_place.Goals as goal

pub place_of-requires-clause-within : goal.place_of-requires-clause-within
place_of-requires-clause-within c =
    let many = length-cut c.args.picks.now.count c.args.width (drop c.args.picks.now.first c.deref.result.now.items) in
    let first = c.if-place-picks.true in
    omega (arith, many, first)

pub returns-then-place-picks-clause-row : goal.returns-then-place-picks-clause-row
returns-then-place-picks-clause-row c =
    let picks = c.args.picks.now in
    let width = c.args.width in
    let values = (arc_value picks.block).items in
    let start = c.place_of.result in
    let rows = cut picks.count width (drop picks.first values) in
    let row : slice_get rows c.args.place ≡ Some (slice_range values start (start + width)) = search rules in
    let long = length-cut picks.count width (drop picks.first values) in
    get-first rows (cut picks.more width (arc_value picks.others).items) picks.count c.args.place long c.if-place-picks.true
    ∙ get_or_from_slice_get rows c.args.place (slice_range values start (start + width)) [] row

pub returns-else-place-picks-clause-row : goal.returns-else-place-picks-clause-row
returns-else-place-picks-clause-row c =
    let picks = c.args.picks.now in
    let width = c.args.width in
    let no = c.if-place-picks.false in
    let behind : picks.count ≤ c.args.place = omega (arith, no) in
    let rows = cut picks.count width (drop picks.first (arc_value picks.block).items) in
    let others = cut picks.more width (arc_value picks.others).items in
    let long = length-cut picks.count width (drop picks.first (arc_value picks.block).items) in
    let row = c.other_place.ensures.row in
    get-other rows others picks.count c.args.place long behind ∙ (search rules)
