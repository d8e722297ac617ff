use Rattle.std.proofs.Common.{◌+◌, [], arith}
use Rattle.std.specs.List.{slice_range}
use Rattle.std.proofs.lemmas.Option.{get_or_from_slice_get}
use Rattle.im_values.specs.Stretches.{cut}
use Rattle.im_values.proofs.RunLemmas.{length-cut}
use Rattle.im_values.proofs.rows.other_place.Goals as goal

pub place_of-requires-clause-within : goal.place_of-requires-clause-within
place_of-requires-clause-within c =
    let many = length-cut c.args.count c.args.width c.args.block.now.items in
    let within = c.requires.within in
    omega (arith, many, within)

pub returns-clause-row : goal.returns-clause-row
returns-clause-row c =
    let values = c.args.block.now.items in
    get_or_from_slice_get (cut c.args.count c.args.width values) c.args.at
    (slice_range values c.place_of.result (c.place_of.result + c.args.width)) [] c.place_of.ensures.row
