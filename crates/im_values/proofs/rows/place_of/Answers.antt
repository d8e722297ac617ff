use Rattle.std.proofs.Common.{◌+◌, ◌*◌, ◌<◌, drop, Some, ap, ◌∙◌, arith}
use Rattle.im_values.proofs.RunLemmas.{length-cut, get-cut, one_row, row_range}
use Rattle.im_values.proofs.rows.place_of.Goals as goal

pub start_of-requires-clause-few : goal.start_of-requires-clause-few
start_of-requires-clause-few c =
    let many = length-cut c.args.count c.args.width (drop c.args.first c.args.block.now.items) in
    let within = c.requires.within in
    omega (arith, many, within)

pub returns-clause-inside : goal.returns-clause-inside
returns-clause-inside c =
    let many = length-cut c.args.count c.args.width (drop c.args.first c.args.block.now.items) in
    let within = c.requires.within in
    let few : c.args.at < c.args.count = omega (arith, many, within) in
    let one = one_row c.args.at c.args.count c.args.width few in
    let rest = c.start_of.ensures.rest in
    omega (arith, one, rest)

pub returns-clause-row : goal.returns-clause-row
returns-clause-row c =
    let many = length-cut c.args.count c.args.width (drop c.args.first c.args.block.now.items) in
    let within = c.requires.within in
    let few : c.args.at < c.args.count = omega (arith, many, within) in
    get-cut c.args.count c.args.at c.args.width c.args.first c.args.block.now.items few
    ∙ ap Some (row_range (c.args.first + c.args.at * c.args.width) c.start_of.result c.args.width c.args.block.now.items c.start_of.ensures.start)
