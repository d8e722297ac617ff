use Rattle.std.proofs.Common.{◌+◌, ◌≤◌, ℕ, drop, ap, ◌∙◌, arith}
use Rattle.im_values.specs.Stretches.{cut}
use Rattle.im_values.proofs.RunLemmas.{length-cut, part-cut, more_rows}
use Rattle.im_values.proofs.rows.part_place.Goals as goal

pub start_of-requires-clause-few : goal.start_of-requires-clause-few
start_of-requires-clause-few c =
    let all = length-cut c.args.count c.args.width (drop c.args.first c.args.block.now.items) in
    let within = c.requires.within in
    omega (arith, all, within)

pub returns-clause-inside : goal.returns-clause-inside
returns-clause-inside c =
    let all = length-cut c.args.count c.args.width (drop c.args.first c.args.block.now.items) in
    let within = c.requires.within in
    let few : c.args.from + c.args.many ≤ c.args.count = omega (arith, all, within) in
    let more = more_rows c.args.from c.args.many c.args.count c.args.width few in
    let rest = c.start_of.ensures.rest in
    omega (arith, more, rest)

pub returns-clause-rows : goal.returns-clause-rows
returns-clause-rows c =
    let all = length-cut c.args.count c.args.width (drop c.args.first c.args.block.now.items) in
    let within = c.requires.within in
    let few : c.args.from + c.args.many ≤ c.args.count = omega (arith, all, within) in
    ap (λ (n : ℕ). cut c.args.many c.args.width (drop n c.args.block.now.items)) c.start_of.ensures.start
    ∙ part-cut c.args.count c.args.from c.args.many c.args.width c.args.first c.args.block.now.items few
