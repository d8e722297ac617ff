use Rattle.std.proofs.Common.{◌*◌, ◌<◌, ◌^◌, length, ap, ◌∙◌, arith}
use Rattle.im_tables.specs.Table.{row_of}
use Rattle.im_blocks.specs.Chains.{AllVersions}
use Rattle.im_blocks.proofs.ExtentLemmas.{IsInside-seen, slots-upto}
use Rattle.im_blocks.proofs.version_table.VersionTable.end_in.Goals as goal

pub overflow_sub-end : goal.overflow_sub-end
overflow_sub-end c =
    let table = c.args.asked.table in
    let inside = IsInside-seen c.args.self.now table c.args.rid c.args.number c.args.lent.first _ _ c.requires.slot c.requires.lent in
    let there = inside.there in
    let long = ap length (c.of_table-cells.ensures ∙ ap (λ (b : AllVersions). row_of b.slots table) c.self.view_is) in
    let least = c.min-end.ensures in
    let before = c.requires.before in
    omega (arith, there, long, least, before)

pub run_end-requires-clause-from : goal.run_end-requires-clause-from
run_end-requires-clause-from c =
    let table = c.args.asked.table in
    let inside = IsInside-seen c.args.self.now table c.args.rid c.args.number c.args.lent.first _ _ c.requires.slot c.requires.lent in
    let there = inside.there in
    let from = inside.from in
    let to = inside.to in
    let long = ap length (c.of_table-cells.ensures ∙ ap (λ (b : AllVersions). row_of b.slots table) c.self.view_is) in
    let least = c.min-end.ensures in
    let many = c.min.ensures in
    let count = c.len.ensures in
    let before = c.requires.before in
    omega (arith, there, from, to, long, least, many, count, before)

pub run_end-requires-clause-within : goal.run_end-requires-clause-within
run_end-requires-clause-within c =
    let table = c.args.asked.table in
    let inside = IsInside-seen c.args.self.now table c.args.rid c.args.number c.args.lent.first _ _ c.requires.slot c.requires.lent in
    let there = inside.there in
    let long = ap length (c.of_table-cells.ensures ∙ ap (λ (b : AllVersions). row_of b.slots table) c.self.view_is) in
    let least = c.min-end.ensures in
    let many = c.min.ensures in
    omega (arith, there, long, least, many)

pub returns : goal.returns
returns c =
    let table = c.args.asked.table in
    let inside = IsInside-seen c.args.self.now table c.args.rid c.args.number c.args.lent.first _ _ c.requires.slot c.requires.lent in
    let there = inside.there in
    let from = inside.from in
    let to = inside.to in
    let cells = c.of_table-cells.ensures ∙ ap (λ (b : AllVersions). row_of b.slots table) c.self.view_is in
    let long = ap length cells in
    let least = c.min-end.ensures in
    let many = c.min.ensures in
    let count = c.len.ensures in
    let before = c.requires.before in
    let behind = c.run_end.ensures.from in
    let upto = c.run_end.ensures.upto in
    record {
      from = omega (arith, behind);
      upto = omega (arith, upto, many, least, there, long, before);
      behind = from;
      inside = omega (arith, upto, many, count, from, to);
      small = let cells_fit = c.of_table-cells.type_inv in let few : length c.of_table-cells.result.now * 4 < 2 ^ 63 = cells_fit.1 in omega (arith, upto, many, least, few);
      slots = slots-upto c.args.self.now table c.args.rid c.args.number c.run_end.result c.of_table-cells.result.now cells c.requires.slot c.run_end.ensures.all;
    }
