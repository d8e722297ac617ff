use Rattle.std.proofs.Common.{◌∙◌, sym}
use Rattle.im_group.specs.MadeGroups.{groups_in}
use Rattle.im_scan.proofs.CodedLemmas.{by-code-groups}
use Rattle.im_scan.proofs.SummedLemmas.{column-long, some-inj}
use Rattle.im_scan.proofs.by_code.by_code.Goals as goal

pub made_groups-requires-clause-keys : goal.made_groups-requires-clause-keys
made_groups-requires-clause-keys c =
    column-long c.args.column c.args.unit.now.rows c.column.result.now c.args.spots.now c.column.ensures c.requires.spots

pub returns-in_ok-part-in-Some : goal.returns-in_ok-part-in-Some
returns-in_ok-part-in-Some c found is = record {
  gives = λ rows same.
      sym (some-inj is)
      ∙ c.in_ok-part-in-Some.ensures rows
      (by-code-groups c.args.asking.now c.args.column c.args.unit.now c.args.spots.now c.column.result.now rows c.asked.result.now
      (groups_in c.in-Some.groups.items) c.requires.grouped same c.asked.ensures c.column.ensures
      (c.in_ok-groups.ensures c.in-Some.groups c.in-Some.is));
}
