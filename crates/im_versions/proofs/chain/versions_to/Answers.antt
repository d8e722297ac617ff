use Rattle.std.proofs.Common.{nat_le, rules, of_calls}
use Rattle.std.proofs.lemmas.Fn.{always_returns_same}
use Rattle.std.proofs.lemmas.List.Sorted.{IsPartitionedBy-leb}
use Rattle.im_versions.proofs.VersionLemmas.{all_to, part_to, rises}
use Rattle.im_versions.proofs.chain.versions_to.Goals as goal

pub returns-in-Some : goal.returns-in-Some
returns-in-Some c = all_to c.args.versions.now c.args.scn c.in-Some.newest.now c.requires c.in-Some.ensures.value c.if-newest-scn.true

pub returns-in_default : goal.returns-in_default
returns-in_default c =
    let versions = c.args.versions.now in
    let parted = IsPartitionedBy-leb (λ v. v.scn) versions c.args.scn (rises versions c.requires) in
    part_to versions c.args.scn c.partition_point.result (c.partition_point.ensures.partitioned (λ v. nat_le v.scn c.args.scn)
    (always_returns_same _ _ _ (λ a r f k. search (rules, of_calls))) parted)
