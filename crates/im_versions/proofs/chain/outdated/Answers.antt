use Rattle.std.proofs.Common.{arith, sym, ap, ◌∙◌}
use Rattle.std.specs.Option.{option_copied}
use Rattle.im_versions.proofs.CutLemmas.{drop_to_first, drop_to_none, drop_to_row, few_to}
use Rattle.im_versions.proofs.chain.outdated.Goals as goal

pub returns-in-Some-clause-few : goal.returns-in-Some-clause-few
returns-in-Some-clause-few c =
    let few = few_to c.args.floor c.args.versions.now c.versions_to-below.result.now c.versions_to-below.ensures c.requires in
    omega (arith, few)

pub returns-in-Some-clause-rest : goal.returns-in-Some-clause-rest
returns-in-Some-clause-rest c =
    drop_to_row c.args.floor c.args.versions.now c.versions_to-below.result.now c.in-Some.newest.now c.versions_to-below.ensures c.requires
    (sym c.in-Some.ensures.value) (sym c.is_some.ensures ∙ c.if-is_some.true)

pub returns-in_default-clause-few : goal.returns-in_default-clause-few
returns-in_default-clause-few c = few_to c.args.floor c.args.versions.now c.versions_to-below.result.now c.versions_to-below.ensures c.requires

pub returns-in_default-clause-rest : goal.returns-in_default-clause-rest
returns-in_default-clause-rest c =
    drop_to_none c.args.floor c.args.versions.now c.versions_to-below.result.now c.in-Some.newest.now c.versions_to-below.ensures c.requires
    (sym c.in-Some.ensures.value) (sym c.is_some.ensures ∙ c.if-is_some.false)

pub returns-in_default-2-clause-rest : goal.returns-in_default-2-clause-rest
returns-in_default-2-clause-rest c =
    drop_to_first c.args.floor c.args.versions.now c.versions_to-below.result.now c.versions_to-below.ensures c.requires
    (sym c.last.ensures.value ∙ ap option_copied c.in_default.is)
