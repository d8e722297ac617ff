use Rattle.std.proofs.Common.{ap, ◌∙◌}
use Rattle.std.specs.FinMap as map_of
use Rattle.im_group.specs.MadeGroups.{groups_in}
use Rattle.im_group.proofs.MadeLaws.{made-partial}
use Rattle.im_group.proofs.partial.Partial.of_groups.Goals as goal

pub returns : goal.returns
returns c rows are =
    c.of_held.ensures
    ∙ made-partial c.args._asking.now rows (groups_in c.args.groups.items) _ c.requires (ap map_of.from_entries c.in_ok-put_all.ensures) are
