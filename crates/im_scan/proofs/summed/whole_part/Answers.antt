use Rattle.std.proofs.Common.{◌∙◌, List, [], ◌∷◌, ◌++◌, ap}
use Rattle.std.proofs.lemmas.Result.{IfOk-weaker}
use Rattle.im_group.specs.declared.made_groups.Group.{Group}
use Rattle.im_group.specs.MadeGroups.{groups_in}
use Rattle.im_scan.proofs.SummedLemmas.{pushed-group}
use Rattle.im_scan.proofs.summed.whole_part.Goals as goal

pub returns : goal.returns
returns c =
    let made : Group = record { key = c.new-key.result; rows = c.args.rows; sums = c.args.sums } in
    IfOk-weaker c.of_groups.result _ _
    (λ part gives rows same. gives rows
    (pushed-group c.args.asking.now rows c.args.rows c.new-key.result.items c.args.sums.items (groups_in c.push.new.self.items) c.requires
    c.new-key.ensures.items
    (ap groups_in (c.in_ok-push.ensures.items ∙ ap (λ (l : List Group). l ++ made ∷ []) c.in_ok-groups.ensures.items)) same))
    c.of_groups.ensures
