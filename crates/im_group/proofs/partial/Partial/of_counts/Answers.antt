use Rattle.std.proofs.Common.{map, sym, ap, subst, ◌∙◌}
use Rattle.std.proofs.lemmas.Result.{IfOk-weaker}
use Rattle.im_group.specs.Tallies.{wanted, asked_in}
use Rattle.im_group.specs.Partials.{partial}
use Rattle.im_group.specs.MadeGroups.{AreGroupsOf, groups_in}
use Rattle.im_group.specs.Counts.{counts_in}
use Rattle.im_group.specs.inner.Narrowing.{narrowed_group}
use Rattle.im_group.proofs.CountLaws.{counted-are}
use Rattle.im_group.proofs.partial.Partial.of_counts.Goals as goal

pub returns : goal.returns
returns c =
    let bound = c.args.bound.now in
    let found = counts_in c.args.counts.now in
    let made = c.in_ok-groups.ensures
    ∙ ap (λ asked. map (narrowed_group asked) found) (c.asked.ensures ∙ ap (λ b. asked_in (wanted b)) c.in_ok-asking.ensures) in
    IfOk-weaker c.of_groups.result _ _
    (λ part is rows counted.
    is rows (subst (λ b. AreGroupsOf b rows (groups_in c.in_ok-groups.groups.items)) (sym c.in_ok-asking.ensures)
    (subst (AreGroupsOf bound rows) (sym made) (counted-are bound rows found counted)))
    ∙ ap (λ b. partial b rows) c.in_ok-asking.ensures)
    c.of_groups.ensures
