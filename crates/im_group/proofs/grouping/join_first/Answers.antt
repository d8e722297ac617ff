use Rattle.std.proofs.Common.{[], Bool, sym, ap, subst, ◌∙◌}
use Rattle.std.specs.Global.{Vec}
use Rattle.std.specs.Cmp.Lexicographic.{pointwise}
use Rattle.im_values.specs.declared.content.Content.{Content as Value}
use Rattle.im_group.specs.Tallies.{CanJoin, all_joined}
use Rattle.im_group.specs.MadeGroups.{with_sums}
use Rattle.im_group.specs.Partials.{keyed, with_tallies}
use Rattle.im_group.specs.inner.Steps.{placed}
use Rattle.im_group.proofs.Agreement.{same_value, keys_tie}
use Rattle.im_group.proofs.NearLaws.{found-at, set-at, within-at}
use Rattle.im_group.proofs.grouping.join_first.Goals as goal

abbrev same_keys : Vec Value → Vec Value → Bool
same_keys x y = pointwise same_value x.items y.items

pub join-requires : goal.join-requires
join-requires c =
    let here = found-at same_keys (λ k. k.items) (λ x y. keys_tie x.items y.items) [] c.args.groups.now.entries 0 _
    c.in-Some.ensures.unique c.requires.there (sym c.in-Some.ensures.value) in
    subst (CanJoin c.in-Some.tallies.now) (sym c.of.ensures) (c.requires.few c.in-Some.tallies.now here)

pub returns-in-Some : goal.returns-in-Some
returns-in-Some c =
    let here = found-at same_keys (λ k. k.items) (λ x y. keys_tie x.items y.items) [] c.args.groups.now.entries 0 _
    c.in-Some.ensures.unique c.requires.there (sym c.in-Some.ensures.value) in
    set-at same_keys (λ k. k.items) (λ x y. keys_tie x.items y.items) [] c.args.groups.now.entries 0 c.join.new.self
    c.in-Some.ensures.unique c.requires.there
    ∙ ap (placed (keyed (λ k. k.items) c.args.groups.now.entries) []) (c.join.ensures
    ∙ (ap (all_joined c.in-Some.tallies.now) c.of.ensures
    ∙ sym (ap (λ old. with_tallies old (with_sums c.args.rows c.args.sums.items)) here)))

pub returns-in-None : goal.returns-in-None
returns-in-None c =
    absurd (within-at same_keys (λ k. k.items) (λ x y. keys_tie x.items y.items) [] c.args.groups.now.entries 0 c.requires.there c.in-None.ensures.value)
