use Rattle.std.proofs.Common.{is_some, sym, ap, ◌∙◌}
use Rattle.indexmap.specs.IndexMap.{insert_entry}
use Rattle.im_group.specs.Partials.{keyed, with_tallies}
use Rattle.im_group.specs.inner.Steps.{placed}
use Rattle.std.specs.Cmp.Lexicographic.{pointwise}
use Rattle.im_group.proofs.Agreement.{same_value, keys_tie}
use Rattle.im_group.proofs.Held.{lookup-keyed, keyed-insert_entry, keyed-set_value}
use Rattle.im_group.proofs.grouping.join_group.Goals as goal

pub join-requires : goal.join-requires
join-requires c =
    let here = c.in-Some.ensures.value ∙ lookup-keyed _ (λ k. k.items) (λ x y. keys_tie x.items y.items) c.args.groups.now.entries c.args.key in
    c.requires.few c.in-Some.old.now (sym here)

pub returns-in-None-clause-groups : goal.returns-in-None-clause-groups
returns-in-None-clause-groups c =
    let absent = c.in-None.ensures.value ∙ lookup-keyed _ (λ k. k.items) (λ x y. keys_tie x.items y.items) c.args.groups.now.entries c.args.key in
    let entries = rw c.unwrap.ensures at c.insert.ensures.entries in
    ap (keyed (λ k. k.items)) entries
    ∙ (ap (λ m. keyed (λ k. k.items) (insert_entry (λ x y. pointwise same_value x.items y.items) m.entries c.args.key c.args.tallies))
    c.get_mut.follows.holds-at-none
    ∙ (keyed-insert_entry (λ x y. pointwise same_value x.items y.items) (λ k. k.items)
    (λ x y. keys_tie x.items y.items) c.args.groups.now.entries c.args.key c.args.tallies
    ∙ ap (λ old. placed (keyed (λ k. k.items) c.args.groups.now.entries) c.args.key.items (with_tallies old c.args.tallies)) absent))

pub returns-in-Some-clause-groups : goal.returns-in-Some-clause-groups
returns-in-Some-clause-groups c =
    let entries = c.get_mut.follows.holds c.join.new.self in
    let there = ap is_some (sym c.in-Some.ensures.value) in
    let here = c.in-Some.ensures.value ∙ lookup-keyed _ (λ k. k.items) (λ x y. keys_tie x.items y.items) c.args.groups.now.entries c.args.key in
    ap (keyed (λ k. k.items)) entries.0
    ∙ (keyed-set_value (λ x y. pointwise same_value x.items y.items) (λ k. k.items)
    (λ x y. keys_tie x.items y.items) c.args.groups.now.entries c.args.key c.join.new.self there
    ∙ ap (λ ts. placed (keyed (λ k. k.items) c.args.groups.now.entries) c.args.key.items ts) (c.join.ensures
    ∙ ap (λ old. with_tallies old c.args.tallies) here))
