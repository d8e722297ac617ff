use Rattle.std.proofs.Common.{arith, ap, length}
use Rattle.std.specs.Cmp.Lexicographic.{pointwise}
use Rattle.im_group.proofs.Agreement.{same_value, keys_tie}
use Rattle.im_group.proofs.Merging.{joins_next, joins_all, can_join_group}
use Rattle.im_group.proofs.grouping.join_groups.Goals as goal

pub join_group-requires-clause-few : goal.join_group-requires-clause-few
join_group-requires-clause-few c =
    can_join_group (λ x y. pointwise same_value x.items y.items) (λ k. k.items)
    (λ x y. keys_tie x.items y.items) c.args.groups.now.entries c.args.others.entries c.len.ensures.unique
    (c.in-Some.key, c.in-Some.tallies) c.loop-key.key-iterator c.next.new.self c.loop-key.groups.entries c.loop-key.invariant.0
    c.in-Some.ensures.steps c.requires.few

pub loop-key-preserved : goal.loop-key-preserved
loop-key-preserved c =
    let rest = ap length c.in-Some.ensures.steps in (
      joins_next (λ x y. pointwise same_value x.items y.items) (λ k. k.items)
          (λ x y. keys_tie x.items y.items) c.args.groups.now.entries c.args.others.entries c.len.ensures.unique
          (c.in-Some.key, c.in-Some.tallies) c.loop-key.key-iterator c.next.new.self c.loop-key.groups.entries c.join_group.new.groups.entries
          c.loop-key.invariant.0 c.in-Some.ensures.steps c.join_group.ensures.groups,
      omega (arith, c.loop-key.invariant.1, c.join_group.ensures.room),
    )

pub returns : goal.returns
returns c = record {
  ok =
      joins_all (λ k. k.items) c.args.groups.now.entries c.args.others.entries c.loop-key.key-iterator c.loop-key.groups.entries
      c.loop-key.invariant.0 c.in-None.ensures.steps.0;
  err = tt;
}
