use Rattle.std.proofs.Common.{ap, ◌∙◌}
use Rattle.std.specs.Cmp.Lexicographic.{pointwise}
use Rattle.im_group.specs.Partials.{keyed}
use Rattle.im_group.proofs.Agreement.{same_value, keys_tie}
use Rattle.im_group.proofs.Held.{keyed-insert_entry, placed_new}
use Rattle.im_group.proofs.grouping.put_new.Goals as goal

pub returns : goal.returns
returns c =
    ap (keyed (λ k. k.items)) c.in_ok-insert.ensures.entries
    ∙ (keyed-insert_entry (λ x y. pointwise same_value x.items y.items) (λ k. k.items)
    (λ x y. keys_tie x.items y.items) c.args.groups.now.entries c.args.key c.args.tallies
    ∙ placed_new (keyed (λ k. k.items) c.args.groups.now.entries) c.args.key.items c.args.tallies c.requires)
