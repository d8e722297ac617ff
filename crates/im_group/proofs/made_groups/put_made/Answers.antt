use Rattle.std.proofs.Common.{ap, ◌∙◌}
use Rattle.std.specs.Cmp.Lexicographic.{pointwise}
use Rattle.im_group.specs.Partials.{keyed}
use Rattle.im_group.specs.inner.Steps.{placed}
use Rattle.im_group.proofs.Agreement.{same_value, keys_tie}
use Rattle.im_group.proofs.Held.{keyed-insert_entry}
use Rattle.im_group.proofs.made_groups.put_made.Goals as goal

pub returns : goal.returns
returns c =
    let groups = c.args.groups.now.entries in
    ap (keyed (λ k. k.items)) c.in_ok-insert.ensures.entries
    ∙ (keyed-insert_entry (λ x y. pointwise same_value x.items y.items) (λ k. k.items) (λ x y. keys_tie x.items y.items) groups c.args.group.key c.of.result
    ∙ ap (placed (keyed (λ k. k.items) groups) c.args.group.key.items) c.of.ensures)
