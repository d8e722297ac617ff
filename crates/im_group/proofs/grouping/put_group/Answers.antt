use Rattle.std.proofs.Common.{[], arith, ap, ◌∙◌}
use Rattle.std.specs.Cmp.Lexicographic.{pointwise}
use Rattle.im_group.specs.Partials.{keyed}
use Rattle.im_group.specs.inner.Steps.{placed}
use Rattle.im_group.specs.Tallies.{row_taken}
use Rattle.im_group.proofs.Few.{all_few}
use Rattle.im_group.proofs.Agreement.{same_value, keys_tie}
use Rattle.im_group.proofs.Held.{keyed-insert_entry}
use Rattle.im_group.proofs.grouping.put_group.Goals as goal

pub take-requires-clause-few : goal.take-requires-clause-few
take-requires-clause-few c = rw c.in_ok-tallies.ensures (all_few c.args.asked.now [] (omega arith))

pub returns : goal.returns
returns c =
    let taken = c.in_ok-take.ensures ∙ ap (λ ts. row_taken c.args.asked.now ts c.args.row.now) c.in_ok-tallies.ensures in
    ap (keyed (λ k. k.items)) c.in_ok-insert.ensures.entries
    ∙ (keyed-insert_entry (λ x y. pointwise same_value x.items y.items) (λ k. k.items)
    (λ x y. keys_tie x.items y.items) c.args.groups.now.entries c.in_ok-copied.field-0 c.take.new.self
    ∙ (λ i. placed (keyed (λ k. k.items) c.args.groups.now.entries) (c.in_ok-copied.ensures i) (taken i)))
