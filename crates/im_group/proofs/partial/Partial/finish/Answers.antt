use Rattle.std.proofs.Common.{List, length, map, take, ap, ◌∙◌}
use Rattle.std.proofs.lemmas.Result.{IfOk-weaker}
use Rattle.im_group.specs.Partials.{Numbered, Groups, Parts, held}
use Rattle.im_group.specs.Answers.{part_records, in_order, record_order}
use Rattle.im_group.proofs.QueryLemmas.{part-keyed}
use Rattle.im_group.proofs.partial.Partial.finish.Goals as goal

abbrev parts_of : List Numbered → Groups → Parts
parts_of rows groups = record { rows = rows; groups = groups }

pub records_of-requires-clause-keyed : goal.records_of-requires-clause-keyed
records_of-requires-clause-keyed c =
    part-keyed c.args.bound.now c.args.self c.self.inside.groups.entries c.requires.part (ap (λ (p : Parts). p.groups) c.self.view_is)

pub returns : goal.returns
returns c =
    let parts = ap (λ rows. parts_of rows (held (λ k. k.items) c.self.inside.groups.entries)) c.as_slice-2.ensures.value ∙ c.self.view_is in
    let made = c.in_ok-records.ensures ∙ ap (part_records c.args.bound.now) parts in
    let ordered = c.in_ok-put_in_order.ensures ∙ (λ i. in_order (record_order (c.items.ensures i) (length (c.items-count.ensures i))) (made i)) in
    IfOk-weaker c.projected.result _ _ (λ out h. h ∙ (λ i. map (take (length (c.items-count.ensures i))) (ordered i))) c.projected.ensures
