use Rattle.std.proofs.Common.{◌∙◌, ap, length}
use Rattle.im_statements.specs.Assigned.{assigned}
use Rattle.im_session.proofs.AssignLemmas.{length-assigned, written_back}
use Rattle.im_session.proofs.changes.row_with.Goals as goal

pub returns : goal.returns
returns c =
    let copy = c.in_ok-copy.copy in
    let made = c.in_ok-assign.ensures ∙ ap (assigned c.args.sets.now) c.as_mut_slice.ensures.value in
    c.of.ensures
    ∙ (written_back copy.len c.assign.new.values copy.items copy.ok.0
    (ap length made ∙ length-assigned c.args.sets.now copy.items)
    ∙ (made ∙ ap (assigned c.args.sets.now) (c.in_ok-copy.ensures ∙ c.values.ensures)))
