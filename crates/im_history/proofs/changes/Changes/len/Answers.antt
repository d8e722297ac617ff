use Rattle.std.proofs.Common.{length, sym, ap, ◌∙◌}
use Rattle.im_history.specs.inner.Forms.{changes_in}
use Rattle.im_history.proofs.PutLaws.{length-put_from}
use Rattle.im_history.proofs.changes.Changes.len.Goals as goal

pub returns-in-Put : goal.returns-in-Put
returns-in-Put c =
    c.len.ensures
    ∙ (sym (length-put_from c.in-Put.field-0 c.in-Put.field-1 c.in-Put.rows)
    ∙ ap length (sym (ap changes_in c.in-Put.is) ∙ c.self.view_is))
