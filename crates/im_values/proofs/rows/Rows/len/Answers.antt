use Rattle.std.proofs.Common.{length, sym, ap, ◌∙◌}
use Rattle.im_values.proofs.PickLemmas.{length-in}
use Rattle.im_values.proofs.rows.Rows.len.Goals as goal

pub returns : goal.returns
returns c =
    let run = c.self.inside in
    sym (length-in run.form run.first run.width run.count c.self.invariant) ∙ ap length c.self.view_is
