use Rattle.std.proofs.Common.{◌∙◌, ap, subst}
use Rattle.im_script.specs.declared.form.Form.{Form}
use Rattle.im_script.specs.Forms.{who_of}
use Rattle.im_script.specs.Lines.{HasKind}
use Rattle.im_script.proofs.Sessions.{line_names}
use Rattle.im_script.proofs.reading.line_of.Goals as goal

pub returns-clause-names : goal.returns-clause-names
returns-clause-names c =
    line_names c.args.line.now _ (c.who.ensures ∙ ap who_of c.form-form.ensures)
    (subst (λ (f : Form). HasKind f c.args.line.now c.kind_of_form.result) c.form-form.ensures c.kind_of_form.ensures)
