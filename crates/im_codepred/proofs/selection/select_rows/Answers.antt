use Rattle.std.proofs.Common.{Bool, List, sym, ◌∙◌}
use Rattle.im_values.specs.declared.content.Content.{Content as Value}
use Rattle.im_eval.specs.Holds.{truth_of}
use Rattle.im_codepred.specs.declared.asked.Wanted.TheVariants.{Held}
use Rattle.im_codepred.specs.Asked.{met}
use Rattle.im_codepred.proofs.SelectionLemmas.{ask-run}
use Rattle.im_codepred.proofs.selection.select_rows.Goals as goal

pub returns : goal.returns
returns c =
    let q : List Value → Bool = λ row. met Held (truth_of c.args.filter.now row) in
    c.in_ok-mask-3.ensures ∙ sym (ask-run q c.args.rows.now)
