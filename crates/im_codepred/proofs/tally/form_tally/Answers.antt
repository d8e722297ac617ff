use Rattle.std.proofs.Common.{List, subst}
use Rattle.im_values.specs.declared.content.Content.{Content as Value}
use Rattle.im_codepred.specs.Tallies.{chosen, IsTallyOf}
use Rattle.im_codepred.proofs.TallyLemmas.{values-tally}
use Rattle.im_codepred.proofs.tally.form_tally.Goals as goal

pub returns-in-Plain : goal.returns-in-Plain
returns-in-Plain c =
    let P : List Value → Type 0 = λ vs. IsTallyOf (chosen c.args.mask.now vs) c.tally.result in
    subst P c.in-Plain.ensures.1 (values-tally (chosen c.args.mask.now c.in-Plain.values.now) c.gathered_in.result c.tally.result c.gathered_in.ensures c.tally.ensures)
