use Rattle.std.proofs.Common.{List, subst, sym, ◌∙◌}
use Rattle.im_values.specs.declared.content.Content.{Content as Value}
use Rattle.im_codepred.specs.Tallies.{IsTallyOf}
use Rattle.im_codepred.proofs.WholeLemmas.{chosen-whole}
use Rattle.im_codepred.proofs.tally.tally_of.Goals as goal

pub returns-in-Some : goal.returns-in-Some
returns-in-Some c =
    let P : List Value → Type 0 = λ vs. IsTallyOf vs c.in-Some.tally in
    subst P (sym (chosen-whole c.args.mask.now c.args.column.now c.requires (sym c.count.ensures ∙ (c.if-count-len.true ∙ c.len.ensures.len)))) c.in-Some.ensures
