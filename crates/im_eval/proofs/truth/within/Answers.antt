use Rattle.std.proofs.Common.{refl, sym, ap, ◌∙◌}
use Rattle.im_values.specs.Contents.{content_seen}
use Rattle.im_syntax.specs.Choices.{has}
use Rattle.im_values.specs.declared.content.Content.TheVariants.{Null}
use Rattle.im_eval.proofs.WithinLemmas.{seen_null, within_looked, within_null}
use Rattle.im_eval.proofs.truth.within.Goals as goal

pub returns-in-Null : goal.returns-in-Null
returns-in-Null c = within_null c.args.value.now c.args.choices.now (c.seen.ensures ∙ ap content_seen c.in-Null.is) (sym c.is_empty.ensures ∙ c.if-is_empty.false)

pub returns-in_default : goal.returns-in_default
returns-in_default c =
    let found = sym c.if-has.true ∙ c.has.ensures in
    within_looked c.args.value.now c.args.choices.now _ (has c.args.choices.now Null) (λ e. c.in_default.not-Null (seen_null c.seen.result (sym c.seen.ensures ∙ e))) found refl

pub returns-in_default-2 : goal.returns-in_default-2
returns-in_default-2 c =
    let missed = sym c.if-has.false ∙ c.has.ensures in
    within_looked c.args.value.now c.args.choices.now _ _ (λ e. c.in_default.not-Null (seen_null c.seen.result (sym c.seen.ensures ∙ e))) missed (sym c.if-has_null.true ∙ c.has_null.ensures)

pub returns-in_default-3 : goal.returns-in_default-3
returns-in_default-3 c =
    let missed = sym c.if-has.false ∙ c.has.ensures in
    within_looked c.args.value.now c.args.choices.now _ _ (λ e. c.in_default.not-Null (seen_null c.seen.result (sym c.seen.ensures ∙ e))) missed (sym c.if-has_null.false ∙ c.has_null.ensures)
