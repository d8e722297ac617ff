use Rattle.std.proofs.Common.{sym, ap, ◌∙◌}
use Rattle.std.specs.FinMap as map_of
use Rattle.im_group.specs.Partials.{keyed}
use Rattle.im_group.specs.inner.Steps.{first_groups}
use Rattle.im_group.proofs.TakingLaws.{none-grouped, none-plain}
use Rattle.im_group.proofs.partial.Partial.new.Goals as goal

pub returns-in_ok-groups : goal.returns-in_ok-groups
returns-in_ok-groups c =
    c.of_held.ensures
    ∙ none-grouped c.args.asking.now _ (ap (λ b. b.grouped) (sym c.bound-bound.ensures) ∙ c.if-bound.true)
    (ap map_of.from_entries (c.in_ok-groups.ensures ∙ (λ i. first_groups (c.bound-bound.ensures i).groups (c.asked.ensures i))))

pub returns-else-bound : goal.returns-else-bound
returns-else-bound c =
    c.of_held-else-bound.ensures
    ∙ none-plain c.args.asking.now _ (ap (λ b. b.grouped) (sym c.bound-bound.ensures) ∙ c.if-bound.false)
    (ap (λ es. map_of.from_entries (keyed (λ k. k.items) es)) c.new.ensures.empty)
