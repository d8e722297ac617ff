use Rattle.std.proofs.Common.{[], ◌∷◌, ◌++◌, List, ℕ, take, sym, ap, subst, ◌∙◌, arith}
use denote.Ref.{Bor}
use Rattle.im_values.specs.declared.content.Content.{Content as Value}
use Rattle.im_syntax.specs.BoundFits.{BoundFits}
use Rattle.im_group.specs.Partials.{lent_rows, partial}
use Rattle.im_group.proofs.GroupSteps.{fits-at, lent-push, few_lent}
use Rattle.im_group.proofs.partial.part_of.Goals as goal

pub take_shared-requires-clause-fits : goal.take_shared-requires-clause-fits
take_shared-requires-clause-fits c =
    subst (BoundFits c.loop-number-item.result.1.now) (sym c.in_ok-asking.ensures)
    (fits-at c.args.bound.now c.args.rows.now c.loop-number.number-index c.loop-number-item.result c.loop-number-test.true c.loop-number-item.is c.requires)

pub take_shared-requires-clause-few : goal.take_shared-requires-clause-few
take_shared-requires-clause-few c =
    let before = lent_rows (take c.loop-number.number-index c.args.rows.now) in
    let few = few_lent c.args.rows.now c.loop-number.number-index in
    record {
      rows = before;
      is = c.loop-number.invariant ∙ ap (λ b. partial b before) (sym c.in_ok-asking.ensures);
      few = omega (arith, few, c.loop-number-test.true);
    }

pub loop-number-preserved : goal.loop-number-preserved
loop-number-preserved c =
    let i = c.loop-number.number-index in
    let before = lent_rows (take i c.args.rows.now) in
    let item = λ (r : ℕ × Bor (List Value)). before ++ (r.0, r.1.now) ∷ [] in
    c.in_ok-take_shared.ensures.goes before (c.loop-number.invariant ∙ ap (λ b. partial b before) (sym c.in_ok-asking.ensures))
    ∙ (ap (λ b. partial b (item c.loop-number-item.result)) c.in_ok-asking.ensures
    ∙ ap (partial c.args.bound.now) (ap item c.loop-number-item.is ∙ sym (lent-push c.args.rows.now i c.loop-number-item.result c.loop-number-test.true)))
