use Rattle.std.proofs.Common.{◌≡◌, List, [], ◌∷◌, ◌++◌, take, ap, sym, ◌∙◌}
use Rattle.im_syntax.specs.declared.literal.Lit.{Lit}
use Rattle.im_syntax.specs.Tuples.{written}
use Rattle.im_syntax.proofs.EvenLemmas.{written-next}
use Rattle.im_syntax.proofs.even.listed.Goals as goal

pub loop-at-preserved : goal.loop-at-preserved
loop-at-preserved c =
    c.in_ok-push.ensures.items
    ∙ (ap (λ (tuples : List (List Lit)). tuples ++ c.in_ok-tuple_of.field-0 ∷ []) c.loop-at.invariant
    ∙ (ap (λ (tuple : List Lit). written (take c.loop-at.at c.args.rows.now) ++ tuple ∷ []) c.in_ok-tuple_of.ensures
    ∙ sym (written-next c.args.rows.now c.loop-at.at c.values.result.now c.values.ensures)))
