use Rattle.std.proofs.Common.{◌∙◌, sym}
use Rattle.std.proofs.lemmas.Result.{IfOk-weaker, IfErr-weaker}
use Rattle.im_parse.proofs.Sides.{side_found, side_fault, other_place}
use Rattle.im_parse.proofs.parsing.parse_for.Goals as goal

pub returns-then-begins-clause-found : goal.returns-then-begins-clause-found
returns-then-begins-clause-found c =
    IfOk-weaker c.parse.result _ _ (λ s p. (
      side_found c.args.side c.args.tokens.now s (sym c.begins.ensures ∙ c.if-begins.true) p.0 p.1,
      p.1,
    )) c.parse.ensures.found

pub returns-then-begins-clause-place : goal.returns-then-begins-clause-place
returns-then-begins-clause-place c =
    IfErr-weaker c.parse.result _ _ (λ f p. side_fault c.args.side c.args.tokens.now (sym c.begins.ensures ∙ c.if-begins.true) f p) c.parse.ensures.place

pub returns-else-begins-clause-only : goal.returns-else-begins-clause-only
returns-else-begins-clause-only c = (other_place c.args.side c.args.tokens.now (sym c.begins.ensures ∙ c.if-begins.false)).none

pub returns-else-begins-clause-place : goal.returns-else-begins-clause-place
returns-else-begins-clause-place c = other_place c.args.side c.args.tokens.now (sym c.begins.ensures ∙ c.if-begins.false)
