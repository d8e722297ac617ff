use Rattle.std.proofs.Common.{arith}
use Rattle.std.proofs.lemmas.List.Elements.{All-push}
use Rattle.im_script.specs.Lines.{NamesOneOf16}
use Rattle.im_script.proofs.Cuts.{next_line, at_end}
use Rattle.im_script.proofs.script.lines.Goals as goal

pub loop-rest-preserved : goal.loop-rest-preserved
loop-rest-preserved c = (
  rw c.in_ok-push.ensures.items
      (next_line c.loop-rest.number c.args.script.now c.loop-rest.rest.now c.first_line.result.1.now c.first_line.result.0.now
      c.loop-rest.lines.items c.line_of.result c.first_line.ensures.lines c.line_of.ensures.is c.loop-rest.invariant.0),
  omega arith,
  rw c.in_ok-push.ensures.items
      (All-push NamesOneOf16 c.loop-rest.lines.items c.line_of.result c.loop-rest.invariant.2 c.line_of.ensures.names),
)

pub returns-clause-are : goal.returns-clause-are
returns-clause-are c =
    at_end c.loop-rest.number c.args.script.now c.loop-rest.rest.now c.loop-rest.lines.items (omega arith) c.loop-rest.invariant.0
