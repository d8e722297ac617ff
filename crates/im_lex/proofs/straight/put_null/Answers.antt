use Rattle.im_lex.proofs.StraightLaws.{null_value}
use Rattle.im_lex.proofs.straight.put_null.Goals as goal

pub returns : goal.returns
returns c = null_value c.args.line.now c.args.at c.in-Some.next c.args.values.now.items c.push.new.self.items c.in-Some.ensures (rw c.null.ensures at c.in_ok-push.ensures.items)
