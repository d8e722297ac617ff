use Rattle.im_lex.proofs.StraightLaws.{value_behind}
use Rattle.im_lex.proofs.straight.value.Goals as goal

pub returns : goal.returns
returns c =
    value_behind c.args.line.now c.args.at c.behind_blanks-place.result c.in-Some.next c.args.values.now.items c.put_value.new.values.items
    c.behind_blanks-place.ensures (rw c.in-Some.is at c.in_ok-next.ensures)
