use Rattle.im_lex.proofs.StraightLaws.{insert_reads, into_reads, head_reads}
use Rattle.im_lex.proofs.inserts.head.Goals as goal

pub behind_letters-requires-2 : goal.behind_letters-requires-2
behind_letters-requires-2 c = (insert_reads c.args.line.now 0 c.in-Some.at c.in-Some.ensures).within

pub table-requires : goal.table-requires
table-requires c = (into_reads c.args.line.now c.in-Some.at c.in-Some-behind_letters.at c.in-Some-behind_letters.ensures).within

pub returns : goal.returns
returns c =
    head_reads c.args.line.now c.in-Some.at c.in-Some-behind_letters.at c.in-Some-2.at c.in-Some-behind_letters-2.next c.in-Some-2.name
    c.in-Some.ensures c.in-Some-behind_letters.ensures (rw c.in-Some-2.is at c.in_ok-name.ensures) c.in-Some-behind_letters-2.ensures
