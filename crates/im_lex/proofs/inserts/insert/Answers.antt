use Rattle.im_lex.proofs.StraightLaws.{statement_lexed}
use Rattle.im_lex.proofs.inserts.insert.Goals as goal

pub returns-clause-lexed : goal.returns-clause-lexed
returns-clause-lexed c =
    rw (c.of.ensures, c.new.ensures.items)
    (statement_lexed c.args.line.now c.in-Some.at c.in-Some.name c.in-Some-2.tuples (rw c.in-Some.is at c.in_ok-name.ensures)
    (rw c.in-Some-2.is at c.in_ok-tuples.ensures))
