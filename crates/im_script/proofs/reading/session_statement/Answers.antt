use Rattle.std.proofs.Common.{refl}
use Rattle.im_syntax.specs.declared.statement.Side.TheVariants as side
use Rattle.im_syntax.specs.Spelling.{spelling}
use Rattle.im_script.specs.declared.line.LineKind.TheVariants as kind
use Rattle.im_script.specs.Lines.{no_memory}
use Rattle.im_script.proofs.Told.{said_statement}
use Rattle.im_script.proofs.reading.session_statement.Goals as goal

pub returns-in-Ok-Some : goal.returns-in-Ok-Some
returns-in-Ok-Some c =
    let lexed = rw (c.behind.ensures, c.in-Ok-Some.field-0-is) at c.in-Ok-Some.ensures.lexed in
    let is = rw c.in-Ok-Some.field-0-is at c.in-Ok-Some.ensures.is in
    said_statement side.Session c.args.before c.args.line.now (kind.Session c.args.number) (spelling c.in-Ok-Some.stmt) c.in-Ok-Some.stmt lexed (is, refl)

pub returns-in-Err : goal.returns-in-Err
returns-in-Err c = no_memory
