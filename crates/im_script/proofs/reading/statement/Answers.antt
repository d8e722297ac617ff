use Rattle.std.proofs.Common.{arith}
use Rattle.im_script.specs.Lines.{bad_byte, no_memory}
use Rattle.im_script.specs.inner.Statements.{kind_of}
use Rattle.im_script.proofs.Told.{bad_byte_fits, said_statement, said_token}
use Rattle.im_script.proofs.reading.statement.Goals as goal

pub returns-in-Ok-parse_for : goal.returns-in-Ok-parse_for
returns-in-Ok-parse_for c =
    rw c.kind_of.ensures
    (said_statement c.args.side c.args.before c.args.line.now (kind_of c.args.side c.args.number) _ c.in-Ok-parse_for.stmt
    (rw c.behind.ensures at c.in-Ok.ensures.found)
    (rw c.as_slice.ensures.value at c.in-Ok-parse_for.ensures.found))

pub returns-in-Err-At-parse_for : goal.returns-in-Err-At-parse_for
returns-in-Err-At-parse_for c =
    said_token c.args.side c.args.before c.args.line.now (kind_of c.args.side c.args.number) c.in-Ok.tokens.items c.in-Err-At-parse_for.n c.bad_token.result
    (rw c.behind.ensures at c.in-Ok.ensures.found)
    (rw (c.as_slice.ensures.value, c.in-Err-At-parse_for.field-0-is) at c.in-Err-At-parse_for.ensures.place)
    (rw c.in-Err-At-parse_for.field-0-is at c.bad_token.ensures)

pub returns-in-Ok : goal.returns-in-Ok
returns-in-Ok c = no_memory

pub overflow_add-result : goal.overflow_add-result
overflow_add-result c =
    let bad = rw (c.behind.ensures, c.in-Err-At.field-0-is) at c.in-Err-At.ensures.bad in
    let fits = bad_byte_fits c.args.before c.args.line.now c.in-Err-At.at c.requires.within c.requires.short bad in
    rw c.in-Err-At.field-0-is (omega arith)

pub overflow_add-result-in-Err-At : goal.overflow_add-result-in-Err-At
overflow_add-result-in-Err-At c =
    let bad = rw (c.behind.ensures, c.in-Err-At.field-0-is) at c.in-Err-At.ensures.bad in
    let fits = bad_byte_fits c.args.before c.args.line.now c.in-Err-At.at c.requires.within c.requires.short bad in
    rw c.in-Err-At.field-0-is (omega arith)

pub returns-in-Err-At : goal.returns-in-Err-At
returns-in-Err-At c =
    rw c.in-Err-At.field-0-is
    (bad_byte c.in-Err-At.at (rw (c.behind.ensures, c.in-Err-At.field-0-is) at c.in-Err-At.ensures.bad))

pub returns : goal.returns
returns c = no_memory
