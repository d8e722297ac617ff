use Rattle.im_lex.proofs.Rounds.{all_found, found_is, found_never_bad, fault_only, fault_is}
use Rattle.im_lex.proofs.lexing.lex.Goals as goal

pub returns-in-Ok-clause-found : goal.returns-in-Ok-clause-found
returns-in-Ok-clause-found c = all_found c.args.line.now _ _ c.in-Ok.ensures.found

pub returns-in-Ok-clause-only : goal.returns-in-Ok-clause-only
returns-in-Ok-clause-only c = found_is c.args.line.now _ (all_found c.args.line.now _ _ c.in-Ok.ensures.found)

pub returns-in-Ok-clause-bad_only : goal.returns-in-Ok-clause-bad_only
returns-in-Ok-clause-bad_only c = found_never_bad c.args.line.now _ (all_found c.args.line.now _ _ c.in-Ok.ensures.found)

pub returns-in-Err-clause-only : goal.returns-in-Err-clause-only
returns-in-Err-clause-only c = fault_only c.args.line.now c.in-Err.fault c.in-Err.ensures.bad

pub returns-in-Err-clause-bad_only : goal.returns-in-Err-clause-bad_only
returns-in-Err-clause-bad_only c = fault_is c.args.line.now c.in-Err.fault c.in-Err.ensures.bad
