use Rattle.im_lex.proofs.Rounds.{next_is, next_stands, next_within, lexes_or_bad}
use Rattle.im_lex.proofs.lexing.place_of.Goals as goal
use Rattle.im_lex.proofs.lexing.place_of.Goals.{in-Ok, in-Err-At, in-Err-NoMemory}

pub returns-clause-stands : goal.returns-clause-stands
returns-clause-stands c =
    elim c.match-read_tokens.branch [
      | in-Ok w ↦ rw w.result-is (next_stands c.args.n c.args.line.now _ _ w.in-Ok.ensures.found)
      | in-Err-At w ↦ rw w.result-is (rw w.in-Err-At.field-0-is at w.in-Err-At.ensures.before)
      | in-Err-NoMemory w ↦ rw w.result-is tt
    ]

pub returns-clause-is : goal.returns-clause-is
returns-clause-is c =
    elim c.match-read_tokens.branch [
      | in-Ok w ↦ rw w.result-is (next_is c.args.n c.args.line.now _ _ w.in-Ok.ensures.found)
      | in-Err-At w ↦
          let bad = rw w.in-Err-At.field-0-is at w.in-Err-At.ensures.bad in
          rw w.result-is (λ ts l. absurd (lexes_or_bad c.args.line.now ts w.in-Err-At.field-0-0 l bad))
      | in-Err-NoMemory w ↦ rw w.result-is (λ ts l. tt)
    ]

pub returns-clause-within : goal.returns-clause-within
returns-clause-within c =
    elim c.match-read_tokens.branch [
      | in-Ok w ↦ rw w.result-is (next_within c.args.n c.args.line.now _ _ w.in-Ok.ensures.found)
      | in-Err-At w ↦ rw w.result-is tt
      | in-Err-NoMemory w ↦ rw w.result-is tt
    ]
