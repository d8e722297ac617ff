use Rattle.std.proofs.Common.{◌≤◌, length}
use Rattle.im_lex.proofs.Rounds.{SoFar}
use Rattle.im_lex.proofs.lexing.read_tokens.Given as goal

abbrev pub invariant-loop : goal.invariant-loop
invariant-loop l = SoFar l.at l.line l.tokens.items × (l.counter ≤ l.at) × (length l.tokens.items ≤ l.at) × (length l.tokens.items ≤ l.most)
