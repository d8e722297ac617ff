use Rattle.std.proofs.Common.{◌≡◌, ◌≤◌, drop, length}
use Rattle.im_lex.specs.Bytes.{text_of}
use Rattle.im_lex.proofs.Texts.{with_text}
use Rattle.im_lex.proofs.fronts.quoted_text.Given as goal

abbrev pub invariant-loop : goal.invariant-loop
invariant-loop l = (with_text l.content.items l.taken (text_of (drop l.taken l.bytes)) ≡ text_of l.bytes) × (l.taken ≤ length l.bytes) × (l.counter ≤ l.taken)
