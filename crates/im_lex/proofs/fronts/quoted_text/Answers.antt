use Rattle.std.proofs.Common.{◌∙◌, ◌+◌, ℕ, List, drop, length-drop, sym, ap, arith}
use Rattle.im_syntax.specs.declared.token.Token.TheVariants as token
use Rattle.im_lex.specs.declared.front.Front.TheVariants.{Lexed}
use Rattle.im_lex.specs.Bytes.{text_found}
use Rattle.im_lex.specs.inner.Pieces.{piece_of}
use Rattle.im_lex.proofs.Texts.{at_over, at_end, at_byte, at_all, piece_fits}
use Rattle.im_lex.proofs.fronts.quoted_text.Goals as goal

pub returns-in-Over : goal.returns-in-Over
returns-in-Over c =
    ap text_found (sym (at_over c.loop.content.items c.loop.taken c.args.bytes.now _ c.loop.invariant.0
    (ap piece_of (sym c.behind.ensures) ∙ sym c.piece.ensures ∙ c.in-Over.is)))

pub behind-requires : goal.behind-requires
behind-requires c = c.loop.invariant.1

pub returns-in-End : goal.returns-in-End
returns-in-End c =
    let e = at_end c.loop.content.items c.loop.taken c.args.bytes.now _ c.loop.invariant.0
    (ap piece_of (sym c.behind.ensures) ∙ sym c.piece.ensures ∙ c.in-End.is) in
    ap (λ (x : List ℕ). Lexed (token.Text x) (c.loop.taken + 1)) (c.in_ok-name-in-End.ensures ∙ c.as_slice.ensures.value) ∙ ap text_found (sym e)

pub loop-preserved : goal.loop-preserved
loop-preserved c =
    let is = ap piece_of (sym c.behind.ensures) ∙ sym c.piece.ensures ∙ c.in-Byte.is in
    let e = at_byte c.loop.content.items c.loop.taken c.args.bytes.now _ c.loop.invariant.0 c.in-Byte.byte c.in-Byte.length is in
    let f = piece_fits (drop c.loop.taken c.args.bytes.now) c.in-Byte.byte c.in-Byte.length is in
    let l = length-drop c.loop.taken c.args.bytes.now in
    (rw c.in_ok-push-in-Byte.ensures.items e, omega arith, omega arith)

pub returns : goal.returns
returns c = ap text_found (sym (at_all c.loop.content.items c.loop.taken c.args.bytes.now _ c.loop.invariant.0 (omega arith)))
