use Rattle.std.proofs.Common.{◌∙◌, ◌+◌, ℕ, List, sym, ap}
use Rattle.im_syntax.specs.declared.token.Token.TheVariants as token
use Rattle.im_lex.specs.declared.front.Front.TheVariants.{Lexed}
use Rattle.im_lex.specs.Bytes.{text_found}
use Rattle.im_lex.specs.inner.Pieces.{piece_of}
use Rattle.im_lex.proofs.Texts.{plain_over, plain_end}
use Rattle.im_lex.proofs.fronts.text.Goals as goal

pub returns-in-Over : goal.returns-in-Over
returns-in-Over c =
    ap text_found (sym (plain_over c.args.bytes.now c.plain_len-plain.result c.plain_len-plain.ensures.count
    (ap piece_of (sym c.behind.ensures) ∙ sym c.piece.ensures ∙ c.in-Over.is)))

pub returns-in_ok-name-in-End : goal.returns-in_ok-name-in-End
returns-in_ok-name-in-End c =
    let e = plain_end c.args.bytes.now c.plain_len-plain.result c.plain_len-plain.ensures.count
    (ap piece_of (sym c.behind.ensures) ∙ sym c.piece.ensures ∙ c.in-End.is) in
    ap (λ (x : List ℕ). Lexed (token.Text x) (c.plain_len-plain.result + 1)) c.in_ok-name-in-End.ensures ∙ ap text_found (sym e)
