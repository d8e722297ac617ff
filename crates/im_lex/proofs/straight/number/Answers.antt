use Rattle.std.proofs.Common.{◌≡◌, ◌∙◌, sym, ap, true}
use Rattle.std.specs.Char.{is_ascii_digit}
use Rattle.im_lex.specs.Bytes.{front, minus_front}
use Rattle.im_lex.proofs.StraightLaws.{digit_front, minus_front_is}
use Rattle.im_lex.proofs.straight.number.Goals as goal

pub returns-then-is_ascii_digit : goal.returns-then-is_ascii_digit
returns-then-is_ascii_digit c =
    let digit = ap is_ascii_digit (sym c.first.ensures) ∙ sym c.is_ascii_digit.ensures.value ∙ c.if-is_ascii_digit.true in
    rw (digit_front c.args.bytes.now digit, ← c.positive.ensures) c.int_of.ensures

pub returns : goal.returns
returns c =
    let minus = sym c.first-2.ensures ∙ c.if-first-ne45.false in
    let is : front c.args.bytes.now ≡ c.behind_minus.result =
    minus_front_is c.args.bytes.now minus ∙ ap minus_front (sym c.behind.ensures) ∙ sym c.behind_minus.ensures in
    rw is c.int_of-2.ensures
