use Rattle.std.proofs.Common.{◌≡◌, ◌∙◌, ℕ, List, drop, sym, ap, true}
use Rattle.std.specs.Char.{is_ascii_alphabetic}
use Rattle.im_syntax.specs.declared.token.Token.TheVariants as token
use Rattle.im_lex.specs.declared.front.Front.TheVariants.{Lexed}
use Rattle.im_lex.specs.Bytes.{first, run, is_word_part, word_front}
use Rattle.im_lex.proofs.StraightLaws.{name_reads}
use Rattle.im_lex.proofs.inserts.table.Goals as goal

pub returns : goal.returns
returns c =
    let line = c.args.line.now in
    let place = c.behind_blanks-place.result in
    let letter : is_ascii_alphabetic (first (drop place line)) ≡ true =
    ap (λ (bs : List ℕ). is_ascii_alphabetic (first bs)) (sym c.behind-bytes.ensures)
    ∙ ap is_ascii_alphabetic (sym c.first.ensures) ∙ sym c.is_ascii_alphabetic.ensures.value ∙ c.if-not-is_ascii_alphabetic.false in
    let found : word_front (run is_word_part (drop place line)) ≡ Lexed (token.Word c.in-Some.name) c.in-Some.more =
    ap (λ (bs : List ℕ). word_front (run is_word_part bs)) (sym c.behind-bytes.ensures) ∙ sym c.in_ok-word.ensures ∙ c.in-Some.ensures.token in
    name_reads line c.args.at place c.in-Some.name c.in-Some.more c.behind_blanks-place.ensures letter found c.in-Some.ensures.named
