use Rattle.std.proofs.Common.{◌≡◌, ◌∙◌, ◌+◌, ℕ, List, drop, sym, ap, arith}
use Rattle.im_syntax.specs.declared.token.Token.TheVariants as token
use Rattle.im_lex.specs.declared.front.Front.TheVariants.{Lexed}
use Rattle.im_lex.specs.Bytes.{text_of, text_found}
use Rattle.im_lex.proofs.StraightLaws.{text_reads, text_within}
use Rattle.im_lex.proofs.straight.put_text.Goals as goal

pub overflow_add-result : goal.overflow_add-result
overflow_add-result c =
    let found : text_found (text_of (drop (c.args.at + 1) c.args.line.now)) ≡ Lexed (token.Text c.in-Some.text) c.in-Some.more =
    ap (λ (bs : List ℕ). text_found (text_of bs)) (sym c.behind.ensures) ∙ sym c.in_ok-text.ensures ∙ c.in-Some.ensures.token in
    let room = text_within c.args.line.now c.args.at c.in-Some.text c.in-Some.more c.requires.within c.requires.quote found in
    omega (arith, room)

pub overflow_add-result-2 : goal.overflow_add-result-2
overflow_add-result-2 c =
    let found : text_found (text_of (drop (c.args.at + 1) c.args.line.now)) ≡ Lexed (token.Text c.in-Some.text) c.in-Some.more =
    ap (λ (bs : List ℕ). text_found (text_of bs)) (sym c.behind.ensures) ∙ sym c.in_ok-text.ensures ∙ c.in-Some.ensures.token in
    let room = text_within c.args.line.now c.args.at c.in-Some.text c.in-Some.more c.requires.within c.requires.quote found in
    omega (arith, room)

pub returns : goal.returns
returns c =
    let found : text_found (text_of (drop (c.args.at + 1) c.args.line.now)) ≡ Lexed (token.Text c.in-Some.text) c.in-Some.more =
    ap (λ (bs : List ℕ). text_found (text_of bs)) (sym c.behind.ensures) ∙ sym c.in_ok-text.ensures ∙ c.in-Some.ensures.token in
    text_reads c.args.line.now c.args.at c.in-Some.text c.in-Some.more c.args.values.now.items c.push.new.self.items c.requires.within c.requires.quote
    found c.in-Some.ensures.some (rw c.text-2.ensures at c.in_ok-push.ensures.items)
