use Rattle.std.proofs.Common.{◌≡◌, ◌∷◌, [], ◌++◌, refl, arith, rules}
use Rattle.im_values.specs.declared.content.Content.TheVariants as value
use Rattle.im_syntax.specs.declared.token.Token.TheVariants as token
use Rattle.im_lex.proofs.Rounds.{token_room}
use Rattle.im_lex.proofs.StraightLaws.{value_reads}
use Rattle.im_lex.proofs.straight.put_number.Goals as goal

pub overflow_add-result-2 : goal.overflow_add-result-2
overflow_add-result-2 c =
    let room = token_room c.args.at c.args.line.now (token.Int c.in-Some.number) c.in-Some.more c.requires (rw c.behind.ensures at c.in-Some.ensures) in
    omega (arith, room)

pub returns : goal.returns
returns c =
    let grown : c.push.new.self.items ≡ c.args.values.now.items ++ value.Int c.in-Some.number ∷ [] = search (rules, c.in_ok-push.ensures.items) in
    value_reads c.args.line.now c.args.at (value.Int c.in-Some.number) c.in-Some.more c.args.values.now.items c.push.new.self.items c.requires
    (rw c.behind.ensures at c.in-Some.ensures) refl grown
