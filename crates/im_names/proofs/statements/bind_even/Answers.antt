use Rattle.std.proofs.Common.{◌≡◌, ◌∙◌, length, sym, arith}
use Rattle.std.proofs.lemmas.Bool.Decides.{nat_tests}
use Rattle.im_names.proofs.EvenLemmas.{even_passes}
use Rattle.im_names.proofs.statements.bind_even.Goals as goal

pub returns-then-all_fit-clause-ok : goal.returns-then-all_fit-clause-ok
returns-then-all_fit-clause-ok c =
    let none : length c.args.names.now ≡ 0 = grind (arith, nat_tests, c.is_empty.ensures, c.if-is_empty.true) in
    even_passes c.args.table.now.schema c.args.table.now.defaults c.args.names.now c.args.tuples.now c.in_ok-rows.rows none (sym c.all_fit.ensures ∙ c.if-all_fit.true)
    c.rows.ensures.proper c.in_ok-rows.ensures.rows
