use Rattle.std.proofs.Common.{rules, tests, ◌∙◌}
use Rattle.std.proofs.lemmas.Iterator.{YieldsList-from_slice}
use Rattle.std.proofs.lemmas.Iterator.Search.{find_from_yields_List}
use Rattle.im_txn.specs.Activity.{is_number}
use Rattle.im_txn.proofs.cursor.with_number.Goals as goal

pub returns : goal.returns
returns c =
    c.copied.ensures
    ∙ find_from_yields_List (is_number c.args.number) _ _ c.find.result c.find.ensures.ran (YieldsList-from_slice c.args.cursors.now cc)
    (λ x b q k. search (rules, tests))
