use Rattle.std.proofs.Common.{rules, not}
use Rattle.std.proofs.lemmas.Fn.{filter_same}
use Rattle.im_txn.specs.Activity.{is_number}
use Rattle.im_txn.proofs.cursor.remove_number.Goals as goal

pub returns-clause-items : goal.returns-clause-items
returns-clause-items c = filter_same _ (λ cursor. not (is_number c.args.number cursor)) _ (λ x b f k. search rules) _ _ c.retain.ensures.filtered
