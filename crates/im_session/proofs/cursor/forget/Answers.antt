use Rattle.std.proofs.Common.{rules, not}
use Rattle.std.proofs.lemmas.Fn.{filter_same}
use Rattle.im_session.specs.inner.Running.{is_number}
use Rattle.im_session.proofs.cursor.forget.Goals as goal

pub returns : goal.returns
returns c = filter_same _ (λ kept. not (is_number c.args.number kept)) _ (λ x b f k. search rules) _ _ c.retain.ensures.filtered
