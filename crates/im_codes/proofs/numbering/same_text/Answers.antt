use Rattle.std.proofs.Common.{sym, ◌∙◌}
use Rattle.std.proofs.lemmas.Slice.Eq.{bytes_eq-Decides}
use Rattle.im_codes.proofs.NumberingLemmas.{on-true}
use Rattle.im_codes.proofs.numbering.same_text.Goals as goal

pub returns : goal.returns
returns c = on-true c.eq.result _ (λ e. (bytes_eq-Decides c.args.a.now c.args.b.now).0 (sym c.eq.ensures ∙ e))
