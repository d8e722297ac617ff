use Rattle.std.proofs.Common.{Some, ap, sym, is_eq, ◌∙◌}
use Rattle.im_codes.proofs.DictLemmas.{same_is}
use Rattle.im_codes.proofs.NumberingLemmas.{on-true}
use Rattle.im_codes.proofs.coding.is_code.Goals as goal

pub returns : goal.returns
returns c =
    on-true c.is_eq.result _
    (λ e. c.value.ensures ∙ ap Some (same_is c.value.result.now c.args.value.now (ap is_eq (sym c.order.ensures) ∙ (sym c.is_eq.ensures ∙ e))))
