use Rattle.std.proofs.Common.{◌∙◌, ◌++◌, sym, ap, get_or, is_eq}
use Rattle.std.proofs.lemmas.Option.{get_or_from_slice_get}
use Rattle.im_values.specs.declared.content.Content.TheVariants.{Null}
use Rattle.im_codes.specs.Dictionary.{lent}
use Rattle.im_column.proofs.PickLemmas.{ties}
use Rattle.im_column.proofs.picking.stays.Goals as goal

pub returns : goal.returns
returns c =
    let old = c.args.old.now in
    ties c.is_eq.result c.value_picked.result.now c.get.result.now (get_or (old ++ lent c.args.fresh.now) c.args.place Null) (get_or old c.args.at Null)
    (c.is_eq.ensures ∙ ap is_eq c.order.ensures) c.value_picked.ensures
    (sym (get_or_from_slice_get old c.args.at c.get.result.now Null c.get.ensures))
