use Rattle.std.proofs.Common.{◌∙◌, sym, ap, length, get_or, arith}
use Rattle.std.specs.Arc.{arc_value}
use Rattle.std.proofs.lemmas.Option.{get_or_from_slice_get}
use Rattle.im_values.specs.declared.content.Content.TheVariants.{Null}
use Rattle.im_unit.proofs.ReadLemmas.{across-more, long-at}
use Rattle.im_unit.proofs.reading.push_row.Goals as goal

pub get-requires : goal.get-requires
get-requires c =
    let long = long-at arc_value c.args.columns.now c.args.count c.loop-column.column-index c.column-item.result c.requires.long c.loop-column-test.true
    c.column-item.is in
    omega (arith, ap length c.deref.ensures, long, c.requires.inside)

pub loop-column-preserved : goal.loop-column-preserved
loop-column-preserved c =
    let read = get_or_from_slice_get c.deref.result.now c.args.spot c.get.result.now Null c.get.ensures in
    across-more arc_value c.args.columns.now c.loop-column.column-index c.args.spot c.column-item.result c.in_ok-copy.field-0 c.args.values.now.items
    c.loop-column.values.items c.push.new.self.items c.loop-column-test.true c.column-item.is
    (c.in_ok-copy.ensures ∙ (sym read ∙ ap (λ column. get_or column c.args.spot Null) c.deref.ensures)) c.loop-column.invariant
    c.in_ok-push.ensures.items
