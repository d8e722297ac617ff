use Rattle.std.proofs.Common.{◌<◌, ◌+◌, [], length, map, ap, sym, get_or, ◌∙◌, arith}
use Rattle.std.specs.Arc.{arc_value}
use Rattle.std.proofs.lemmas.List.{length-map, length-set}
use Rattle.im_values.specs.declared.content.Content.TheVariants.{Null}
use Rattle.im_unit.proofs.PieceLemmas.{column-at, lends-more}
use Rattle.im_unit.proofs.reading.lend_piece.Goals as goal

pub lend_from-requires : goal.lend_from-requires
lend_from-requires c =
    let columns = c.args.columns.now in
    let is = column-at arc_value columns c.loop-i.i c.index-columns-i.result c.loop-i-test.true c.index-columns-i.is in
    let within = c.requires.within c.loop-i.i [] (omega (arith, length-map columns arc_value, c.loop-i-test.true)) in
    omega (arith, within, ap length is, ap length c.deref.ensures)

pub loop-i-preserved : goal.loop-i-preserved
loop-i-preserved c =
    let columns = c.args.columns.now in
    let piece = c.loop-i.piece.items in
    let inside : c.loop-i.i < length piece = omega (arith, c.loop-i.invariant.many, c.loop-i-test.true) in
    let is = c.deref.ensures ∙ sym (column-at arc_value columns c.loop-i.i c.index-columns-i.result c.loop-i-test.true c.index-columns-i.is) in
    record {
      many = length-set piece c.loop-i.i c.lend_from.new.out ∙ c.loop-i.invariant.many;
      lends =
          lends-more (map arc_value columns) c.args.first piece c.loop-i.i c.lend_from.new.out inside
          (λ k within. c.lend_from.ensures k within ∙ ap (λ column. get_or column (c.args.first + k) Null) is) c.loop-i.invariant.lends;
    }
