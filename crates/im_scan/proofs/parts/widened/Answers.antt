use Rattle.std.proofs.Common.{◌∙◌, All, List, length, map, sym, ap, subst, arith}
use Rattle.std.specs.Arc.{arc_value}
use Rattle.std.proofs.lemmas.List.{length-map}
use Rattle.im_values.specs.declared.content.Content.{Content as Value}
use Rattle.im_column.specs.Forms.{IsShort}
use Rattle.im_scan.proofs.PieceLemmas.{some-inj}
use Rattle.im_scan.proofs.ShownLemmas.{enough-columns, length-lent, widened-columns}
use Rattle.im_scan.proofs.parts.widened.Goals as goal

pub widened-requires : goal.widened-requires
widened-requires c =
    let width = length-lent c.args.unit.now (map arc_value c.columns.result.now) c.columns.ensures.values in
    let many = length-map c.columns.result.now arc_value in
    let named = ap length c.columns-columns.ensures.columns in
    let defaults = ap length c.values.ensures in
    let each = c.requires.each in
    record {
      more = omega (arith, width, many, named, defaults, each, c.if-columns.false);
      few = omega (arith, named, defaults, each, c.columns-columns.ensures.few);
      short = subst (λ (l : List Value). All IsShort l) (sym c.values.ensures) c.requires.short;
    }

pub returns-then-columns-clause-same : goal.returns-then-columns-clause-same
returns-then-columns-clause-same c none =
    enough-columns c.args.view.now c.args.unit.now (map arc_value c.columns.result.now) c.columns.ensures.values c.columns.ensures.wide c.requires
    (omega (arith, length-map c.columns.result.now arc_value, ap length c.columns-columns.ensures.columns, c.if-columns.true))

pub returns-clause-wide : goal.returns-clause-wide
returns-clause-wide c wide is =
    widened-columns c.args.view.now c.args.unit.now wide c.values.result.now c.values.ensures (sym (some-inj is) ∙ c.in_ok-wide.ensures)
