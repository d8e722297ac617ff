use Rattle.std.proofs.Common.{◌<◌, length, get_or, subst, sym, arith}
use Rattle.std.proofs.lemmas.Int.{ints}
use Rattle.std.proofs.lemmas.List.{length-map}
use Rattle.im_values.specs.declared.content.Content.TheVariants.{Null}
use Rattle.im_values.specs.Order.{is_null}
use Rattle.im_codes.specs.Dictionary.{coded, values_at}
use Rattle.im_column.specs.Forms.{IsShort}
use Rattle.im_column.proofs.PickLemmas.{value-at}
use Rattle.im_column.proofs.SummaryLemmas.{summary-none, summary-more, null-step}
use Rattle.im_column.proofs.picking.summarize_codes.Goals as goal

pub loop-i-init : goal.loop-i-init
loop-i-init c = record {
  summary = summary-none;
  within = record { low = omega (arith, ints); high = omega (arith, ints) };
  nulls = omega arith;
  few = omega arith;
  null = c.null-null.ensures;
}

pub with_value-summary-requires-clause-short : goal.with_value-summary-requires-clause-short
with_value-summary-requires-clause-short c =
    let dict = coded c.args.dict.now in
    let codes = c.args.codes.now in
    let inside : c.loop-i.i < length codes = omega arith in
    subst IsShort (sym (value-at dict codes c.loop-i.i c.value_of.result.now Null inside c.value_of.ensures))
    (c.requires.short c.loop-i.i Null (omega (arith, inside, length-map codes (λ p. get_or dict p Null))))

pub loop-i-preserved : goal.loop-i-preserved
loop-i-preserved c =
    let dict = coded c.args.dict.now in
    let codes = c.args.codes.now in
    let inside : c.loop-i.i < length codes = omega arith in
    let old = c.loop-i.summary in
    let new = c.with_value-summary.result in
    let says = c.with_value-summary.ensures in
    let value = c.value_of.result.now in
    record {
      summary = summary-more (values_at dict codes) c.loop-i.i value old.nulls new.nulls old.sum new.sum old.bytes new.bytes
          (omega (arith, inside, length-map codes (λ p. get_or dict p Null))) (value-at dict codes c.loop-i.i value value inside c.value_of.ensures)
          c.loop-i.invariant.summary says.nulls says.sum says.bytes;
      within = says.within;
      nulls = rw says.nulls (null-step old.nulls c.loop-i.i (is_null value) c.loop-i.invariant.nulls);
      few = says.few;
      null = c.null-null.ensures;
    }
