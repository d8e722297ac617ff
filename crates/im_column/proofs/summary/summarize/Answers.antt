use Rattle.std.proofs.Common.{arith}
use Rattle.std.proofs.lemmas.Int.{ints}
use Rattle.im_values.specs.Order.{is_null}
use Rattle.im_codes.specs.Dictionary.{lent}
use Rattle.im_column.proofs.LendLemmas.{length-lent, lent-at}
use Rattle.im_column.proofs.SummaryLemmas.{summary-none, summary-more, summary-all, null-step}
use Rattle.im_column.proofs.summary.summarize.Goals as goal

pub loop-i-init : goal.loop-i-init
loop-i-init c = record {
  summary = summary-none;
  within = record { low = omega (arith, ints); high = omega (arith, ints) };
  nulls = omega arith;
  few = omega arith;
}

pub with_value-summary-requires-clause-short : goal.with_value-summary-requires-clause-short
with_value-summary-requires-clause-short c =
    let values = c.args.values.now in
    let value = c.index-values-i.result in
    rw (← lent-at values c.loop-i.i value value.now c.loop-i-test.true c.index-values-i.is) at
    (c.requires.short c.loop-i.i value.now (omega (arith, length-lent values, c.loop-i-test.true)))

pub loop-i-preserved : goal.loop-i-preserved
loop-i-preserved c =
    let old = c.loop-i.summary in
    let new = c.with_value-summary.result in
    let says = c.with_value-summary.ensures in
    let values = c.args.values.now in
    let value = c.index-values-i.result in
    record {
      summary = summary-more (lent values) c.loop-i.i value.now old.nulls new.nulls old.sum new.sum old.bytes new.bytes
          (omega (arith, length-lent values, c.loop-i-test.true)) (lent-at values c.loop-i.i value value.now c.loop-i-test.true c.index-values-i.is) c.loop-i.invariant.summary says.nulls says.sum says.bytes;
      within = says.within;
      nulls = rw says.nulls (null-step old.nulls c.loop-i.i (is_null value.now) c.loop-i.invariant.nulls);
      few = says.few;
    }

pub returns-clause-summary : goal.returns-clause-summary
returns-clause-summary c =
    let s = c.loop-i.summary in
    summary-all (lent c.args.values.now) c.loop-i.i s.nulls s.sum s.bytes (omega (arith, length-lent c.args.values.now, c.loop-i-test.false))
    c.loop-i.invariant.summary
