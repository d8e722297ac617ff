use Rattle.std.proofs.Common.{rules, ◌≡◌, ◌+◌, ◌*◌, pos, length, get_or, refl, sym, arith}
use Rattle.std.proofs.lemmas.Int.{ints, to_z-of_z}
use mir.Syntax.{w64, w128}
use mir.Val.{SFits, of_z, to_z}
use Rattle.im_values.specs.declared.content.Content.TheVariants.{Int}
use Rattle.im_codes.specs.Dictionary.{whole}
use Rattle.im_column.proofs.NumberLemmas.{length-whole, whole-at}
use Rattle.im_column.proofs.SummaryLemmas.{summary-none, summary-more, summary-all}
use Rattle.im_column.proofs.numbers.summarize_numbers.Goals as goal

pub loop-i-init : goal.loop-i-init
loop-i-init c = record {
  summary = summary-none;
  within = record { low = omega (arith, ints); high = omega (arith, ints) };
  most = omega arith;
}

pub loop-i-preserved : goal.loop-i-preserved
loop-i-preserved c =
    let numbers = c.args.numbers.now in
    let number = get_or numbers c.loop-i.i (pos 0) in
    let fits : SFits w64 number = search rules in
    let wide : to_z w128 (of_z w128 c.plus-sum.result) ≡ c.plus-sum.result =
    to_z-of_z w128 c.plus-sum.result (record { sfits = c.plus-sum.type_inv }) in
    record {
      summary = rw wide
          (summary-more (whole numbers) c.loop-i.i (Int number) 0 0 c.loop-i.sum c.plus-sum.result (9 * c.loop-i.i) (9 * (c.loop-i.i + 1))
          (omega (arith, length-whole numbers, c.loop-i-test.true)) (sym (whole-at numbers c.loop-i.i (pos 0) (Int number) c.loop-i-test.true))
          (rw c.loop-i.sum-is at c.loop-i.invariant.summary) refl (omega (arith, ints, c.plus-sum.ensures.sum, c.loop-i.sum-is, fits)) (omega arith));
      within = rw wide c.plus-sum.ensures.within;
      most = omega (arith, c.loop-i-test.true);
    }

pub returns : goal.returns
returns c =
    let numbers = c.args.numbers.now in
    let all : c.loop-i.i ≡ length numbers = omega (arith, c.loop-i-test.false, c.loop-i.invariant.most) in
    rw all at
    (summary-all (whole numbers) c.loop-i.i 0 _ _ (omega (arith, length-whole numbers, c.loop-i-test.false)) c.loop-i.invariant.summary)
