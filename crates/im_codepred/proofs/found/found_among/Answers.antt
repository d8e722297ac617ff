use Rattle.std.proofs.Common.{Bool, ◌-◌, count_by, take, drop, get_or, fold, ap, ◌∙◌, arith, length-take, length-drop}
use Rattle.std.proofs.lemmas.List.Sums.{count_by-le-length}
use Rattle.im_codes.specs.declared.run.Run.{Run}
use Rattle.im_codepred.specs.Tallies.{chosen}
use Rattle.im_codepred.specs.inner.Tallying.{taken}
use Rattle.im_codepred.proofs.FormLemmas.{run-fits, left-begin}
use Rattle.im_codepred.proofs.FoundLemmas.{run-comes, runs-next, runs-end}
use Rattle.im_codepred.proofs.found.found_among.Goals as goal

pub loop-run-init : goal.loop-run-init
loop-run-init c = record {
  at = left-begin c.args.runs.now c.runs-run-items.result.now c.runs-run-items.ensures.codes c.runs-run-items.ensures.longest.full;
  few = omega (arith, ap (λ f. f.values) c.none-found.ensures);
  comes = ap (λ f. fold (taken c.args.dict.now) f (chosen c.args.mask.now c.args.runs.now)) c.none-found.ensures;
}

pub count_within-requires-clause-some : goal.count_within-requires-clause-some
count_within-requires-clause-some c =
    let first : Run = record { code = 0; end = 0 } in
    let run = get_or c.runs-run-items.result.now c.loop-run.run-index first in
    let walked =
    runs-next c.args.dict.now c.args.runs.now c.args.mask.now c.runs-run-items.result.now c.loop-run.run-index c.loop-run.begin first c.loop-run.found
    c.loop-run-test.true c.loop-run.invariant in
    let fits = run-fits c.args.runs.now run _ c.loop-run.begin walked.at in
    omega (arith, fits.some, c.from-end.ensures)

pub count_within-requires-clause-within : goal.count_within-requires-clause-within
count_within-requires-clause-within c =
    let first : Run = record { code = 0; end = 0 } in
    let run = get_or c.runs-run-items.result.now c.loop-run.run-index first in
    let walked =
    runs-next c.args.dict.now c.args.runs.now c.args.mask.now c.runs-run-items.result.now c.loop-run.run-index c.loop-run.begin first c.loop-run.found
    c.loop-run-test.true c.loop-run.invariant in
    let fits = run-fits c.args.runs.now run _ c.loop-run.begin walked.at in
    omega (arith, fits.inside, c.from-end.ensures, c.requires.long)

pub take_run-requires-clause-few : goal.take_run-requires-clause-few
take_run-requires-clause-few c = omega (arith, c.loop-run.invariant.few, c.loop-run.invariant.at.inside, c.len.ensures.len, c.len.ensures.few)

pub take_run-requires-clause-count : goal.take_run-requires-clause-count
take_run-requires-clause-count c =
    let part = take (c.from-end.result - c.loop-run.begin) (drop c.loop-run.begin c.args.mask.now) in
    omega (
      arith,
      c.count_within.ensures,
      count_by-le-length (λ (b : Bool). b) part,
      length-take (c.from-end.result - c.loop-run.begin) (drop c.loop-run.begin c.args.mask.now),
      length-drop c.loop-run.begin c.args.mask.now,
      c.requires.long,
      c.len.ensures.len,
      c.len.ensures.few,
    )

pub take_run-requires-clause-code : goal.take_run-requires-clause-code
take_run-requires-clause-code c =
    let first : Run = record { code = 0; end = 0 } in
    let run = get_or c.runs-run-items.result.now c.loop-run.run-index first in
    let walked =
    runs-next c.args.dict.now c.args.runs.now c.args.mask.now c.runs-run-items.result.now c.loop-run.run-index c.loop-run.begin first c.loop-run.found
    c.loop-run-test.true c.loop-run.invariant in
    let fits = run-fits c.args.runs.now run _ c.loop-run.begin walked.at in
    let here = fits.same c.loop-run.begin (omega arith) fits.some in
    let below = c.requires.codes c.loop-run.begin 0 (omega (arith, fits.some, fits.inside)) in
    omega (arith, here, below)

pub loop-run-preserved : goal.loop-run-preserved
loop-run-preserved c =
    let first : Run = record { code = 0; end = 0 } in
    let run = get_or c.runs-run-items.result.now c.loop-run.run-index first in
    let walked =
    runs-next c.args.dict.now c.args.runs.now c.args.mask.now c.runs-run-items.result.now c.loop-run.run-index c.loop-run.begin first c.loop-run.found
    c.loop-run-test.true c.loop-run.invariant in
    let fits = run-fits c.args.runs.now run _ c.loop-run.begin walked.at in
    rw c.from-end.ensures
    (run-comes c.args.dict.now c.args.runs.now c.args.mask.now run _ c.loop-run.begin c.count_within.result c.loop-run.found _ c.requires.long walked
    (c.count_within.ensures ∙ ap (λ n. count_by (λ (b : Bool). b) (take (n - c.loop-run.begin) (drop c.loop-run.begin c.args.mask.now))) c.from-end.ensures)
    c.take_run.ensures)

pub returns : goal.returns
returns c =
    runs-end c.args.dict.now c.args.runs.now c.args.mask.now c.runs-run-items.result.now c.loop-run.run-index c.loop-run.begin c.loop-run.found
    c.loop-run-test.false c.loop-run.invariant
