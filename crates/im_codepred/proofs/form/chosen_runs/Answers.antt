use Rattle.std.proofs.Common.{ℕ, Bool, get_or, arith}
use Rattle.im_codes.specs.declared.run.Run.{Run}
use Rattle.im_codepred.specs.inner.Spans.{is_chosen}
use Rattle.im_codepred.proofs.FormLemmas.{walk-begin, walk-next, walk-run, walk-end, run-fits}
use Rattle.im_codepred.proofs.form.chosen_runs.Goals as goal

pub loop-run-init : goal.loop-run-init
loop-run-init c =
    let chosen : ℕ → Bool = is_chosen c.args.chosen.now in
    walk-begin chosen c.args.runs.now c.runs-run-items.result.now c.len.result c.in_ok-mask.mask c.runs-run-items.ensures.codes
    c.runs-run-items.ensures.longest.full c.len.ensures.len c.in_ok-mask.ensures

pub choose_run-begin-requires-clause-begin : goal.choose_run-begin-requires-clause-begin
choose_run-begin-requires-clause-begin c =
    let chosen : ℕ → Bool = is_chosen c.args.chosen.now in
    let first : Run = record { code = 0; end = 0 } in
    let run = get_or c.runs-run-items.result.now c.loop-run.run-index first in
    let walked =
    walk-next chosen c.args.runs.now c.runs-run-items.result.now c.loop-run.run-index c.loop-run.begin first c.loop-run.mask c.loop-run-test.true
    c.loop-run.invariant in
    let fits = run-fits c.args.runs.now run _ c.loop-run.begin walked.at in
    omega (arith, fits.some)

pub choose_run-begin-requires-clause-end : goal.choose_run-begin-requires-clause-end
choose_run-begin-requires-clause-end c =
    let chosen : ℕ → Bool = is_chosen c.args.chosen.now in
    let first : Run = record { code = 0; end = 0 } in
    let run = get_or c.runs-run-items.result.now c.loop-run.run-index first in
    let walked =
    walk-next chosen c.args.runs.now c.runs-run-items.result.now c.loop-run.run-index c.loop-run.begin first c.loop-run.mask c.loop-run-test.true
    c.loop-run.invariant in
    let fits = run-fits c.args.runs.now run _ c.loop-run.begin walked.at in
    omega (arith, fits.inside, walked.size)

pub loop-run-preserved : goal.loop-run-preserved
loop-run-preserved c =
    let chosen : ℕ → Bool = is_chosen c.args.chosen.now in
    let first : Run = record { code = 0; end = 0 } in
    let run = get_or c.runs-run-items.result.now c.loop-run.run-index first in
    let walked =
    walk-next chosen c.args.runs.now c.runs-run-items.result.now c.loop-run.run-index c.loop-run.begin first c.loop-run.mask c.loop-run-test.true
    c.loop-run.invariant in
    rw c.choose_run-begin.ensures.end (walk-run chosen c.args.runs.now run _ c.loop-run.begin c.loop-run.mask _ walked c.choose_run-begin.ensures.mask)

pub returns : goal.returns
returns c =
    let chosen : ℕ → Bool = is_chosen c.args.chosen.now in
    walk-end chosen c.args.runs.now c.runs-run-items.result.now c.loop-run.run-index c.loop-run.begin c.loop-run.mask c.loop-run-test.false c.loop-run.invariant
