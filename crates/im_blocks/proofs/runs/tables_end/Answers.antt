use Rattle.std.proofs.Common.{◌<◌, All, arith, rules, subst}
use Rattle.std.proofs.lemmas.List.{take_all}
use Rattle.im_blocks.specs.declared.run.Run.{Run}
use Rattle.im_blocks.proofs.StandingLemmas.{All-next}
use Rattle.im_blocks.proofs.runs.tables_end.Goals as goal

pub loop-run-preserved : goal.loop-run-preserved
loop-run-preserved c =
    let greatest = c.max-end.ensures in
    let table = c.from.ensures in
    record {
      few = search rules;
      past = All-next (λ (x : Run). x.table) c.args.runs.now c.loop-run.run-index c.loop-run.end c.max-end.result c.run-item.result c.loop-run-test.true
          c.run-item.is c.loop-run.invariant.past (omega (arith, greatest)) (omega (arith, greatest, table));
    }

pub returns-clause-past : goal.returns-clause-past
returns-clause-past c =
    subst (All (λ (x : Run). x.table < c.loop-run.end)) (take_all c.loop-run.run-index c.args.runs.now c.loop-run-test.false) c.loop-run.invariant.past
