use Rattle.std.proofs.Common.{◌<◌, All, arith, rules, subst}
use Rattle.std.proofs.lemmas.List.{take_all}
use Rattle.im_blocks.specs.declared.touched.Touched.{Touched}
use Rattle.im_blocks.proofs.StandingLemmas.{All-next}
use Rattle.im_blocks.proofs.chains.tables_end.Goals as goal

pub loop-touched-preserved : goal.loop-touched-preserved
loop-touched-preserved c =
    let greatest = c.max-end.ensures in
    let table = c.from.ensures in
    record {
      few = search rules;
      past = All-next (λ (x : Touched). x.table) c.args.chains.now c.loop-touched.touched-index c.loop-touched.end c.max-end.result c.touched-item.result c.loop-touched-test.true
          c.touched-item.is c.loop-touched.invariant.past (omega (arith, greatest)) (omega (arith, greatest, table));
    }

pub returns-clause-past : goal.returns-clause-past
returns-clause-past c =
    subst (All (λ (x : Touched). x.table < c.loop-touched.end)) (take_all c.loop-touched.touched-index c.args.chains.now c.loop-touched-test.false) c.loop-touched.invariant.past
