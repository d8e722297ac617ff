use Rattle.std.proofs.Common.{ap, arith, sym, ◌+◌, append-nil}
use Rattle.im_race.specs.Race.{FIRST_WORKER}
use Rattle.im_race.proofs.SetUpLemmas.{given-less, pass-added, worker-added}
use Rattle.im_race.proofs.jobs.add_workers.Goals as goal

pub loop-worker-init : goal.loop-worker-init
loop-worker-init c = record {
  jobs = sym (append-nil c.args.jobs.now.items);
  pass = ap (λ gave. record c.args.first.now { gave = gave }) c.requires.pass;
  given = c.requires.given;
}

pub loop-worker-preserved : goal.loop-worker-preserved
loop-worker-preserved c =
    let kept = c.loop-worker.invariant in
    let added = c.in_ok-add_worker.ensures in
    record {
      jobs = worker-added c.args.first.now c.loop-worker.first FIRST_WORKER c.loop-worker.worker (c.loop-worker.worker + 1) c.args.jobs.now.items
          c.loop-worker.jobs.items c.add_worker.new.jobs.items kept.jobs kept.pass added.jobs (omega arith);
      pass = pass-added c.args.first.now c.loop-worker.first c.add_worker.new.first c.loop-worker.jobs.items c.add_worker.new.jobs.items kept.pass
          added.pass;
      given = given-less c.add_worker.new.first.gave _ _ added.given (omega arith);
    }
