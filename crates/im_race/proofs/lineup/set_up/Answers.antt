use Rattle.std.proofs.Common.{ap, ◌∙◌, map, arith}
use Rattle.im_history.specs.declared.entry.Entry.{Entry}
use Rattle.im_race.proofs.BesideLemmas.{are-jobs, few-sessions, is-first, jobs-ready}
use Rattle.im_reach.specs.Sides.{Known}
use Rattle.im_turn.specs.Passes.{PassState}
use Rattle.im_race.proofs.lineup.set_up.Goals as goal

pub overflow_cast-sessions : goal.overflow_cast-sessions
overflow_cast-sessions c =
    let few = (few-sessions c.in-Ok.first c.args.lines.now c.args.sessions.items c.in_ok-jobs.jobs.items c.requires.count c.in_ok-jobs.ensures.jobs).1 in
    let long = c.len-sessions.ensures in
    omega (arith, few, long)

pub returns : goal.returns
returns c =
    let first = is-first c.args.options.area c.args.sessions.items _ _ _ _ c.in-Ok.first (ap (λ (k : Known). k.limits) c.into_core-core.ensures)
    (ap (λ (k : Known). k.log) c.into_core-core.ensures) c.requires.limits c.requires.agree c.requires.there c.known.ensures c.in-Ok.ensures.pass in
    let few = (few-sessions c.in-Ok.first c.args.lines.now c.args.sessions.items c.in_ok-jobs.jobs.items c.requires.count c.in_ok-jobs.ensures.jobs).0 in
    let long = c.len-sessions.ensures in
    let pass = c.in_ok-add_workers.ensures.pass
    ∙ ap (λ (p : PassState Entry). record p { gave = map (λ job. job.who) c.add_workers.new.jobs.items }) c.in_ok-jobs.ensures.pass in
    let turn = ap (λ (p : PassState Entry). p.turn) c.in-Ok.ensures.pass in
    let jobs = are-jobs c.args.options.area c.args.options.workers c.args.sessions.items c.args.lines.now c.in-Ok.first c.session_jobs.new.first
    c.in_ok-jobs.jobs.items c.add_workers.new.jobs.items first.limits first.there first.lawful first.agree c.requires.count c.requires.workers
    c.in_ok-jobs.ensures.jobs c.in_ok-jobs.ensures.pass c.in_ok-add_workers.ensures.jobs in
    record {
      made = c.in-Ok.first;
      is_first = first;
      turn_is = turn;
      pass = pass;
      idle = ap (λ (p : PassState Entry). p.holding) pass ∙ ap (λ (p : PassState Entry). p.holding) c.in-Ok.ensures.pass;
      none_joined = ap (λ (p : PassState Entry). p.olds) pass ∙ ap (λ (p : PassState Entry). p.olds) c.in-Ok.ensures.pass;
      jobs = jobs;
      ready = jobs-ready c.args.options.area c.args.sessions.items c.in-Ok.first _ c.add_workers.new.jobs.items turn jobs.set_up;
      count = omega (arith, long, few);
    }
