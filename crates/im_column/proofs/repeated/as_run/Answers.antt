use Rattle.im_column.proofs.RepeatedLemmas.{run-counted}
use Rattle.im_column.proofs.repeated.as_run.Goals as goal
use Rattle.std.proofs.Common.{◌+◌, ap}

pub returns : goal.returns
returns c =
    run-counted c.args.value.now c.args.len c.args.dict c.in_ok-runs.runs _ c.requires.many c.requires.some c.requires.dictionary c.in_ok-runs.ensures
    (ap (λ n. n + 8) c.value_bytes.ensures.bytes)
