use Rattle.std.proofs.Common.{nat_le, rules, of_calls}
use Rattle.std.proofs.lemmas.Fn.{always_returns_same}
use Rattle.std.proofs.lemmas.List.Sorted.{IsPartitionedBy-leb}
use Rattle.im_codes.specs.declared.run.Run.{Run}
use Rattle.im_codes.proofs.RunLemmas.{run-partitioned, ends-rise}
use Rattle.im_codes.proofs.runs.run_at.Goals as goal

pub returns : goal.returns
returns c =
    let runs = c.args.runs.now in
    let parted = IsPartitionedBy-leb (λ (run : Run). run.end) runs c.args.i (ends-rise 0 runs c.requires.runs.full) in
    run-partitioned runs c.args.i c.partition_point.result c.requires.runs c.requires.inside
    (c.partition_point.ensures.partitioned (λ (run : Run). nat_le run.end c.args.i) (always_returns_same _ _ _ (λ a r f k. search (rules, of_calls))) parted)
