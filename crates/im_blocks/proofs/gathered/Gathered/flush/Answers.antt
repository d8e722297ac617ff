use Rattle.std.proofs.Common.{ap, ◌∙◌}
use Rattle.im_values.specs.Stretches.{cut}
use Rattle.im_blocks.proofs.GatherLemmas.{numbers-cut}
use Rattle.im_blocks.proofs.gathered.Gathered.flush.Goals as goal

pub push_run-requires : goal.push_run-requires
push_run-requires c =
    let old = c.args.self.now in
    numbers-cut old c.in_ok-rows.rows c.requires
    (c.in_ok-rows.ensures
    ∙ (ap (λ n. cut n old.width c.replace-values.result.items) c.replace-count.ensures.value
    ∙ ap (λ values. cut old.count old.width values.items) c.replace-values.ensures.value))
