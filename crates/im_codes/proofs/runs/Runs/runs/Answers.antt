use Rattle.std.proofs.Common.{◌∙◌, ap, length}
use Rattle.im_codes.specs.Runs.{run_count}
use Rattle.im_codes.proofs.RunLemmas.{count-runs}
use Rattle.im_codes.proofs.runs.Runs.runs.Goals as goal

pub returns-clause-count : goal.returns-clause-count
returns-clause-count c = ap length c.as_slice.ensures.value ∙ (count-runs c.self.inside.runs.items c.self.invariant.0 ∙ ap run_count c.self.view_is)
