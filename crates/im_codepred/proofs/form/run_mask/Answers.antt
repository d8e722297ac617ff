use Rattle.std.proofs.Common.{◌∙◌}
use Rattle.im_codepred.specs.Asked.{is_met}
use Rattle.im_codepred.specs.inner.Spans.{is_chosen}
use Rattle.im_codepred.proofs.SpanLemmas.{chosen-codes}
use Rattle.im_codepred.proofs.form.run_mask.Goals as goal

pub returns : goal.returns
returns c =
    c.in_ok-mask.ensures
    ∙ chosen-codes (is_chosen c.in_ok-chosen.chosen) (is_met c.args.wanted c.args.asked.now) c.args.dict.now c.args.runs.now c.in_ok-chosen.ensures.says
    c.requires
