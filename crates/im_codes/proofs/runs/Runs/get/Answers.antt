use Rattle.std.proofs.Common.{slice_index, sym, ap, ◌∙◌}
use Rattle.im_codes.specs.declared.run.Run.{Run}
use Rattle.im_codes.specs.Runs.{IsRunAt}
use Rattle.im_codes.proofs.runs.Runs.get.Goals as goal

pub returns : goal.returns
returns c =
    let there : IsRunAt c.self.inside.runs.items c.args.i c.run_at.result = rw c.as_slice.ensures.value at c.run_at.ensures in
    ap (λ (run : Run). run.code) c.index.ensures ∙ (sym (there.code c.index.result.now) ∙ ap (λ l. slice_index l c.args.i) c.self.view_is)
