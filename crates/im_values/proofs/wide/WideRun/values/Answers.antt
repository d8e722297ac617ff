use Rattle.std.proofs.Common.{◌≡◌, ◌<◌, List, Some, length, ap, sym, ◌∙◌, arith}
use Rattle.std.specs.List.{slice_get}
use Rattle.im_values.specs.declared.content.Content.{Content as Value}
use Rattle.im_values.proofs.WideRunLemmas.{length-run, row-there}
use Rattle.im_values.proofs.wide.WideRun.values.Goals as goal

pub overflow_add-self-inside : goal.overflow_add-self-inside
overflow_add-self-inside c =
    let run = c.self.inside in
    let long : length c.args.self.now ≡ run.count = ap length (sym c.self.view_is) ∙ length-run run.defaults.now run.rows.now run.first run.count c.self.invariant.0 in
    let few = c.self.invariant.1 in
    let within = c.requires in
    omega (arith, long, few, within)

pub returns : goal.returns
returns c =
    let run = c.self.inside in
    let long : length c.args.self.now ≡ run.count = ap length (sym c.self.view_is) ∙ length-run run.defaults.now run.rows.now run.first run.count c.self.invariant.0 in
    let within = c.requires in
    let few : c.args.at < run.count = omega (arith, long, within) in
    ap (λ (rows : List (List Value)). slice_get rows c.args.at) (sym c.self.view_is)
    ∙ (row-there run.defaults.now run.rows.now run.first run.count c.args.at c.values.result.now few c.values.ensures
    ∙ ap Some (sym c.with.ensures))
