use Rattle.std.proofs.Common.{◌≡◌, ◌+◌, ◌≤◌, List, drop, length, take, ap, sym, ◌∙◌, arith}
use Rattle.im_values.specs.declared.content.Content.{Content as Value}
use Rattle.im_values.proofs.WideRunLemmas.{length-run, part-there}
use Rattle.im_values.proofs.wide.WideRun.part.Goals as goal

pub overflow_add-result : goal.overflow_add-result
overflow_add-result c =
    let run = c.self.inside in
    let long : length c.args.self.now ≡ run.count = ap length (sym c.self.view_is) ∙ length-run run.defaults.now run.rows.now run.first run.count c.self.invariant.0 in
    let few = c.self.invariant.1 in
    let within = c.requires in
    omega (arith, long, few, within)

pub returns : goal.returns
returns c =
    let run = c.self.inside in
    let long : length c.args.self.now ≡ run.count = ap length (sym c.self.view_is) ∙ length-run run.defaults.now run.rows.now run.first run.count c.self.invariant.0 in
    let within = c.requires in
    let few : c.args.from + c.args.count ≤ run.count = omega (arith, long, within) in
    part-there run.defaults.now run.rows.now run.first run.count c.args.from c.args.count few
    ∙ ap (λ (rows : List (List Value)). take c.args.count (drop c.args.from rows)) c.self.view_is
