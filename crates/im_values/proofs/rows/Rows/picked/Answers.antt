use Rattle.std.proofs.Common.{rules, ◌≡◌, length, sym, ap, ◌∙◌, arith}
use Rattle.im_values.proofs.PickLemmas.{length-in}
use Rattle.im_values.proofs.rows.Rows.picked.Goals as goal

pub picks_of-requires-clause-places : goal.picks_of-requires-clause-places
picks_of-requires-clause-places c =
    let run = c.self.inside in
    let long : length c.args.self.now ≡ run.count = ap length (sym c.self.view_is) ∙ length-in run.form run.first run.width run.count c.self.invariant in
    let is : c.in_ok-small.field-0 ≡ c.args.more = search rules in
    λ k d within. let below = c.requires.places k d within in omega (arith, long, is, below)
