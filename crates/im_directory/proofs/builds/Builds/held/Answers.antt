use Rattle.std.proofs.Common.{arith, is_some}
use Rattle.std.proofs.lemmas.List.Sums.{count_by-le-length}
use Rattle.im_directory.proofs.builds.Builds.held.Goals as goal

pub returns-clause-few : goal.returns-clause-few
returns-clause-few c =
    let most = count_by-le-length is_some c.self.inside.list.items in
    let held = c.self.invariant in
    let small = c.self.inside.list.ok in
    omega (arith, most, held, small)
