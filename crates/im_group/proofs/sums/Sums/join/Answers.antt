use Rattle.std.proofs.Common.{arith, ap, ◌≡◌}
use Rattle.std.proofs.lemmas.Int.{ints}
use Rattle.im_group.proofs.sums.Sums.join.Goals as goal

pub invariant_of-self : goal.invariant_of-self
invariant_of-self c =
    let a = c.self.invariant.low in
    let b = c.self.invariant.high in
    let d = c.other.invariant.low in
    let e = c.other.invariant.high in
    let few = c.requires in
    let left : c.self.inside.values ≡ c.args.self.now.values = ap (λ s. s.values) c.self.view_is in
    let right : c.other.inside.values ≡ c.args.other.values = ap (λ s. s.values) c.other.view_is in
    record { low = omega (arith, ints); high = omega (arith, ints) }
