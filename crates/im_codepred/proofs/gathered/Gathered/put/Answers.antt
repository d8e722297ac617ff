use Rattle.std.proofs.Common.{◌≡◌, ap, arith}
use Rattle.std.proofs.lemmas.Int.{ints}
use Rattle.im_codepred.proofs.gathered.Gathered.put.Goals as goal

pub invariant_of-self : goal.invariant_of-self
invariant_of-self c =
    let a = c.self.invariant.0.low in
    let b = c.self.invariant.0.high in
    let few = c.requires.few in
    let count : c.self.inside.values ≡ c.args.self.now.values = ap (λ t. t.values) c.self.view_is in
    (record { low = omega (arith, ints); high = omega (arith, ints) }, c.lesser-least.ensures.some, c.greater-greatest.ensures.some)
