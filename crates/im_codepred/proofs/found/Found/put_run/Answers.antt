use Rattle.std.proofs.Common.{◌≡◌, ap, arith}
use Rattle.std.proofs.lemmas.Int.{ints}
use Rattle.im_codepred.proofs.found.Found.put_run.Goals as goal

pub invariant_of-self : goal.invariant_of-self
invariant_of-self c =
    let a = c.self.invariant.low in
    let b = c.self.invariant.high in
    let d = c.times.ensures.within.low in
    let e = c.times.ensures.within.high in
    let few = c.requires.few in
    let count : c.self.inside.values ≡ c.args.self.now.values = ap (λ t. t.values) c.self.view_is in
    record { low = omega (arith, ints); high = omega (arith, ints) }
