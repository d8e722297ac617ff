use Rattle.std.proofs.Common.{◌≡◌, pos, ◌*ℤ◌, ap, ◌∙◌, arith}
use Rattle.std.proofs.lemmas.Int.{ints, to_z-of_z}
use mir.Syntax.{w64, w128}
use Rattle.im_codepred.proofs.FoundLemmas.{times-are, times-within}
use Rattle.im_codepred.proofs.found.times.Goals as goal

pub returns-clause-product : goal.returns-clause-product
returns-clause-product c =
    let is : c.product.result ≡ pos c.args.count *ℤ c.args.number =
    c.product.ensures ∙ ap (λ n. pos c.args.count *ℤ n) (to_z-of_z w64 c.args.number c.ranges.number) in
    rw (to_z-of_z w128 c.product.result (record { sfits = c.product.type_inv })) (times-are c.args.count c.args.number c.product.result is)

pub returns-clause-within : goal.returns-clause-within
returns-clause-within c =
    let is : c.product.result ≡ pos c.args.count *ℤ c.args.number =
    c.product.ensures ∙ ap (λ n. pos c.args.count *ℤ n) (to_z-of_z w64 c.args.number c.ranges.number) in
    rw (to_z-of_z w128 c.product.result (record { sfits = c.product.type_inv }))
    (times-within c.args.count c.args.number c.product.result is (omega (arith, ints)) (omega (arith, ints)))
