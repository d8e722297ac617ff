use Rattle.std.proofs.Common.{◌<◌, ap, arith}
use Rattle.im_bits.proofs.PackedLemmas.{get-zero, get-inside, get-code}
use Rattle.im_bits.proofs.bits.Bits.get.Goals as goal

pub returns-then-self-eq0-clause-code : goal.returns-then-self-eq0-clause-code
returns-then-self-eq0-clause-code c = get-zero _ _ _ _ c.args.i (ap (λ b. b.codes) c.self.view_is) c.if-self-eq0.true c.requires

pub index-requires : goal.index-requires
index-requires c =
    let some : 0 < c.self.inside.width = omega arith in
    let there =
    get-inside _ _ _ _ c.args.i _ (ap (λ b. b.codes) c.self.view_is) c.self.invariant.2 some c.self.invariant.0 c.requires c.per_word-share.ensures in
    omega (arith, there, c.self.inside.words.ok.0)

pub returns-clause-code : goal.returns-clause-code
returns-clause-code c =
    let some : 0 < c.self.inside.width = omega arith in
    let is = ap (λ b. b.codes) c.self.view_is in
    let there = get-inside _ _ _ _ c.args.i _ is c.self.invariant.2 some c.self.invariant.0 c.requires c.per_word-share.ensures in
    get-code _ _ _ _ c.args.i _ _ _ is c.requires c.per_word-share.ensures there c.index.ensures c.field.ensures
