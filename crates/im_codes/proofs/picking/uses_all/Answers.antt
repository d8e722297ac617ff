use Rattle.std.proofs.Common.{◌≡◌, ◌+◌, length, ap, sym, refl, subst, ◌∙◌, take, Contains, false, get_or, arith}
use Rattle.std.proofs.lemmas.List.{take_all}
use Rattle.im_codes.proofs.PickLemmas.{used-more, all-used}
use Rattle.im_codes.proofs.picking.uses_all.Goals as goal

pub loop-code-preserved : goal.loop-code-preserved
loop-code-preserved c = record {
  size = c.loop-code.invariant.size;
  marks = used-more c.loop-code.used.items c.args.codes.now c.loop-code.code-index (get_or c.args.codes.now c.loop-code.code-index 0)
      c.loop-code-test.true refl c.loop-code.invariant.marks;
}

pub returns : goal.returns
returns c =
    let used = c.loop-code.used in
    let codes = c.args.codes.now in
    let size : length c.as_slice.result.now ≡ c.args.greatest + 1 = omega (arith, c.as_slice.ensures.len, c.loop-code.invariant.size) in
    let all : take c.loop-code.code-index codes ≡ codes = take_all c.loop-code.code-index codes (omega arith) in
    all-used c.all_used.result c.as_slice.result.now codes c.args.greatest size c.all_used.ensures
    (λ code marked. subst (λ l. Contains l code) all (c.loop-code.invariant.marks code (ap (λ l. get_or l code false) (sym c.as_slice.ensures.value) ∙ marked)))
