use Rattle.std.proofs.Common.{ap, ◌∙◌, arith}
use Rattle.std.proofs.lemmas.Int.{to_z-of_z}
use mir.Syntax.{w128}
use Rattle.im_codepred.proofs.WholeLemmas.{sum-is, present-count, least-is, greatest-is}
use Rattle.im_codepred.proofs.tally.whole_tally.Goals as goal

pub returns : goal.returns
returns c =
    let vs = c.args.column.now in
    record {
      values = omega (arith, c.len.ensures.len, ap (λ b. b.nulls) c.bounds-bounds.ensures, present-count vs);
      sum = to_z-of_z w128 c.sum-sum.result (record { sfits = c.sum-sum.type_inv }) ∙ (c.sum-sum.ensures ∙ sum-is vs);
      least = c.as_ref.ensures.value ∙ (ap (λ b. b.least) c.bounds-bounds.ensures ∙ least-is vs);
      greatest = c.as_ref-2.ensures.value ∙ (ap (λ b. b.greatest) c.bounds-bounds.ensures ∙ greatest-is vs);
      within = c.if-not-is_within.ensures;
    }
