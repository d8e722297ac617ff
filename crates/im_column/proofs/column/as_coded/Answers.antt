use Rattle.std.proofs.Common.{refl, ap, ◌∙◌, arith}
use Rattle.im_values.specs.Sizes.{width_for}
use Rattle.im_column.proofs.column.as_coded.Goals as goal

pub pack-requires-clause-fit : goal.pack-requires-clause-fit
pack-requires-clause-fit c = λ k d inside.
    omega (arith, c.requires.kept.are_codes.inside k d inside, c.width_for.ensures.fits, c.len.ensures.len)

pub returns : goal.returns
returns c = record {
  stands = rw c.in_ok-bits.ensures refl;
  kept = (
    c.requires.shape,
    rw c.in_ok-bits.ensures c.requires.kept,
    rw c.in_ok-bits.ensures (c.width_for.ensures.width ∙ ap width_for c.len.ensures.len),
  );
  least = c.requires.bytes;
}
