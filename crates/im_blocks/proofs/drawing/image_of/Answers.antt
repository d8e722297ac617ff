use Rattle.std.proofs.Common.{◌≡◌, ℕ, ap, length, refl, subst, ◌∙◌, arith}
use Rattle.std.specs.Option.{option_copied}
use Rattle.im_values.specs.Stretches.{cut}
use Rattle.im_blocks.specs.declared.image.Image.{Image}
use Rattle.im_blocks.specs.inner.Images.{IsDrawnTo}
use Rattle.im_blocks.proofs.ImageLemmas.{IsDrawnTo-next, IsImageOf-drawn}
use Rattle.im_blocks.proofs.drawing.image_of.Goals as goal

pub loop-at-preserved : goal.loop-at-preserved
loop-at-preserved c =
    let drawn = c.in_ok-draw.ensures in
    record {
      drawn = IsDrawnTo-next c.args.versions.now c.args.table c.args.first c.loop-at.at c.loop-at.draft c.draw.new.draft (option_copied c.newest-row.result)
          c.loop-at.invariant.drawn drawn c.newest-row.ensures;
      width = drawn.drawn_so.width_is ∙ c.loop-at.invariant.width;
    }

pub returns : goal.returns
returns c =
    let d = c.loop-at.draft in
    let past = c.loop-at-test.false in
    let upto = c.loop-at.auto.at-end in
    let drawn = subst (λ (n : ℕ). IsDrawnTo c.args.versions.now c.args.table c.args.first n d) (omega (arith, past, upto)) c.loop-at.invariant.drawn in
    let ok = d.fresh.ok.0 in
    let long : c.len.result ≡ length d.fresh.items = c.len.ensures ∙ omega (arith, ok) in
    let image : Image = record { scn = c.newest_among.result; rows = c.in_ok-rows.rows; fresh = d.fresh } in
    IsImageOf-drawn c.args.versions.now c.args.table c.args.first c.args.count c.newest_among.result d image drawn c.newest_among.ensures refl
    (c.in_ok-rows.ensures ∙ ap (λ (n : ℕ). cut n d.width d.values.items) long) refl
