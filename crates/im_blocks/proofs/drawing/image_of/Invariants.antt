use Rattle.std.proofs.Common.{◌≡◌}
use Rattle.im_blocks.specs.inner.Images.{IsDrawnTo}
use Rattle.im_blocks.proofs.drawing.image_of.Given as goal

-- the rows so far are drawn
abbrev pub invariant-loop-at : goal.invariant-loop-at
invariant-loop-at l = record {
  drawn : IsDrawnTo l.versions l.table l.first l.at l.draft;
  width : l.draft.width ≡ l.width;
}
