use Rattle.std.proofs.Common.{◌≡◌, ◌*◌, take}
use Rattle.im_bits.specs.Packed.{IsHeld}
use Rattle.im_column.proofs.picking.unpacked.Given as goal

-- the codes so far, and the block that is held
abbrev pub invariant-loop-place : goal.invariant-loop-place
invariant-loop-place l = record {
  codes : l.codes.items ≡ take (l.place * 64) l.bits.codes;
  held : IsHeld l.bits.codes l.held l.block;
}
