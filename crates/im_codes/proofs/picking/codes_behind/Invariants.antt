use Rattle.std.proofs.Common.{◌++◌, take}
use Rattle.im_codes.specs.Dictionary.{lent, coded, values_at, AreCodesOf}
use Rattle.im_codes.proofs.picking.codes_behind.Given as goal

-- so many of the values behind have their codes
abbrev pub invariant-loop-i : goal.invariant-loop-i
invariant-loop-i l = AreCodesOf (values_at (coded l.dict) l.fn.codes.items ++ take l.i (lent l.fresh)) l.dict l.stock.items
