use Rattle.std.proofs.Common.{◌≡◌, ℕ, ◌<◌, ◌++◌, get_or}
use Rattle.im_values.specs.declared.content.Content.TheVariants.{Null}
use Rattle.im_codes.specs.Dictionary.{lent}
use Rattle.im_column.proofs.picking.all_stay.Given as goal

-- the values so far stay
abbrev pub invariant-loop-i : goal.invariant-loop-i
invariant-loop-i l = (k : ℕ) → k < l.i → get_or (l.old ++ lent l.fresh) (get_or l.places k 0) Null ≡ get_or l.old k Null
