use Rattle.std.proofs.Common.{◌≡◌, drop}
use Rattle.std.specs.Cmp.Lexicographic.{pointwise}
use Rattle.im_group.specs.Partials.{key_of, is_key}
use Rattle.im_group.proofs.Agreement.{same_value}
use Rattle.im_group.proofs.near.has_key.Given as goal

-- what is left decides
abbrev pub invariant-loop-i : goal.invariant-loop-i
invariant-loop-i l = is_key (key_of l.columns l.row) l.key ≡ pointwise same_value (key_of (drop l.i l.columns) l.row) (drop l.i l.key)
