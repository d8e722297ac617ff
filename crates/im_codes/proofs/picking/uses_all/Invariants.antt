use Rattle.std.proofs.Common.{◌≡◌, ℕ, ◌+◌, Contains, true, false, get_or, take, vec_len}
use Rattle.im_codes.proofs.picking.uses_all.Given as goal

-- what is marked is among the codes so far
abbrev pub invariant-loop-code : goal.invariant-loop-code
invariant-loop-code l = record {
  size : vec_len l.used ≡ l.greatest + 1;
  marks : (code : ℕ) → get_or l.used.items code false ≡ true → Contains (take l.code-index l.codes) code;
}
