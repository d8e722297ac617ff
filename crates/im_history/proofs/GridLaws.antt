-- How extents lie among row numbers.
use Rattle.std.proofs.Common.{ℕ, zero, suc, ◌+◌, ◌-◌, ◌*◌, ◌/◌, ◌<◌, ◌≤◌, arith}
use Rattle.std.proofs.Math.Nat.{div-mul-le_self, mul-le-mul_right, div-zero}

-- an extent that so many row numbers fill begins at one of them
pub first_within : (rows per extent : ℕ) → extent < (rows + per - 1) / per → extent * per < rows
first_within rows zero extent within = let none = div-zero (rows + 0 - 1) in absurd (omega (arith, within, none))
first_within rows (suc before) extent within =
    let all : (rows + suc before - 1) / suc before * suc before ≤ rows + suc before - 1 = div-mul-le_self (rows + suc before - 1) (suc before) in
    let more : suc extent * suc before ≤ (rows + suc before - 1) / suc before * suc before = mul-le-mul_right (suc before) within in
    omega (arith, all, more)
