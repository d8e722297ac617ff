-- Counts of faults.
use Rattle.std.specs.Prelude.{ℕ, ◌+◌, ◌-◌, ◌^◌, ◌≤◌, min}

-- the last value of a counter of 64 bits
abbrev pub last_count : ℕ
last_count = 2 ^ 64 - 1

-- what a counter of 64 bits shows after one more: at its last value it stays
abbrev pub one_more : ℕ → ℕ
one_more count = min (count + 1) last_count

-- the count rose by one at least, or stands at its last value
abbrev pub Rose : ℕ → ℕ → Type 0
Rose before after = one_more before ≤ after
