-- Runs of equal codes.
use Rattle.std.specs.Prelude.{◌≡◌, ◌≢◌, ℕ, ◌+◌, ◌-◌, ◌<◌, ◌==◌, List, [], ◌∷◌, ◌++◌, length, replicate, slice_index, slice_index_or, if◌then◌else◌}
use Rattle.im_codes.specs.declared.run.Run.{Run}

-- the codes of runs, laid out one after another from a place on
abbrev pub codes_from : ℕ → List Run → List ℕ
codes_from begin [] = []
codes_from begin (run ∷ runs) = replicate (run.end - begin) run.code ++ codes_from run.end runs

-- the codes of runs that begin at the first place
abbrev pub codes_of : List Run → List ℕ
codes_of runs = codes_from 0 runs

-- how many runs of equal codes a list has: each place begins one whose code differs from the one before
abbrev pub run_count_after : ℕ → List ℕ → ℕ
run_count_after before [] = 0
run_count_after before (code ∷ codes) = (if code == before then 0 else 1) + run_count_after code codes

abbrev pub run_count : List ℕ → ℕ
run_count [] = 0
run_count (code ∷ codes) = 1 + run_count_after code codes

-- no run is empty, from a place on
abbrev pub AreFull : ℕ → List Run → Type 0
AreFull begin [] = Unit {0}
AreFull begin (run ∷ runs) = (begin < run.end) × AreFull run.end runs

-- the code of each run differs from that of the next
abbrev pub AreApart : List Run → Type 0
AreApart [] = Unit {0}
AreApart (run ∷ []) = Unit {0}
AreApart (run ∷ next ∷ runs) = (run.code ≢ next.code) × AreApart (next ∷ runs)

-- runs as long as they can be, from the first place on
pub record AreRuns (runs : List Run) : Type 0 where
  pub full : AreFull 0 runs
  pub apart : AreApart runs

-- a place of the list lies in this run
pub record IsRunAt (runs : List Run) (i run : ℕ) : Type 0 where
  pub inside : run < length runs
  pub code : (d : Run) → slice_index (codes_of runs) i ≡ (slice_index_or runs run d).code

-- the new runs have one code more than the old ones
pub record Extends (old new : List Run) (code : ℕ) : Type 0 where
  pub codes : codes_of new ≡ codes_of old ++ code ∷ []
  pub runs : AreRuns new
