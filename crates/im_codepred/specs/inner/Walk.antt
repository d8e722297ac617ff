-- Runs while they are gone over.
use Rattle.std.specs.Prelude.{◌≡◌, ℕ, ◌<◌, ◌≤◌, Bool, false, List, length, drop, fold, get_or}
use Rattle.im_values.specs.declared.content.Content.{Content as Value}
use Rattle.im_codepred.specs.Tallies.{chosen}
use Rattle.im_codepred.specs.inner.Tallying.{FoundOf, taken, nothing}
use Rattle.im_codes.specs.declared.run.Run.{Run}
use Rattle.im_codes.specs.Runs.{codes_from, AreFull}

-- these runs are left from a position of the codes on
pub record AreLeft (codes : List ℕ) (runs : List Run) (begin : ℕ) : Type 0 where
  pub left : drop begin codes ≡ codes_from begin runs
  pub full : AreFull begin runs
  pub inside : begin ≤ length codes

-- the positions before one are chosen by their codes, and none from there on, where these runs are left
pub record AreWalked (chosen : ℕ → Bool) (codes : List ℕ) (runs : List Run) (begin : ℕ) (mask : List Bool) : Type 0 where
  pub at : AreLeft codes runs begin
  pub size : length mask ≡ length codes
  pub done : (k : ℕ) → k < begin → get_or mask k false ≡ chosen (get_or codes k 0)
  pub later : (k : ℕ) → begin ≤ k → get_or mask k false ≡ false

-- what is found of the chosen codes before a position, and of those that are left, is what is found of all
pub record AreTaken (dict : List Value) (codes : List ℕ) (mask : List Bool) (runs : List Run) (begin : ℕ) (found : FoundOf) : Type 0 where
  pub at : AreLeft codes runs begin
  pub few : found.values ≤ begin
  pub comes : fold (taken dict) found (chosen (drop begin mask) (drop begin codes)) ≡ fold (taken dict) nothing (chosen mask codes)
