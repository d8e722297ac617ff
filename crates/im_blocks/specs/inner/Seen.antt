-- The rows of a run that is seen at an SCN.
use Rattle.std.specs.Prelude.{◌≡◌, ℕ, ◌≤◌, List, Option, Some}
use Rattle.im_values.specs.declared.content.Content.{Content as Value}
use Rattle.im_blocks.specs.declared.run.Run.{Run}
use Rattle.im_blocks.specs.Runs.{rows_in}

-- a run was found, of a commit at or below an SCN, and these are its rows
pub record AreSeen (found : Option Run) (first : ℕ) (rows : List (List Value)) (scn : ℕ) : Type 0 where
  pub run : Run
  pub is : found ≡ Some run
  pub first_is : run.first ≡ first
  pub rows_are : rows_in run.rows ≡ rows
  pub upto : run.scn ≤ scn
