-- What contracts see of a pass.
use Rattle.std.specs.Prelude.{◌≡◌, ℕ, ◌≤◌, List, [], Bool, false, length, map}
use Rattle.im_turn.specs.Logs.{entries_since}
use Rattle.im_turn.specs.Turns.{TurnId}

-- what a pass stands for
pub record PassState (Item : Type 0) : Type 0 where
  -- which turn it is of
  pub turn : TurnId
  -- whether it has the value
  pub holding : Bool
  -- its number
  pub who : ℕ
  -- how long the log was when the turn was made
  pub base : ℕ
  -- the log, as far as it knows it
  pub seen : List Item
  -- the entries of its number since the base
  pub mine : List Item
  -- the number and the entries of each pass that was joined into it, in their order
  pub olds : List (ℕ × List Item)
  -- the numbers that it gave to others
  pub gave : List ℕ
  -- what is fixed in the value
  pub fixed : List ℕ

-- the first pass of a turn that is made over a value with this log
abbrev pub first_pass : {Item : Type 0} → TurnId → List Item → List ℕ → PassState Item
first_pass turn log fixed = record {
  turn = turn;
  holding = false;
  who = 0;
  base = length log;
  seen = log;
  mine = [];
  olds = [];
  gave = [];
  fixed = fixed;
}

-- the pass that another one splits off: it has seen as much, and has no entries
abbrev pub new_pass : {Item : Type 0} → ℕ → PassState Item → PassState Item
new_pass number pass = record pass { holding = false; who = number; mine = []; olds = []; gave = [] }

-- the numbers of the passes that were joined
abbrev pub numbers_of : {Item : Type 0} → List (ℕ × List Item) → List ℕ
numbers_of olds = map (λ old. old.0) olds

-- a pass knows the log up to the base at least, and its own entries are all that its number has in what it knows of it since
pub record KnowsOwn {Item : Type 0} (who : Item → ℕ) (pass : PassState Item) : Type 0 where
  pub past_base : pass.base ≤ length pass.seen
  pub own : entries_since who pass.who pass.base pass.seen ≡ pass.mine
