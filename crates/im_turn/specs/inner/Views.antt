-- The views of passes, and how each step changes its own.
use Rattle.std.specs.Prelude.{◌≡◌, ℕ, ◌≤◌, List, [], ◌∷◌, ◌++◌, Bool, true, false, drop, length}
use Rattle.im_turn.specs.Logs.{entries_since, longer}
use Rattle.im_turn.specs.Turns.{TurnId}
use Rattle.im_turn.specs.Passes.{PassState}
use Rattle.im_turn.specs.declared.view.View.{View}
use Rattle.im_turn.specs.declared.view.Phase.{Phase}
use Rattle.im_turn.specs.declared.view.Phase.TheVariants.{Idle, Taken, Holding}

-- a view knows the log up to the base at least, and its own entries are all that its number has in what it knows of it since
pub record Recalls {Item : Type 0} (who : Item → ℕ) (v : View Item) : Type 0 where
  pub past_base : v.base ≤ length v.seen
  pub own : entries_since who v.who v.base v.seen ≡ v.mine

-- whether a pass has the value
abbrev pub is_holding : Phase → Bool
is_holding Idle = false
is_holding Taken = true
is_holding Holding = true

-- the state that contracts see, of a view
abbrev pub state_of : {Item : Type 0} → TurnId → View Item → PassState Item
state_of turn v = record {
  turn = turn;
  holding = is_holding v.phase;
  who = v.who;
  base = v.base;
  seen = v.seen;
  mine = v.mine;
  olds = v.olds;
  gave = v.gave;
  fixed = v.fixed;
}

-- the first view of a turn over a value with this log
abbrev pub first_view : {Item : Type 0} → List Item → List ℕ → View Item
first_view log fixed = record {
  live = true;
  phase = Idle;
  who = 0;
  base = length log;
  seen = log;
  mine = [];
  held = [];
  olds = [];
  gave = [];
  fixed = fixed;
}

-- after a split: the number was given
abbrev pub giving : {Item : Type 0} → ℕ → View Item → View Item
giving number v = record v { gave = v.gave ++ number ∷ [] }

-- after a split: the new pass
abbrev pub newcomer : {Item : Type 0} → ℕ → View Item → View Item
newcomer number v = record v { phase = Idle; who = number; mine = []; held = []; olds = []; gave = [] }

-- after the exchange that takes: the log of the value was found
abbrev pub taken : {Item : Type 0} → List Item → View Item → View Item
taken log v = record v { phase = Taken; held = log }

-- after the load: the log that was found is seen
abbrev pub loaded : {Item : Type 0} → View Item → View Item
loaded v = record v { phase = Holding; seen = v.held }

-- after the add: the log goes on with own entries
abbrev pub added : {Item : Type 0} → List Item → View Item → View Item
added log v = record v { seen = log; mine = v.mine ++ drop (length v.seen) log }

-- after the exchange that gives
abbrev pub returned : {Item : Type 0} → View Item → View Item
returned v = record v { phase = Idle }

-- after a join: the other pass has ended, and its log is still to be compared
abbrev pub joined : {Item : Type 0} → View Item → View Item → View Item
joined v other = record v { held = other.seen; olds = v.olds ++ (other.who, other.mine) ∷ [] }

-- after the load that compares: the longer log is seen
abbrev pub compared : {Item : Type 0} → View Item → View Item
compared v = record v { seen = longer v.seen v.held }

-- the view of a pass that has ended
abbrev pub spent : {Item : Type 0} → View Item
spent = record {
  live = false;
  phase = Idle;
  who = 0;
  base = 0;
  seen = [];
  mine = [];
  held = [];
  olds = [];
  gave = [];
  fixed = [];
}
