-- A plan with nobody between its turns: a machine that plays one line after the other.
use Rattle.std.specs.Prelude.{◌≡◌, ℕ, zero, suc, ◌&&◌, nat_le, Bool, true, ◌++◌, Option, Some, None, is_some, if◌then◌else◌}
use Rattle.im_history.specs.declared.entry.What.{What}
use Rattle.im_history.specs.History.{History}
use Rattle.im_plan.specs.Plan.{Plan, End, Turn, made, counted}

-- a result, and the history that it leaves
pub record Played (R : Type 0) : Type 0 where
  pub result : R
  pub history : History

-- the whole line
abbrev pub play : {R : Type 0} → ℕ → History → Plan R → Played R
play who old (End value) = record { result = value; history = old }
play who old (Turn decides adds on) = play who (old ++ made who (adds old)) (on old)

-- one more than `left` entries were to be made: so many are after a turn that adds these
abbrev pub still : Option What → ℕ → ℕ
still None left = suc left
still (Some what) left = left

-- the line up to the moment where `left` more of its entries are made: there memory runs out, after k entries in all
abbrev pub cut : {R : Type 0} → ℕ → (ℕ → Plan R) → ℕ → ℕ → History → Plan R → Played R
cut who amends k left old (End value) = play who old (amends k)
cut who amends k zero old (Turn decides adds on) = play who old (amends k)
cut who amends k (suc left) old (Turn decides adds on) =
    cut who amends k (still (adds old) left) (old ++ made who (adds old)) (on old)

-- how many entries the line makes before its deciding one, or in all where none decides
abbrev pub undecided : {R : Type 0} → ℕ → History → Plan R → ℕ
undecided who old (End value) = 0
undecided who old (Turn decides adds on) =
    if decides && is_some (adds old)
    then 0
    else counted (adds old) (undecided who (old ++ made who (adds old)) (on old))

-- the line as it is played where memory does not run out, or runs out after so many entries
abbrev pub play_or_cut : {R : Type 0} → ℕ → (ℕ → Plan R) → Option ℕ → History → Plan R → Played R
play_or_cut who amends None old plan = play who old plan
play_or_cut who amends (Some k) old plan = cut who amends k k old plan

-- memory may run out so: not at all, or before the deciding entry is made
abbrev pub may_lack : {R : Type 0} → ℕ → History → Plan R → Option ℕ → Bool
may_lack who old plan None = true
may_lack who old plan (Some k) = nat_le k (undecided who old plan)

-- a line that somebody played alone is the machine's, memory having run out so or not at all
pub record IsMachine {R : Type 0} (who : ℕ) (amends : ℕ → Plan R) (old : History) (plan : Plan R) (result : R) (new : History) : Type 0 where
  pub lacked : Option ℕ
  pub lawful : may_lack who old plan lacked ≡ true
  pub same : play_or_cut who amends lacked old plan ≡ record { result = result; history = new }
