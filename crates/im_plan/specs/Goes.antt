-- How a line may go while others add entries between its turns.
use Rattle.std.specs.Prelude.{◌≡◌, ℕ, ◌&&◌, ◌⊎◌, Bool, false, All, [], ◌++◌, is_some}
use Rattle.im_history.specs.History.{History}
use Rattle.im_plan.specs.Plan.{Plan, End, Turn, made, counted}

-- the history went on by entries of others alone
pub record After (others : History → Type 0) (old new : History) : Type 0 where
  pub between : History
  pub lawful : others between
  pub log : new ≡ old ++ between

-- others may add nothing, and go on after each other
pub record MayGoOn (others : History → Type 0) : Type 0 where
  pub none : others []
  pub both : (first second : History) → others first → others second → others (first ++ second)

-- others, none of whom has one of these numbers
pub record Others (mine : ℕ → Bool) (between : History) : Type 0 where
  pub apart : All (λ entry. mine entry.who ≡ false) between

-- others who add nothing
pub record Nobody (between : History) : Type 0 where
  pub none : between ≡ []

-- a line ends: its result is the plan's, and others may come after it
pub record Ends {R : Type 0} (others : History → Type 0) (old : History) (value result : R) (new : History) : Type 0 where
  pub value_is : result ≡ value
  pub after : After others old new

-- the line of this number may go so: from the history `old` to this result at the history `new`
abbrev pub Goes : {R : Type 0} → (History → Type 0) → ℕ → History → Plan R → R → History → Type 0
Goes others who old (End value) result new = Ends others old value result new
Goes others who old (Turn decides adds on) result new =
    (at : History) × After others old at × Goes others who (at ++ made who (adds at)) (on at) result new

-- the line may be out of memory, k entries of it having been made already: it amends what it did and ends. Memory does not
-- run out any more once the deciding entry is made
abbrev pub Lacks : {R : Type 0} → (History → Type 0) → ℕ → (ℕ → Plan R) → ℕ → History → Plan R → R → History → Type 0
Lacks others who amends k old (End value) result new = Goes others who old (amends k) result new
Lacks others who amends k old (Turn decides adds on) result new =
    Goes others who old (amends k) result new
    ⊎ ((at : History) × After others old at × ((decides && is_some (adds at)) ≡ false)
    × Lacks others who amends (counted (adds at) k) (at ++ made who (adds at)) (on at) result new)

-- what is left of a line, k entries of it having been made already: it goes by the plan, or runs out of memory on the way
pub record Rest {R : Type 0} (others : History → Type 0) (who : ℕ) (amends : ℕ → Plan R) (k : ℕ) (old : History) (plan : Plan R) (result : R)
    (new : History) : Type 0 where
  pub played : Goes others who old plan result new ⊎ Lacks others who amends k old plan result new

-- a line of a script, played
pub record PlayedLine {R : Type 0} (others : History → Type 0) (who : ℕ) (amends : ℕ → Plan R) (old : History) (plan : Plan R) (result : R)
    (new : History) : Type 0 where
  pub whole : Rest others who amends 0 old plan result new
