-- Logs as lists of entries, and how one log goes on from another. `who` tells the number under which an entry was made.
use Rattle.std.specs.Prelude.{◌≡◌, ◌≢◌, ℕ, ◌==◌, ◌⊎◌, nat_lt, List, ◌++◌, All, drop, filter, if◌then◌else◌, length}

-- the entries that were made under a number
abbrev pub entries_of : {Item : Type 0} → (Item → ℕ) → ℕ → List Item → List Item
entries_of who number log = filter (λ entry. who entry == number) log

-- those of them that stand at the place `base` or later
abbrev pub entries_since : {Item : Type 0} → (Item → ℕ) → ℕ → ℕ → List Item → List Item
entries_since who number base log = entries_of who number (drop base log)

-- the log begins with the earlier one
pub record Begins {Item : Type 0} (earlier log : List Item) : Type 0 where
  pub rest : List Item
  pub is : log ≡ earlier ++ rest

-- the later log is the earlier one and then entries of this number alone
pub record GrewByOwn {Item : Type 0} (who : Item → ℕ) (number : ℕ) (earlier later : List Item) : Type 0 where
  pub added : List Item
  pub is : later ≡ earlier ++ added
  pub own : All (λ entry. who entry ≡ number) added

-- the later log is the earlier one and then entries of other numbers alone
pub record GrewByOthers {Item : Type 0} (who : Item → ℕ) (number : ℕ) (earlier later : List Item) : Type 0 where
  pub between : List Item
  pub is : later ≡ earlier ++ between
  pub others : All (λ entry. who entry ≢ number) between

-- one of two logs begins the other
abbrev pub AreInLine : {Item : Type 0} → List Item → List Item → Type 0
AreInLine one other = Begins one other ⊎ Begins other one

-- the longer of two logs
abbrev pub longer : {Item : Type 0} → List Item → List Item → List Item
longer one other = if nat_lt (length one) (length other) then other else one
