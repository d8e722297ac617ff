-- What it means that a reader reads a part of a grammar: how values are spelled, which are good, and which tokens go on behind one.
use Rattle.std.specs.Prelude.{◌≡◌, ℕ, zero, suc, ◌<◌, ◌≤◌, Bool, true, false, cond, ◌||◌, List, [], ◌∷◌, ◌++◌, length, take, Option, Some, None}
use Rattle.std.specs.List.{AllByRecursion}
use Rattle.im_readers.specs.Reading.{Read, Found, Stopped}

-- the list is empty, or its first token fails the test
pub data Ends {T : Type 0} (goes : T → Bool) : List T → Type 0 where
  at_end : Ends goes []
  at_other : (t : T) (ts : List T) → goes t ≡ false → Ends goes (t ∷ ts)

-- the list has a first token, which passes the test
pub data BeginsWith {T : Type 0} (begins : T → Bool) : List T → Type 0 where
  begins_with : (t : T) (ts : List T) → begins t ≡ true → BeginsWith begins (t ∷ ts)

-- both lists are empty, or begin with one token
pub data SameFirst {T : Type 0} : List T → List T → Type 0 where
  no_first : SameFirst [] []
  one_first : (t : T) (xs ys : List T) → SameFirst (t ∷ xs) (t ∷ ys)

-- the tokens begin the spelling of some good value
pub record BeginsGood {T A : Type 0} (spell : A → List T) (good : A → Type 0) (ts : List T) : Type 0 where
  pub of : A
  pub is_good : good of
  pub more : List T
  pub spells : spell of ≡ ts ++ more

-- what a reader says where it finds a value: the tokens are its spelling and the rest, in which nothing goes on
pub record Takes {T A : Type 0} (spell : A → List T) (good : A → Type 0) (goes : A → T → Bool) (ts : List T) (a : A) (rest : List T) : Type 0 where
  pub parts : ts ≡ spell a ++ rest
  pub is_good : good a
  pub ends : Ends (goes a) rest

-- what a reader says where it stops: what came before begins a good value, and whatever stands behind the next token, reading stops there again
pub record Stops {T A : Type 0} (spell : A → List T) (good : A → Type 0) (read : List T → Read T A) (ts : List T) (left : ℕ) : Type 0 where
  pub front : List T
  pub rest : List T
  pub parts : ts ≡ front ++ rest
  pub count : left ≡ length rest
  pub begun : BeginsGood spell good front
  pub again : (other : List T) → SameFirst rest other → read (front ++ other) ≡ Stopped (length other)

-- what a reader says by its result, whether it found a value or stopped
abbrev pub ParseResult : {T A : Type 0} → (A → List T) → (A → Type 0) → (A → T → Bool) → (List T → Read T A) → List T → Read T A → Type 0
ParseResult spell good goes read ts (Found a rest) = Takes spell good goes ts a rest
ParseResult spell good goes read ts (Stopped left) = Stops spell good read ts left

-- The reader reads a part of a grammar: some value is good, whatever it answers is so, and the spelling of each good value is read again.
pub record Reads {T A : Type 0} (spell : A → List T) (good : A → Type 0) (goes : A → T → Bool) (read : List T → Read T A) : Type 0 where
  pub some : A
  pub some_good : good some
  pub answers : (ts : List T) → ParseResult spell good goes read ts (read ts)
  pub whole : (a : A) (rest : List T) → good a → Ends (goes a) rest → read (spell a ++ rest) ≡ Found a rest

-- ---- the spelling, the rule and the tokens that go on, for values put together

abbrev pub is_nil : {T : Type 0} → List T → Bool
is_nil [] = true
is_nil (t ∷ ts) = false

-- one test or both, as the spelling of the second value is empty
abbrev pub goes_behind : {T : Type 0} → List T → (T → Bool) → (T → Bool) → T → Bool
goes_behind second first_goes second_goes t = cond (is_nil second) (first_goes t || second_goes t) (second_goes t)

-- no token goes on
abbrev pub never : {T A : Type 0} → A → T → Bool
never a t = false

-- every value is good
abbrev pub Any : {A : Type 0} → A → Type 0
Any a = Unit {0}

abbrev pub spell_both : {T A B : Type 0} → (A → List T) → (B → List T) → A × B → List T
spell_both p q x = p x.0 ++ q x.1

abbrev pub goes_both : {T A B : Type 0} → (B → List T) → (A → T → Bool) → (B → T → Bool) → A × B → T → Bool
goes_both q first_goes second_goes x = goes_behind (q x.1) (first_goes x.0) (second_goes x.1)

abbrev pub GoodBoth : {A B : Type 0} → (A → Type 0) → (B → Type 0) → A × B → Type 0
GoodBoth p q x = p x.0 × q x.1

abbrev pub spell_optional : {T A : Type 0} → (A → List T) → Option A → List T
spell_optional p None = []
spell_optional p (Some a) = p a

abbrev pub GoodOptional : {A : Type 0} → (A → Type 0) → Option A → Type 0
GoodOptional p None = Unit {0}
GoodOptional p (Some a) = p a

abbrev pub goes_optional : {T A : Type 0} → (T → Bool) → (A → T → Bool) → Option A → T → Bool
goes_optional begins p None t = begins t
goes_optional begins p (Some a) t = p a t

-- each value behind a mark
abbrev pub spell_others : {T A : Type 0} → T → (A → List T) → List A → List T
spell_others w p [] = []
spell_others w p (a ∷ xs) = w ∷ (p a ++ spell_others w p xs)

-- the values with marks between them
abbrev pub spell_joined : {T A : Type 0} → T → (A → List T) → List A → List T
spell_joined w p [] = []
spell_joined w p (a ∷ xs) = p a ++ spell_others w p xs

-- each value is good, and there are at most so many
pub record UpTo {A : Type 0} (most : ℕ) (good : A → Type 0) (xs : List A) : Type 0 where
  pub each : AllByRecursion good xs
  pub count : length xs ≤ most

-- the list has a value
abbrev pub IsFilled : {A : Type 0} → List A → Type 0
IsFilled [] = ⊥
IsFilled (a ∷ xs) = Unit {0}

abbrev pub GoodJoined : {A : Type 0} → (A → Type 0) → List A → Type 0
GoodJoined good xs = IsFilled xs × AllByRecursion good xs

abbrev pub GoodJoinedUpTo : {A : Type 0} → ℕ → (A → Type 0) → List A → Type 0
GoodJoinedUpTo more good xs = IsFilled xs × UpTo (suc more) good xs

-- behind the last value a mark goes on while there is room for more, and what goes on behind that value
abbrev pub goes_further : {T A : Type 0} → T → (T → Bool) → (A → List T) → (A → T → Bool) → ℕ → List A → T → Bool
goes_further w is spell goes zero xs t = false
goes_further w is spell goes (suc k) [] t = is t
goes_further w is spell goes (suc k) (a ∷ xs) t = goes_behind (spell_others w spell xs) (goes a) (goes_further w is spell goes k xs) t

-- the same with room for any number
abbrev pub goes_others : {T A : Type 0} → T → (T → Bool) → (A → List T) → (A → T → Bool) → List A → T → Bool
goes_others w is spell goes [] t = is t
goes_others w is spell goes (a ∷ xs) t = goes_behind (spell_others w spell xs) (goes a) (goes_others w is spell goes xs) t

-- the first value has its mark behind it as well
abbrev pub goes_joined : {T A : Type 0} → T → (T → Bool) → (A → List T) → (A → T → Bool) → List A → T → Bool
goes_joined w is spell goes [] t = false
goes_joined w is spell goes (a ∷ xs) t = goes_behind (spell_others w spell xs) (goes a) (goes_others w is spell goes xs) t

abbrev pub goes_joined_up_to : {T A : Type 0} → ℕ → T → (T → Bool) → (A → List T) → (A → T → Bool) → List A → T → Bool
goes_joined_up_to k w is spell goes [] t = false
goes_joined_up_to k w is spell goes (a ∷ xs) t = goes_behind (spell_others w spell xs) (goes a) (goes_further w is spell goes k xs) t

-- ---- the place where tokens leave the grammar

-- The first n tokens begin a good value, and no longer prefix does.
pub record IsLongest {T A : Type 0} (spell : A → List T) (good : A → Type 0) (ts : List T) (n : ℕ) : Type 0 where
  pub within : n ≤ length ts
  pub begins : BeginsGood spell good (take n ts)
  pub longer : (m : ℕ) → n < m → m ≤ length ts → BeginsGood spell good (take m ts) → ⊥
