-- Readers: functions from a list of tokens to what stands at its front, and how readers are put together.
use Rattle.std.specs.Prelude.{ℕ, zero, suc, Bool, cond, List, [], ◌∷◌, length, Option, Some, None}

-- a value and the tokens behind it, or how many tokens are left where reading stops
pub data Read (T A : Type 0) : Type 0 where
  Found : A → List T → Read T A
  Stopped : ℕ → Read T A

-- goes on behind what was found
abbrev pub and_then : {T A B : Type 0} → Read T A → (A → List T → Read T B) → Read T B
and_then (Found a rest) next = next a rest
and_then (Stopped left) next = Stopped left

-- what one token gives
abbrev pub taken : {T A : Type 0} → Option A → (t : T) → (ts : List T) → Read T A
taken (Some a) t ts = Found a ts
taken None t ts = Stopped (length (t ∷ ts))

-- one token that stands for a value
abbrev pub one : {T A : Type 0} → (T → Option A) → List T → Read T A
one value [] = Stopped 0
one value (t ∷ ts) = taken (value t) t ts

-- the one token that passes a test
abbrev pub mark : {T : Type 0} → (T → Bool) → List T → Read T (Unit {0})
mark is = one (λ t. cond (is t) (Some tt) None)

-- the tokens behind a mark
abbrev pub behind_mark : {T : Type 0} → (T → Bool) → List T → Option (List T)
behind_mark is [] = None
behind_mark is (t ∷ ts) = cond (is t) (Some ts) None

-- no tokens begin a value
abbrev pub nothing : {T A : Type 0} → List T → Read T A
nothing ts = Stopped (length ts)

-- one value, and behind it another
abbrev pub both : {T A B : Type 0} → (List T → Read T A) → (List T → Read T B) → List T → Read T (A × B)
both p q ts = and_then (p ts) (λ a rest. and_then (q rest) (λ b behind. Found (a, b) behind))

-- the value that is made of what was read
abbrev pub made : {T A B : Type 0} → (A → B) → (List T → Read T A) → List T → Read T B
made f p ts = and_then (p ts) (λ a rest. Found (f a) rest)

-- a value behind a mark
abbrev pub after : {T A : Type 0} → (T → Bool) → (List T → Read T A) → List T → Read T A
after is p = made (λ x. x.1) (both (mark is) p)

-- a value before a mark
abbrev pub before : {T A : Type 0} → (List T → Read T A) → (T → Bool) → List T → Read T A
before p is = made (λ x. x.0) (both p (mark is))

-- a value where the next token begins one
abbrev pub optional : {T A : Type 0} → (T → Bool) → (List T → Read T A) → List T → Read T (Option A)
optional begins p [] = Found None []
optional begins p (t ∷ ts) = cond (begins t) (made Some p (t ∷ ts)) (Found None (t ∷ ts))

-- the next token, which stays where it is
abbrev pub peek : {T : Type 0} → List T → Read T T
peek [] = Stopped 0
peek (t ∷ ts) = Found t (t ∷ ts)

-- the reader that the next token chooses
abbrev pub picked : {T K A : Type 0} → (T → K) → (K → List T → Read T A) → List T → Read T A
picked kind choose ts = and_then (peek ts) (λ t rest. choose (kind t) rest)

-- a first value and the others, as one list
abbrev pub with_first : {A : Type 0} → A × List A → List A
with_first x = x.0 ∷ x.1

-- the same, where there is a first one
abbrev pub all_others : {A : Type 0} → Option (A × List A) → List A
all_others None = []
all_others (Some x) = with_first x

-- at most so many values, each behind a mark
unfoldable pub further : {T A : Type 0} → (T → Bool) → (List T → Read T A) → ℕ → List T → Read T (List A)
further is p zero ts = Found [] ts
further is p (suc k) ts = made all_others (optional is (after is (both p (further is p k)))) ts

-- as many values as there are, each behind a mark
unfoldable pub others : {T A : Type 0} → (T → Bool) → (List T → Read T A) → List T → Read T (List A)
others is p ts = further is p (length ts) ts

-- a list of one value and at most so many more, with marks between them
abbrev pub joined_up_to : {T A : Type 0} → ℕ → (T → Bool) → (List T → Read T A) → List T → Read T (List A)
joined_up_to more is p = made with_first (both p (further is p more))

-- a list of one value or more, with marks between them
abbrev pub joined : {T A : Type 0} → (T → Bool) → (List T → Read T A) → List T → Read T (List A)
joined is p = made with_first (both p (others is p))

-- a value with no token behind it
abbrev pub ended : {T A : Type 0} → Read T A → Read T A
ended (Found a []) = Found a []
ended (Found a (t ∷ ts)) = Stopped (length (t ∷ ts))
ended (Stopped left) = Stopped left

-- a value of all the tokens
abbrev pub all_of : {T A : Type 0} → (List T → Read T A) → List T → Read T A
all_of p ts = ended (p ts)
