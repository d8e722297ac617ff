-- Two lists in one.
use Rattle.std.specs.Prelude.{List, [], ◌∷◌}

-- a list whose elements are those of two lists, which may alternate as they like, each list in its own order
pub data Interleaves {A : Type 0} : List A → List A → List A → Type 0 where
  nothing : Interleaves [] [] []
  from_front : {x : A} {front back whole : List A} → Interleaves front back whole → Interleaves (x ∷ front) back (x ∷ whole)
  from_back : {x : A} {front back whole : List A} → Interleaves front back whole → Interleaves front (x ∷ back) (x ∷ whole)
