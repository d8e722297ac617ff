-- The tuples of an INSERT, and those of them that are kept as values.
use Rattle.std.specs.Prelude.{ℕ, ◌≡◌, Bool, true, false, List, [], ◌∷◌, map}
use Rattle.std.specs.List.{list_all}
use Rattle.im_values.specs.declared.content.Content.{Content as Value}
use Rattle.im_values.specs.declared.content.Content.TheVariants as value
use Rattle.im_syntax.specs.declared.literal.Lit.{Lit}
use Rattle.im_syntax.specs.declared.literal.Lit.TheVariants as lit

-- how a value is written
abbrev pub lit_of : Value → Lit
lit_of value.Null = lit.Null
lit_of (value.Int n) = lit.Int n
lit_of (value.Text t) = lit.Text t

-- tuples as they are written
abbrev pub written : List (List Value) → List (List Lit)
written tuples = map (map lit_of) tuples

-- the value is no empty text, which as a value would be NULL
abbrev pub is_proper : Value → Bool
is_proper value.Null = true
is_proper (value.Int n) = true
is_proper (value.Text []) = false
is_proper (value.Text (b ∷ bs)) = true

-- none of the values of the tuples is an empty text
pub record AreProper (tuples : List (List Value)) : Type 0 where
  pub each : list_all (list_all is_proper) tuples ≡ true
