-- The first tokens of a line.
use Rattle.std.specs.Prelude.{◌≡◌, ℕ, ◌≤◌, ◌<◌, List, length, Option, Some, None, slice_get}
use Rattle.im_syntax.specs.declared.token.Token.{Token}
use Rattle.im_lex.specs.declared.lexing.LexFault.{LexFault}
use Rattle.im_lex.specs.declared.lexing.LexFault.TheVariants as fault
use Rattle.im_lex.specs.Lexing.{Lexes, AreLexed, IsPlaceOf, places_of}

-- so many tokens were read and the next one stands at a place of the line
pub record AreFollowed (most at : ℕ) (line : List ℕ) : Type 0 where
  pub place : (ts : List (Token × ℕ)) → Lexes 0 line ts → slice_get (places_of ts) most ≡ Some at
  pub stands : IsPlaceOf most line (Some at)
  pub within : at ≤ length line
  pub fewer : most < length line

-- At most so many tokens of a line: all, or so many and the place of the next one.
abbrev pub AreFirst : ℕ → List ℕ → List Token → Option ℕ → Type 0
AreFirst most line tokens None = AreLexed line tokens × (length tokens ≤ most)
AreFirst most line tokens (Some at) = AreFollowed most at line

-- a fault is met before the token behind so many, unless memory ran out
abbrev pub IsMetBefore : ℕ → List ℕ → LexFault → Type 0
IsMetBefore most line (fault.At n) = IsPlaceOf most line None
IsMetBefore most line fault.NoMemory = Unit {0}
