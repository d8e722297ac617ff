-- The tokens of a line, and its first bad byte.
use Rattle.std.specs.Prelude.{◌≡◌, ℕ, ◌+◌, List, [], ◌∷◌, drop, map, slice_get, Option, Result, Ok, Err}
use Rattle.std.specs.Global.{Vec}
use Rattle.im_syntax.specs.declared.token.Token.{Token}
use Rattle.im_lex.specs.declared.front.Front.TheVariants.{Stop, Blank, Bad, Lexed}
use Rattle.im_lex.specs.declared.lexing.LexFault.{LexFault}
use Rattle.im_lex.specs.declared.lexing.LexFault.TheVariants as fault
use Rattle.im_lex.specs.Bytes.{front}

-- The bytes have these tokens, each with its place; the first byte stands at a place of its own.
pub data Lexes : ℕ → List ℕ → List (Token × ℕ) → Type 0 where
  ends : (at : ℕ) (bs : List ℕ) → front bs ≡ Stop → Lexes at bs []
  skips : (at b : ℕ) (bs : List ℕ) (ts : List (Token × ℕ)) → front (b ∷ bs) ≡ Blank → Lexes (at + 1) bs ts → Lexes at (b ∷ bs) ts
  takes : (at b : ℕ) (bs : List ℕ) (t : Token) (more : ℕ) (ts : List (Token × ℕ)) → front (b ∷ bs) ≡ Lexed t more
      → Lexes (at + 1 + more) (drop more bs) ts → Lexes at (b ∷ bs) ((t, at) ∷ ts)

-- the first bad byte of the bytes, and its place
pub data IsBadAt : ℕ → List ℕ → ℕ → Type 0 where
  is_bad : (at : ℕ) (bs : List ℕ) → front bs ≡ Bad → IsBadAt at bs at
  behind_blank : (at b : ℕ) (bs : List ℕ) (n : ℕ) → front (b ∷ bs) ≡ Blank → IsBadAt (at + 1) bs n → IsBadAt at (b ∷ bs) n
  behind_token : (at b : ℕ) (bs : List ℕ) (t : Token) (more n : ℕ) → front (b ∷ bs) ≡ Lexed t more
      → IsBadAt (at + 1 + more) (drop more bs) n → IsBadAt at (b ∷ bs) n

-- The bytes begin with these tokens, each with its place: those before the first bad byte, or all where no byte is bad.
pub data BeginsWith : ℕ → List ℕ → List (Token × ℕ) → Type 0 where
  is_over : (at : ℕ) (bs : List ℕ) → front bs ≡ Stop → BeginsWith at bs []
  meets_bad : (at : ℕ) (bs : List ℕ) → front bs ≡ Bad → BeginsWith at bs []
  passes_blank : (at b : ℕ) (bs : List ℕ) (ts : List (Token × ℕ)) → front (b ∷ bs) ≡ Blank → BeginsWith (at + 1) bs ts → BeginsWith at (b ∷ bs) ts
  passes_token : (at b : ℕ) (bs : List ℕ) (t : Token) (more : ℕ) (ts : List (Token × ℕ)) → front (b ∷ bs) ≡ Lexed t more
      → BeginsWith (at + 1 + more) (drop more bs) ts → BeginsWith at (b ∷ bs) ((t, at) ∷ ts)

-- ---- tokens apart from their places

abbrev pub tokens_of : List (Token × ℕ) → List Token
tokens_of ts = map (λ t. t.0) ts

abbrev pub places_of : List (Token × ℕ) → List ℕ
places_of ts = map (λ t. t.1) ts

-- the bytes have these tokens
pub record AreLexed (bytes : List ℕ) (tokens : List Token) : Type 0 where
  pub pairs : List (Token × ℕ)
  pub lexes : Lexes 0 bytes pairs
  pub tokens_are : tokens ≡ tokens_of pairs

-- the place of the n-th token, from 0: there is one where that token stands before the first bad byte
pub record IsPlaceOf (n : ℕ) (bytes : List ℕ) (place : Option ℕ) : Type 0 where
  pub pairs : List (Token × ℕ)
  pub begins : BeginsWith 0 bytes pairs
  pub is : place ≡ slice_get (places_of pairs) n

-- ---- what the code promises

-- the answer has these tokens, unless memory ran out
abbrev pub IsLexed : List (Token × ℕ) → Result (Vec Token) LexFault → Type 0
IsLexed ts (Ok found) = found.items ≡ tokens_of ts
IsLexed ts (Err fault.NoMemory) = Unit {0}
IsLexed ts (Err (fault.At n)) = ⊥

-- the answer is this bad byte, unless memory ran out
abbrev pub IsFaultAt : {T : Type 0} → ℕ → Result T LexFault → Type 0
IsFaultAt n (Ok found) = ⊥
IsFaultAt n (Err fault.NoMemory) = Unit {0}
IsFaultAt n (Err (fault.At m)) = m ≡ n

-- a fault is at the first bad byte, unless memory ran out
abbrev pub IsBadByte : List ℕ → LexFault → Type 0
IsBadByte bs (fault.At n) = IsBadAt 0 bs n
IsBadByte bs fault.NoMemory = Unit {0}
