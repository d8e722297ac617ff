-- What is read straight from the bytes of a line, from one place on to another.
use Rattle.std.specs.Prelude.{◌≡◌, ℕ, ◌+◌, ◌*◌, ◌≤◌, Bool, true, false, List, [], ◌∷◌, ◌++◌, length, take, drop, map}
use Rattle.std.specs.List.{list_all}
use Rattle.im_readers.specs.Grammar.{spell_joined, GoodJoined}
use Rattle.im_values.specs.declared.content.Content.{Content as Value}
use Rattle.im_values.specs.Stretches.{cut}
use Rattle.im_syntax.specs.declared.keyword.Keyword.TheVariants as key
use Rattle.im_syntax.specs.declared.token.Token.{Token}
use Rattle.im_syntax.specs.declared.token.Token.TheVariants as token
use Rattle.im_syntax.specs.declared.token.Sign.TheVariants as sign
use Rattle.im_syntax.specs.declared.literal.Lit.{Lit}
use Rattle.im_syntax.specs.Spelling.{word, comma, lit_token, spell_tuple}
use Rattle.im_syntax.specs.Tuples.{lit_of, written, is_proper}
use Rattle.im_syntax.specs.Words.{IsName}
use Rattle.im_syntax.specs.Rules.{IsTuple}
use Rattle.im_lex.specs.declared.front.Front.TheVariants.{Stop}
use Rattle.im_lex.specs.Bytes.{is_word_part, first, front}
use Rattle.im_lex.specs.Lexing.{Lexes, tokens_of}

-- These tokens stand there: behind them the line goes on as it does from the second place on.
pub record Reads (line : List ℕ) (at next : ℕ) (tokens : List Token) : Type 0 where
  pub pairs : List (Token × ℕ)
  pub are : tokens ≡ tokens_of pairs
  pub within : next ≤ length line
  pub goes_on : (ts : List (Token × ℕ)) → Lexes next (drop next line) ts → Lexes at (drop at line) (pairs ++ ts)

-- a word of these letters stands there, behind blanks
pub record ReadsLetters (line : List ℕ) (at next : ℕ) (letters : List ℕ) : Type 0 where
  pub place : ℕ
  pub blanks : Reads line at place []
  pub stands : take (length letters) (drop place line) ≡ letters
  pub over : is_word_part (first (drop (length letters) (drop place line))) ≡ false
  pub next_is : next ≡ place + length letters

-- a name stands there
pub record ReadsName (line : List ℕ) (at next : ℕ) (name : List ℕ) : Type 0 where
  pub named : IsName name
  pub reads : Reads line at next (token.Word name ∷ [])

-- the head of an INSERT without a list of columns stands there
pub record ReadsHead (line : List ℕ) (next : ℕ) (name : List ℕ) : Type 0 where
  pub named : IsName name
  pub reads : Reads line 0 next (word key.Insert ∷ word key.Into ∷ token.Word name ∷ word key.Values ∷ [])

-- a value stands there, and was put behind others
pub record ReadsValue (line : List ℕ) (at next : ℕ) (old new : List Value) : Type 0 where
  pub value : Value
  pub grown : new ≡ old ++ value ∷ []
  pub proper : is_proper value ≡ true
  pub reads : Reads line at next (lit_token (lit_of value) ∷ [])

-- literals with commas between them
abbrev pub spell_lits : List Lit → List Token
spell_lits lits = spell_joined comma (λ v. lit_token v ∷ []) lits

-- a parenthesis stands there, and values behind it
pub record ReadsValues (line : List ℕ) (at next : ℕ) (old new : List Value) : Type 0 where
  pub values : List Value
  pub grown : new ≡ old ++ values
  pub some : 1 ≤ length values
  pub proper : list_all is_proper values ≡ true
  pub reads : Reads line at next (token.Sign sign.LeftParen ∷ spell_lits (map lit_of values))

-- a tuple stands there
pub record ReadsTuple (line : List ℕ) (at next : ℕ) (old new : List Value) : Type 0 where
  pub values : List Value
  pub grown : new ≡ old ++ values
  pub some : 1 ≤ length values
  pub proper : list_all is_proper values ≡ true
  pub reads : Reads line at next (spell_tuple (map lit_of values))

-- so many tuples of so many values each stand there
pub record ReadsTuples (line : List ℕ) (at next width count : ℕ) (values : List Value) : Type 0 where
  pub some : 1 ≤ count
  pub wide : 1 ≤ width
  pub long : length values ≡ count * width
  pub proper : list_all is_proper values ≡ true
  pub reads : Reads line at next (spell_joined comma spell_tuple (written (cut count width values)))

-- the line ends there, behind blanks
pub record EndsAt (line : List ℕ) (at : ℕ) : Type 0 where
  pub place : ℕ
  pub blanks : Reads line at place []
  pub stop : front (drop place line) ≡ Stop

-- tuples stand there, and the line ends behind them
pub record HasTuples (line : List ℕ) (at : ℕ) (tuples : List (List Lit)) : Type 0 where
  pub good : GoodJoined IsTuple tuples
  pub place : ℕ
  pub reads : Reads line at place (spell_joined comma spell_tuple tuples)
  pub stop : front (drop place line) ≡ Stop
