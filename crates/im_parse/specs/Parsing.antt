-- What parsing promises.
use Rattle.std.specs.Prelude.{◌≡◌, ◌≢◌, ℕ, List, Result, Ok, Err}
use Rattle.im_readers.specs.Grammar.{IsLongest}
use Rattle.im_syntax.specs.declared.token.Token.{Token}
use Rattle.im_syntax.specs.declared.statement.Stmt.{Stmt}
use Rattle.im_syntax.specs.Spelling.{spelling}
use Rattle.im_parse.specs.declared.parsing.ParseFault.{ParseFault}
use Rattle.im_parse.specs.declared.parsing.ParseFault.TheVariants as fault

-- the answer is this statement, unless memory ran out
abbrev pub IsReadAs : Stmt → Result Stmt ParseFault → Type 0
IsReadAs s (Ok found) = found ≡ s
IsReadAs s (Err fault.NoMemory) = Unit {0}
IsReadAs s (Err (fault.At n)) = ⊥

-- The tokens are those of no good statement, and their first n are the longest prefix that begins one.
pub record IsPlaceAmong (good : Stmt → Type 0) (ts : List Token) (n : ℕ) : Type 0 where
  pub none : (s : Stmt) → good s → ts ≢ spelling s
  pub longest : IsLongest spelling good ts n

-- where a fault is, unless memory ran out
abbrev pub IsFaultAmong : (Stmt → Type 0) → List Token → ParseFault → Type 0
IsFaultAmong good ts (fault.At n) = IsPlaceAmong good ts n
IsFaultAmong good ts fault.NoMemory = Unit {0}
