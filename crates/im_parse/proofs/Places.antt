-- The whole of the tokens: a statement, or the place where they leave the language.
use Rattle.std.proofs.Common.{◌≡◌, ◌==◌, ℕ, suc, ◌-◌, ◌≤◌, true, false, List, [], ◌∷◌, length, sym, ap, ◌∙◌, arith}
use Rattle.std.proofs.lemmas.Bool.Decides.{nat_tests}
use Rattle.im_readers.specs.Reading.{Found, Stopped, ended, all_of}
use Rattle.im_readers.proofs.Input.{all_found, all_only, all_place, one_value}
use Rattle.im_syntax.specs.declared.token.Token.{Token}
use Rattle.im_syntax.specs.declared.statement.Stmt.{Stmt}
use Rattle.im_syntax.specs.Spelling.{spelling}
use Rattle.im_syntax.specs.Rules.{IsStmt}
use Rattle.im_parse.specs.inner.Statements.{statement_at, whole_at}
use Rattle.im_parse.specs.Parsing.{IsPlaceAmong}
use Rattle.im_parse.proofs.StatementLaws.{statement_law}

-- a statement with nothing behind it, and one with tokens behind it
pub whole-all : (ts : List Token) (s : Stmt) (rest : List Token) → (length rest == 0) ≡ true → statement_at ts ≡ Found s rest → whole_at ts ≡ Found s []
unfolding whole_at
whole-all ts s [] none e = ap ended e
whole-all ts s (t ∷ rest) none e = absurd (let same : suc (length rest) ≡ 0 = grind (arith, nat_tests) in omega arith)

pub whole-more : (ts : List Token) (s : Stmt) (rest : List Token) → (length rest == 0) ≡ false → statement_at ts ≡ Found s rest
    → whole_at ts ≡ Stopped (length rest)
unfolding whole_at
whole-more ts s [] some e = absurd cc
whole-more ts s (t ∷ rest) some e = ap ended e

pub whole-stopped : (ts : List Token) (left : ℕ) → statement_at ts ≡ Stopped left → whole_at ts ≡ Stopped left
unfolding whole_at
whole-stopped ts left e = ap ended e

pub whole_found : (ts : List Token) (s : Stmt) → whole_at ts ≡ Found s [] → IsStmt s × (ts ≡ spelling s)
unfolding whole_at
whole_found ts s e = let p = all_found statement_law ts s [] e in (p.1, p.0)

pub whole_only : (ts : List Token) (s : Stmt) → IsStmt s → ts ≡ spelling s → whole_at ts ≡ Found s []
unfolding whole_at
whole_only ts s g e = ap (all_of statement_at) e ∙ all_only statement_law s g

pub whole_within : (ts : List Token) (left : ℕ) → whole_at ts ≡ Stopped left → left ≤ length ts
unfolding whole_at
whole_within ts left e = (all_place statement_law ts left e).within

pub read_as : (ts : List Token) (found s : Stmt) → whole_at ts ≡ Found found [] → IsStmt s → ts ≡ spelling s → found ≡ s
read_as ts found s e g same = let twice : Found found [] ≡ Found s [] = sym e ∙ whole_only ts s g same in cc

pub not_read : (ts : List Token) (left : ℕ) (s : Stmt) → whole_at ts ≡ Stopped left → IsStmt s → ts ≡ spelling s → ⊥
not_read ts left s e g same = let twice : Found s [] ≡ Stopped left = sym (whole_only ts s g same) ∙ e in cc

pub whole_place : (ts : List Token) (left : ℕ) → whole_at ts ≡ Stopped left → IsPlaceAmong IsStmt ts (length ts - left)
unfolding whole_at
whole_place ts left e = record { none = λ s g same. not_read ts left s e g same; longest = (all_place statement_law ts left e).longest }

-- two statements of one spelling are one
pub same_spelling : (a b : Stmt) → IsStmt a → IsStmt b → spelling a ≡ spelling b → a ≡ b
same_spelling = one_value statement_law
