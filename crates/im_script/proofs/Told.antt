-- What a statement part says, and that its bytes fit.
use Rattle.std.proofs.Common.{◌≡◌, inl, inr, ℕ, ◌+◌, ◌^◌, ◌<◌, ◌≤◌, List, ◌∷◌, length, drop, length-drop, sym, subst, ◌∙◌, arith}
use Rattle.im_syntax.specs.declared.token.Token.{Token}
use Rattle.im_syntax.specs.declared.statement.Side.{Side}
use Rattle.im_syntax.specs.declared.statement.Stmt.{Stmt}
use Rattle.im_syntax.specs.Spelling.{spelling}
use Rattle.im_syntax.specs.Rules.{IsStmtOf}
use Rattle.im_lex.specs.Lexing.{Lexes, IsBadAt, is_bad, behind_blank, behind_token, AreLexed}
use Rattle.im_lex.proofs.Fits.{token_all_fits}
use Rattle.im_parse.specs.Parsing.{IsPlaceAmong}
use Rattle.im_script.specs.declared.line.LineKind.{LineKind}
use Rattle.im_script.specs.Lines.{Says, statement, bad_token, no_memory}
use Rattle.im_script.specs.inner.Statements.{IsBadToken}

-- the first bad byte stands in the line
bad_within : (at : ℕ) (bs : List ℕ) (n : ℕ) → IsBadAt at bs n → n ≤ at + length bs
bad_within at bs n (is_bad at2 bs2 e) = omega arith
bad_within at bs n (behind_blank at2 b cs m e rest) = omega (arith, bad_within (at2 + 1) cs m rest)
bad_within at bs n (behind_token at2 b cs t more m e rest) =
    omega (arith, token_all_fits (b ∷ cs) t more e, bad_within (at2 + 1 + more) (drop more cs) m rest, length-drop more cs)

pub bad_byte_fits : (before : ℕ) (line : List ℕ) (n : ℕ) → before ≤ length line → length line < 2 ^ 32 → IsBadAt 0 (drop before line) n
    → before + n + 1 < 2 ^ 64
bad_byte_fits before line n le short b = omega (arith, bad_within 0 (drop before line) n b, length-drop before line)

-- ---- what is said

pub said_statement : (whose : Side) (before : ℕ) (line : List ℕ) (of : Stmt → LineKind) (tokens : List Token) (s : Stmt)
    → AreLexed (drop before line) tokens → IsStmtOf whose s × (tokens ≡ spelling s) → Says whose before line of (of s)
said_statement whose before line of tokens s l p = statement l.pairs s l.lexes p.0 (sym l.tokens_are ∙ p.1)

pub said_token : (whose : Side) (before : ℕ) (line : List ℕ) (of : Stmt → LineKind) (tokens : List Token) (n : ℕ) (k : LineKind)
    → AreLexed (drop before line) tokens → IsPlaceAmong (IsStmtOf whose) tokens n
    → ((ts : List (Token × ℕ)) → Lexes 0 (drop before line) ts → IsBadToken before line ts n k) → Says whose before line of k
said_token whose before line of tokens n k l p told =
    elim (told l.pairs l.lexes) [
      | inl e ↦
          subst (λ (x : LineKind). Says whose before line of x) (sym e)
          (bad_token l.pairs n l.lexes (subst (λ (x : List Token). IsPlaceAmong (IsStmtOf whose) x n) l.tokens_are p))
      | inr e ↦ subst (λ (x : LineKind). Says whose before line of x) (sym e) no_memory
    ]
