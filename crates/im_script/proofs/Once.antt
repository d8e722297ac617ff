-- A line has one kind, where memory was there.
use Rattle.std.proofs.Common.{◌≡◌, ◌≢◌, ℕ, ◌+◌, ◌<◌, List, length, drop, refl, sym, ap, subst, ◌∙◌, arith, inl, inr}
use Rattle.std.proofs.lemmas.Bool.{cases_lt}
use Rattle.im_syntax.specs.declared.token.Token.{Token}
use Rattle.im_syntax.specs.declared.statement.Side.{Side}
use Rattle.im_syntax.specs.declared.statement.Side.TheVariants as side
use Rattle.im_syntax.specs.declared.statement.Stmt.{Stmt}
use Rattle.im_syntax.specs.Rules.{IsStmtOf}
use Rattle.im_lex.specs.Lexing.{tokens_of, places_of}
use Rattle.im_lex.proofs.Rounds.{Tokens, lexes_once, bad_once, lexes_or_bad}
use Rattle.im_parse.specs.Parsing.{IsPlaceAmong}
use Rattle.im_parse.proofs.Places.{same_spelling}
use Rattle.im_script.specs.declared.form.Form.{Form}
use Rattle.im_script.specs.declared.form.Form.TheVariants as form
use Rattle.im_script.specs.declared.line.LineKind.{LineKind}
use Rattle.im_script.specs.declared.line.LineKind.TheVariants as kind
use Rattle.im_script.specs.Lines.{byte_of, Says, statement, bad_byte, bad_token, no_memory, HasKind}

not_longer : (good : Stmt → Type 0) (ts : List Token) (n m : ℕ) → IsPlaceAmong good ts n → IsPlaceAmong good ts m → n < m → ⊥
not_longer good ts n m p q lt = p.longest.longer m lt q.longest.within q.longest.begins

place_once : (good : Stmt → Type 0) (ts : List Token) (n m : ℕ) → IsPlaceAmong good ts n → IsPlaceAmong good ts m → n ≡ m
place_once good ts n m p q =
    elim (cases_lt n m) [
      | inl less ↦ absurd (not_longer good ts n m p q less)
      | inr more ↦ elim (cases_lt m n) [
        | inl less ↦ absurd (not_longer good ts m n q p less)
        | inr same ↦ omega arith
      ]
    ]

module _ (whose : Side) (before : ℕ) (line : List ℕ) (of : Stmt → LineKind) where
  says_once : (a b : LineKind) → Says whose before line of a → Says whose before line of b → a ≢ kind.NoMemory → b ≢ kind.NoMemory → a ≡ b
  says_once a b (statement ts s l g e) (statement us t m h f) na nb =
      ap of (same_spelling s t g.is_stmt h.is_stmt (sym e ∙ ap tokens_of (lexes_once (drop before line) ts us l m) ∙ f))
  says_once a b (statement ts s l g e) (bad_byte n bad) na nb = absurd (lexes_or_bad (drop before line) ts n l bad)
  says_once a b (statement ts s l g e) (bad_token us n m p) na nb =
      absurd (p.none s g (ap tokens_of (lexes_once (drop before line) us ts m l) ∙ e))
  says_once a b (bad_byte n bad) (statement us t m h f) na nb = absurd (lexes_or_bad (drop before line) us n m bad)
  says_once a b (bad_byte n bad) (bad_byte m worse) na nb =
      ap (λ (k : ℕ). kind.Bad (before + k + 1)) (bad_once (drop before line) n m bad worse)
  says_once a b (bad_byte n bad) (bad_token us m l p) na nb = absurd (lexes_or_bad (drop before line) us n l bad)
  says_once a b (bad_token ts n l p) (statement us t m h f) na nb =
      absurd (p.none t h (ap tokens_of (lexes_once (drop before line) ts us l m) ∙ f))
  says_once a b (bad_token ts n l p) (bad_byte m worse) na nb = absurd (lexes_or_bad (drop before line) ts m l worse)
  says_once a b (bad_token ts n l p) (bad_token us m l2 q) na nb =
      let same = lexes_once (drop before line) ts us l l2 in
      let place = place_once (IsStmtOf whose) (tokens_of us) n m (subst (λ (x : Tokens). IsPlaceAmong (IsStmtOf whose) (tokens_of x) n) same p) q in
      ap (λ (x : Tokens). kind.Bad (byte_of before (length line) (places_of x) n)) same
      ∙ ap (λ (k : ℕ). kind.Bad (byte_of before (length line) (places_of us) k)) place
  says_once a b no_memory t na nb = absurd (na refl)
  says_once a b s no_memory na nb = absurd (nb refl)

pub kind_once : (f : Form) (line : List ℕ) (a b : LineKind) → HasKind f line a → HasKind f line b → a ≢ kind.NoMemory → b ≢ kind.NoMemory → a ≡ b
kind_once form.Long line a b p q na nb = p ∙ sym q
kind_once form.Skip line a b p q na nb = p ∙ sym q
kind_once form.Race line a b p q na nb = p ∙ sym q
kind_once form.Bare line a b p q na nb = p ∙ sym q
kind_once (form.Session n before) line a b p q na nb = says_once side.Session before line (kind.Session n) a b p q na nb
kind_once (form.Background before) line a b p q na nb = says_once side.Background before line kind.Background a b p q na nb
