-- What one token may be: a keyword, a sign, a name, a number, a literal.
use Rattle.std.specs.Prelude.{ℕ, pos, negsuc, Bool, true, false, cond, ◌&&◌, nat_le, List, [], ◌∷◌, Option, Some, None}
use denote.Enum.Bare.{sameb}
use Rattle.im_readers.specs.Reading.{Read, one, mark, both, made}
use Rattle.im_values.specs.declared.comparison.Cmp.{Cmp}
use Rattle.im_values.specs.declared.comparison.Cmp.TheVariants as cmp
use Rattle.im_syntax.specs.declared.keyword.Keyword.{Keyword}
use Rattle.im_syntax.specs.declared.keyword.Keyword.TheVariants as key
use Rattle.im_syntax.specs.contracts.keyword.Keyword.{the_type}
use Rattle.im_syntax.specs.declared.token.Token.{Token}
use Rattle.im_syntax.specs.declared.token.Token.TheVariants as token
use Rattle.im_syntax.specs.declared.token.Sign.{Sign}
use Rattle.im_syntax.specs.declared.token.Sign.TheVariants as sign
use Rattle.im_syntax.specs.declared.literal.Lit.{Lit}
use Rattle.im_syntax.specs.declared.literal.Lit.TheVariants as lit
use Rattle.im_values.specs.declared.priority.Priority.{Priority}
use Rattle.im_values.specs.declared.priority.Priority.TheVariants as level
use Rattle.im_syntax.specs.Words.{is_name}

-- the token is this keyword
abbrev pub is_key : Keyword → Token → Bool
is_key k (token.Keyword j) = sameb the_type j k
is_key k (token.Word w) = false
is_key k (token.Int n) = false
is_key k (token.Text t) = false
is_key k (token.Sign s) = false

-- what counts of the next token where it chooses what is read
pub data Lead : Type 0 where
  keyword : Keyword → Lead
  name : Lead
  parenthesis : Lead
  relation : Lead
  other : Lead

abbrev pub sign_lead : Sign → Lead
sign_lead sign.LeftParen = parenthesis
sign_lead sign.RightParen = other
sign_lead sign.Comma = other
sign_lead sign.Star = other
sign_lead sign.Eq = relation
sign_lead sign.Lt = relation
sign_lead sign.Le = relation
sign_lead sign.Gt = relation
sign_lead sign.Ge = relation
sign_lead sign.Ne = relation

abbrev pub lead : Token → Lead
lead (token.Keyword k) = keyword k
lead (token.Word w) = name
lead (token.Sign s) = sign_lead s
lead (token.Int n) = other
lead (token.Text t) = other

-- ---- signs

abbrev pub is_left : Token → Bool
is_left (token.Sign sign.LeftParen) = true
is_left t = false

abbrev pub is_right : Token → Bool
is_right (token.Sign sign.RightParen) = true
is_right t = false

abbrev pub is_comma : Token → Bool
is_comma (token.Sign sign.Comma) = true
is_comma t = false

abbrev pub is_star : Token → Bool
is_star (token.Sign sign.Star) = true
is_star t = false

abbrev pub is_equals : Token → Bool
is_equals (token.Sign sign.Eq) = true
is_equals t = false

-- the comparison of a sign
abbrev pub cmp_of : Token → Option Cmp
cmp_of (token.Sign sign.Eq) = Some cmp.Eq
cmp_of (token.Sign sign.Ne) = Some cmp.Ne
cmp_of (token.Sign sign.Lt) = Some cmp.Lt
cmp_of (token.Sign sign.Le) = Some cmp.Le
cmp_of (token.Sign sign.Gt) = Some cmp.Gt
cmp_of (token.Sign sign.Ge) = Some cmp.Ge
cmp_of t = None

-- ---- names, numbers, literals

abbrev pub name_of : Token → Option (List ℕ)
name_of (token.Word w) = cond (is_name w) (Some w) None
name_of (token.Keyword k) = None
name_of (token.Int n) = None
name_of (token.Text t) = None
name_of (token.Sign s) = None

-- a number from low to high
abbrev pub number_of : ℕ → ℕ → Token → Option ℕ
number_of low high (token.Int (pos n)) = cond (nat_le low n && nat_le n high) (Some n) None
number_of low high (token.Int (negsuc n)) = None
number_of low high (token.Keyword k) = None
number_of low high (token.Word w) = None
number_of low high (token.Text t) = None
number_of low high (token.Sign s) = None

abbrev pub lit_of : Token → Option Lit
lit_of (token.Keyword k) = cond (sameb the_type k key.Null) (Some lit.Null) None
lit_of (token.Word w) = None
lit_of (token.Int n) = Some (lit.Int n)
lit_of (token.Text t) = Some (lit.Text t)
lit_of (token.Sign s) = None

abbrev pub level_of : Token → Option Priority
level_of t =
    cond (is_key key.Critical t) (Some level.Critical)
    (cond (is_key key.High t) (Some level.High)
    (cond (is_key key.Medium t) (Some level.Medium)
    (cond (is_key key.Low t) (Some level.Low)
    (cond (is_key key.None t) (Some level.None) None))))

-- ---- their readers

unfoldable pub word_at : Keyword → List Token → Read Token (Unit {0})
word_at k = mark (is_key k)

unfoldable pub name_at : List Token → Read Token (List ℕ)
name_at = one name_of

unfoldable pub number_at : ℕ → ℕ → List Token → Read Token ℕ
number_at low high = one (number_of low high)

unfoldable pub lit_at : List Token → Read Token Lit
lit_at = one lit_of

unfoldable pub cmp_at : List Token → Read Token Cmp
cmp_at = one cmp_of

unfoldable pub level_at : List Token → Read Token Priority
level_at = one level_of

-- a value behind a keyword, and a value before one
abbrev pub after_word : {A : Type 0} → Keyword → (List Token → Read Token A) → List Token → Read Token A
after_word k p = made (λ x. x.1) (both (word_at k) p)

abbrev pub before_word : {A : Type 0} → (List Token → Read Token A) → Keyword → List Token → Read Token A
before_word p k = made (λ x. x.0) (both p (word_at k))

-- the next token is this keyword
abbrev pub begins_with_key : Keyword → List Token → Bool
begins_with_key k [] = false
begins_with_key k (t ∷ ts) = is_key k t
