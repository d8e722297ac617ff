-- What one token may be is read as it is spelled.
use Rattle.std.proofs.Common.{◌≡◌, ℕ, ◌≤◌, Bool, true, false, cond, List, [], ◌∷◌, ◌++◌, pos, Option, Some, None, refl, sym, ap, subst, ◌∙◌, arith}
use Rattle.std.specs.Prelude.{◌&&◌, nat_le}
use Rattle.std.proofs.lemmas.Bool.Decides.{nat_tests}
use denote.Enum.Bare.{sameb, same_true, true_same}
use Rattle.im_readers.specs.Reading.{Read}
use Rattle.im_readers.specs.Grammar.{Ends, at_end, at_other, Reads, never, Any}
use Rattle.im_readers.proofs.Parts.{IsMark, IsTable, one_law, mark_law, after_law, before_law}
use Rattle.im_values.specs.declared.comparison.Cmp.{Cmp}
use Rattle.im_values.specs.declared.comparison.Cmp.TheVariants as cmp
use Rattle.im_syntax.specs.declared.keyword.Keyword.{Keyword}
use Rattle.im_syntax.specs.declared.keyword.Keyword.TheVariants as key
use Rattle.im_syntax.specs.contracts.keyword.Keyword.{the_type}
use Rattle.im_syntax.specs.declared.token.Token.{Token}
use Rattle.im_syntax.specs.declared.token.Token.TheVariants as token
use Rattle.im_syntax.specs.declared.token.Sign.TheVariants as sign
use Rattle.im_syntax.specs.declared.literal.Lit.{Lit}
use Rattle.im_syntax.specs.declared.literal.Lit.TheVariants as lit
use Rattle.im_values.specs.declared.priority.Priority.{Priority}
use Rattle.im_values.specs.declared.priority.Priority.TheVariants as level
use Rattle.im_syntax.specs.Keywords.{keyword_of}
use Rattle.im_syntax.specs.Words.{is_name, IsName}
use Rattle.im_syntax.specs.Rules.{IsWithin}
use Rattle.im_syntax.specs.Spelling.{word, comma, number, lit_token, cmp_sign, level_word}
use Rattle.im_parse.specs.inner.Marks.{is_key, Lead, is_left, is_right, is_comma, is_star, is_equals, cmp_of, name_of, number_of, lit_of, level_of, word_at, after_word, before_word, name_at, number_at, lit_at, cmp_at, level_at}

pub Ends-never : {A : Type 0} (a : A) (ts : List Token) → Ends (never a) ts
Ends-never a [] = at_end
Ends-never a (t ∷ ts) = at_other t ts refl

-- ---- keywords and signs

key_only : (k : Keyword) (t : Token) → is_key k t ≡ true → t ≡ word k
key_only k (token.Keyword j) e = ap token.Keyword (same_true the_type tt j k e)
key_only k t e = absurd cc

pub key_mark : (k : Keyword) → IsMark (word k) (is_key k)
key_mark k = record { only = key_only k; itself = true_same the_type k k refl }

left_only : (t : Token) → is_left t ≡ true → t ≡ token.Sign sign.LeftParen
left_only (token.Sign sign.LeftParen) e = refl
left_only t e = absurd cc

pub left_mark : IsMark (token.Sign sign.LeftParen) is_left
left_mark = record { only = left_only; itself = refl }

right_only : (t : Token) → is_right t ≡ true → t ≡ token.Sign sign.RightParen
right_only (token.Sign sign.RightParen) e = refl
right_only t e = absurd cc

pub right_mark : IsMark (token.Sign sign.RightParen) is_right
right_mark = record { only = right_only; itself = refl }

comma_only : (t : Token) → is_comma t ≡ true → t ≡ comma
comma_only (token.Sign sign.Comma) e = refl
comma_only t e = absurd cc

pub comma_mark : IsMark comma is_comma
comma_mark = record { only = comma_only; itself = refl }

star_only : (t : Token) → is_star t ≡ true → t ≡ token.Sign sign.Star
star_only (token.Sign sign.Star) e = refl
star_only t e = absurd cc

pub star_mark : IsMark (token.Sign sign.Star) is_star
star_mark = record { only = star_only; itself = refl }

equals_only : (t : Token) → is_equals t ≡ true → t ≡ token.Sign sign.Eq
equals_only (token.Sign sign.Eq) e = refl
equals_only t e = absurd cc

pub equals_mark : IsMark (token.Sign sign.Eq) is_equals
equals_mark = record { only = equals_only; itself = refl }

pub word_law : (k : Keyword) → Reads (λ (u : Unit {0}). word k ∷ []) Any never (word_at k)
unfolding word_at
word_law k = mark_law (key_mark k)

pub after_word_law : {A : Type 0} {s : A → List Token} {g : A → Type 0} {e : A → Token → Bool} {p : List Token → Read Token A}
    (k : Keyword) → Reads s g e p → Reads (λ a. word k ∷ s a) g e (after_word k p)
unfolding word_at
after_word_law k lp = after_law (key_mark k) lp

pub before_word_law : {A : Type 0} {s : A → List Token} {g : A → Type 0} {e : A → Token → Bool} {p : List Token → Read Token A}
    (k : Keyword) → Reads s g e p → ((a : A) → g a → e a (word k) ≡ false) → Reads (λ a. s a ++ word k ∷ []) g never (before_word p k)
unfolding word_at
before_word_law k lp apart = before_law (key_mark k) lp apart

-- ---- the choice by the next token

-- where a test passes for the first token of each good value, none begins otherwise
pub unknown : {A : Type 0} (known : Lead → Bool) (good : A → Type 0) (first : A → Lead)
    → ((a : A) → good a → known (first a) ≡ true) → (l : Lead) → known l ≡ false → (a : A) → good a → first a ≡ l → ⊥
unknown known good first firsts l fails a g e = let twice : true ≡ false = sym (firsts a g) ∙ ap known e ∙ fails in cc

-- ---- tests of tables

-- what a test that was passed tells
pub chosen : {A : Type 0} (b : Bool) (x a : A) → cond b (Some x) None ≡ Some a → (b ≡ true) × (x ≡ a)
chosen true x a e = (refl, cc)
chosen false x a e = absurd cc

-- ---- names

-- the letter A is a name
pub some_name : IsName (65 ∷ [])
unfolding keyword_of
some_name = record { holds = refl }

name_sound : (t : Token) (a : List ℕ) → name_of t ≡ Some a → (t ≡ token.Word a) × IsName a
name_sound (token.Word w) a e =
    let c = chosen (is_name w) w a e in
    (ap token.Word c.1, subst IsName c.1 (record { holds = c.0 }))
name_sound t a e = absurd cc

name_table : IsTable token.Word IsName name_of
name_table = record {
  some = 65 ∷ [];
  some_good = some_name;
  sound = name_sound;
  whole = λ a n. ap (λ (b : Bool). cond b (Some a) None) n.holds;
}

pub name_law : Reads (λ n. token.Word n ∷ []) IsName never name_at
unfolding name_at
name_law = one_law name_table

-- ---- numbers

within_sound : (low high n a : ℕ) → cond (nat_le low n && nat_le n high) (Some n) None ≡ Some a → (n ≡ a) × IsWithin low high a
within_sound low high n a e =
    let c = chosen (nat_le low n && nat_le n high) n a e in
    let lo : low ≤ n = grind (arith, nat_tests) in
    let hi : n ≤ high = grind (arith, nat_tests) in
    (c.1, subst (IsWithin low high) c.1 (record { low_end = lo; high_end = hi }))

number_sound : (low high : ℕ) (t : Token) (a : ℕ) → number_of low high t ≡ Some a → (t ≡ number a) × IsWithin low high a
number_sound low high (token.Int (pos n)) a e = let w = within_sound low high n a e in (ap number w.0, w.1)
number_sound low high t a e = absurd cc

number_whole : (low high a : ℕ) → IsWithin low high a → number_of low high (number a) ≡ Some a
number_whole low high a w =
    let lo : nat_le low a ≡ true = grind (arith, nat_tests, w.low_end) in
    let hi : nat_le a high ≡ true = grind (arith, nat_tests, w.high_end) in
    rw (lo, hi) refl

number_table : (low high : ℕ) → low ≤ high → IsTable number (IsWithin low high) (number_of low high)
number_table low high le = record {
  some = low;
  some_good = record { low_end = omega arith; high_end = le };
  sound = number_sound low high;
  whole = number_whole low high;
}

pub number_law : (low high : ℕ) → low ≤ high → Reads (λ n. number n ∷ []) (IsWithin low high) never (number_at low high)
unfolding number_at
number_law low high le = one_law (number_table low high le)

-- ---- literals

lit_sound : (t : Token) (a : Lit) → lit_of t ≡ Some a → (t ≡ lit_token a) × Unit {0}
lit_sound (token.Keyword k) a e =
    let c = chosen (sameb the_type k key.Null) lit.Null a e in
    (ap token.Keyword (same_true the_type tt k key.Null c.0) ∙ ap lit_token c.1, tt)
lit_sound (token.Word w) a e = absurd cc
lit_sound (token.Int n) a e = let same : lit.Int n ≡ a = cc in (ap lit_token same, tt)
lit_sound (token.Text x) a e = let same : lit.Text x ≡ a = cc in (ap lit_token same, tt)
lit_sound (token.Sign s) a e = absurd cc

lit_whole : (a : Lit) → Unit {0} → lit_of (lit_token a) ≡ Some a
lit_whole lit.Null u = refl
lit_whole (lit.Int n) u = refl
lit_whole (lit.Text x) u = refl

pub lit_law : Reads (λ v. lit_token v ∷ []) Any never lit_at
unfolding lit_at
lit_law = one_law (record { some = lit.Null; some_good = tt; sound = lit_sound; whole = lit_whole })

-- ---- comparisons

abbrev pub cmp_token : Cmp → Token
cmp_token c = token.Sign (cmp_sign c)

cmp_sound : (t : Token) (a : Cmp) → cmp_of t ≡ Some a → (t ≡ cmp_token a) × Unit {0}
cmp_sound (token.Sign sign.Eq) a e = let same : cmp.Eq ≡ a = cc in (ap cmp_token same, tt)
cmp_sound (token.Sign sign.Ne) a e = let same : cmp.Ne ≡ a = cc in (ap cmp_token same, tt)
cmp_sound (token.Sign sign.Lt) a e = let same : cmp.Lt ≡ a = cc in (ap cmp_token same, tt)
cmp_sound (token.Sign sign.Le) a e = let same : cmp.Le ≡ a = cc in (ap cmp_token same, tt)
cmp_sound (token.Sign sign.Gt) a e = let same : cmp.Gt ≡ a = cc in (ap cmp_token same, tt)
cmp_sound (token.Sign sign.Ge) a e = let same : cmp.Ge ≡ a = cc in (ap cmp_token same, tt)
cmp_sound t a e = absurd cc

pub cmp_whole : (a : Cmp) → Unit {0} → cmp_of (cmp_token a) ≡ Some a
cmp_whole cmp.Eq u = refl
cmp_whole c u = refl

pub cmp_law : Reads (λ c. cmp_token c ∷ []) Any never cmp_at
unfolding cmp_at
cmp_law = one_law (record { some = cmp.Eq; some_good = tt; sound = cmp_sound; whole = cmp_whole })

-- ---- levels

abbrev pub level_token : Priority → Token
level_token l = word (level_word l)

-- a keyword that stands for a value, or the next choice
pub chosen_word : {A : Type 0} (token_of : A → Token) (k : Keyword) (t : Token) (x a : A) (others : Option A) → token_of x ≡ word k
    → (others ≡ Some a → t ≡ token_of a) → cond (is_key k t) (Some x) others ≡ Some a → t ≡ token_of a
chosen_word {A} token_of k t x a others spells next e = go (is_key k t) refl e
  where
    go : (b : Bool) → is_key k t ≡ b → cond b (Some x) others ≡ Some a → t ≡ token_of a
    go true is found = let same : x ≡ a = cc in key_only k t is ∙ sym spells ∙ ap token_of same
    go false is found = next found

level_sound : (t : Token) (a : Priority) → level_of t ≡ Some a → (t ≡ level_token a) × Unit {0}
level_sound t a e = (
  chosen_word level_token key.Critical t level.Critical a _ refl
      (chosen_word level_token key.High t level.High a _ refl
      (chosen_word level_token key.Medium t level.Medium a _ refl
      (chosen_word level_token key.Low t level.Low a _ refl
      (chosen_word level_token key.None t level.None a None refl (λ none. absurd cc))))) e,
  tt,
)

level_whole : (a : Priority) → Unit {0} → level_of (level_token a) ≡ Some a
level_whole level.Critical u = refl
level_whole l u = refl

pub level_law : Reads (λ l. level_token l ∷ []) Any never level_at
unfolding level_at
level_law = one_law (record { some = level.None; some_good = tt; sound = level_sound; whole = level_whole })
