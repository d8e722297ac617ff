-- Words and names.
use Rattle.std.specs.Prelude.{◌≡◌, ℕ, Bool, true, false, ◌&&◌, ◌||◌, ◌==◌, nat_le, List, [], ◌∷◌, length, is_none}
use Rattle.std.specs.List.{list_all}
use Rattle.std.specs.Char.{is_ascii_uppercase, is_ascii_digit}
use Rattle.im_values.specs.declared.limits.TheConstants.{MOST_WORD_BYTES}
use Rattle.im_syntax.specs.Keywords.{keyword_of}

-- a byte that goes on in a word: a capital, a digit, '_', '$' or '#'
abbrev pub is_word_byte : ℕ → Bool
is_word_byte b = is_ascii_uppercase b || is_ascii_digit b || b == 95 || b == 36 || b == 35

-- a capital, then bytes of words, not too many in all
abbrev pub is_word : List ℕ → Bool
is_word [] = false
is_word (b ∷ bs) = is_ascii_uppercase b && nat_le (length (b ∷ bs)) MOST_WORD_BYTES && list_all is_word_byte bs

-- a word that is no keyword
abbrev pub is_name : List ℕ → Bool
is_name w = is_word w && is_none (keyword_of w)

pub record IsName (w : List ℕ) : Type 0 where
  pub holds : is_name w ≡ true
