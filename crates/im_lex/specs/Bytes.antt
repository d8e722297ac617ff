-- What stands at the front of the bytes of a line.
use Rattle.std.specs.Prelude.{ℕ, ◌+◌, ◌-◌, ◌*◌, ◌^◌, pos, neg_ℤ, Bool, true, false, ◌||◌, ◌==◌, nat_le, List, [], ◌∷◌, length, map, Option, Some, None, if◌then◌else◌, fold}
use Rattle.std.specs.Char.{is_ascii_alphabetic, is_ascii_digit, to_ascii_uppercase}
use Rattle.im_values.specs.declared.limits.TheConstants.{MOST_WORD_BYTES}
use Rattle.im_syntax.specs.Keywords.{keyword_of}
use Rattle.im_syntax.specs.declared.keyword.Keyword.{Keyword}
use Rattle.im_syntax.specs.declared.token.Token.{Token}
use Rattle.im_syntax.specs.declared.token.Token.TheVariants as token
use Rattle.im_syntax.specs.declared.token.Sign.TheVariants as sign
use Rattle.im_lex.specs.declared.front.Front.{Front}
use Rattle.im_lex.specs.declared.front.Front.TheVariants.{Stop, Blank, Bad, Lexed}

-- space, tab and CR
abbrev pub is_blank : ℕ → Bool
is_blank b = b == 32 || b == 9 || b == 13

-- what goes on in a word: a letter, a digit, '_', '$' or '#'
abbrev pub is_word_part : ℕ → Bool
is_word_part b = is_ascii_alphabetic b || is_ascii_digit b || b == 95 || b == 36 || b == 35

-- the longest prefix of bytes that pass a test
abbrev pub run : (ℕ → Bool) → List ℕ → List ℕ
run test [] = []
run test (b ∷ bs) = if test b then b ∷ run test bs else []

-- the first byte, or 0 where there is none
abbrev pub first : List ℕ → ℕ
first [] = 0
first (b ∷ bs) = b

-- ---- words

-- a word that is a keyword, or is not
abbrev pub token_by : Option Keyword → List ℕ → Token
token_by None w = token.Word w
token_by (Some k) w = token.Keyword k

-- the token of a word in capitals
abbrev pub word_token : List ℕ → Token
word_token w = token_by (keyword_of w) w

-- a word with its letters as capitals, where it is not too long
abbrev pub word_front : List ℕ → Front
word_front w =
    if nat_le (length w) MOST_WORD_BYTES then Lexed (word_token (map to_ascii_uppercase w)) (length w - 1) else Bad

-- ---- numbers

-- the number of digits
abbrev pub value_of : List ℕ → ℕ
value_of digits = fold (λ v d. 10 * v + (d - 48)) 0 digits

-- a number without a sign, where it lies in 64 bits
abbrev pub positive_front : List ℕ → Front
positive_front digits =
    if nat_le (value_of digits) (2 ^ 63 - 1) then Lexed (token.Int (pos (value_of digits))) (length digits - 1) else Bad

-- the same behind a minus
abbrev pub negative_front : List ℕ → Front
negative_front digits =
    if nat_le (value_of digits) (2 ^ 63) then Lexed (token.Int (neg_ℤ (pos (value_of digits)))) (length digits) else Bad

-- behind a minus stand another one and a comment, or digits
abbrev pub minus_front : List ℕ → Front
minus_front bs =
    if first bs == 45 then Stop
    else (if is_ascii_digit (first bs) then negative_front (run is_ascii_digit bs)
    else Bad)

-- ---- texts

-- one byte more of a text
abbrev pub with_byte : ℕ → ℕ → Option (List ℕ × ℕ) → Option (List ℕ × ℕ)
with_byte b taken None = None
with_byte b taken (Some (text, more)) = Some (b ∷ text, taken + more)

-- Behind the opening quote: the text, and how many bytes it takes with its closing quote. Two quotes are one.
unfoldable pub text_of : List ℕ → Option (List ℕ × ℕ)
text_of [] = None
text_of (b ∷ []) = if b == 39 then Some ([], 1) else None
text_of (b ∷ c ∷ bs) =
    if b == 39 then (if c == 39 then with_byte 39 2 (text_of bs) else Some ([], 1))
    else with_byte b 1 (text_of (c ∷ bs))

abbrev pub text_found : Option (List ℕ × ℕ) → Front
text_found None = Bad
text_found (Some (text, more)) = Lexed (token.Text text) more

-- ---- signs

abbrev pub less_front : ℕ → Front
less_front next =
    if next == 61 then Lexed (token.Sign sign.Le) 1
    else (if next == 62 then Lexed (token.Sign sign.Ne) 1
    else Lexed (token.Sign sign.Lt) 0)

abbrev pub greater_front : ℕ → Front
greater_front next = if next == 61 then Lexed (token.Sign sign.Ge) 1 else Lexed (token.Sign sign.Gt) 0

abbrev pub bang_front : ℕ → Front
bang_front next = if next == 61 then Lexed (token.Sign sign.Ne) 1 else Bad

-- a sign by its first byte and the next
abbrev pub sign_front : ℕ → ℕ → Front
sign_front b next =
    if b == 40 then Lexed (token.Sign sign.LeftParen) 0
    else (if b == 41 then Lexed (token.Sign sign.RightParen) 0
    else (if b == 44 then Lexed (token.Sign sign.Comma) 0
    else (if b == 42 then Lexed (token.Sign sign.Star) 0
    else (if b == 61 then Lexed (token.Sign sign.Eq) 0
    else (if b == 60 then less_front next
    else (if b == 62 then greater_front next
    else (if b == 33 then bang_front next
    else Bad)))))))

-- ---- the end of a line

abbrev pub begins_comment : List ℕ → Bool
begins_comment [] = false
begins_comment (b ∷ bs) = if b == 45 then first bs == 45 else false

-- only blanks stand there, and perhaps a comment
abbrev pub only_ends : List ℕ → Bool
only_ends [] = true
only_ends (b ∷ bs) = if is_blank b then only_ends bs else begins_comment (b ∷ bs)

-- ---- the front

-- what stands at the front, by the first byte
abbrev pub front_at : ℕ → List ℕ → Front
front_at b bs =
    if is_blank b then Blank
    else (if is_ascii_alphabetic b then word_front (run is_word_part (b ∷ bs))
    else (if is_ascii_digit b then positive_front (run is_ascii_digit (b ∷ bs))
    else (if b == 45 then minus_front bs
    else (if b == 39 then text_found (text_of bs)
    else (if b == 59 then (if only_ends bs then Stop else Bad)
    else sign_front b (first bs))))))

unfoldable pub front : List ℕ → Front
front [] = Stop
front (b ∷ bs) = front_at b bs
