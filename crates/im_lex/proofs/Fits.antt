-- A token that stands at the front has no more bytes than there are.
use Rattle.std.proofs.Common.{◌≡◌, ℕ, suc, ◌+◌, ◌-◌, ◌<◌, ◌≤◌, Bool, true, false, cond, List, [], ◌∷◌, length, Option, Some, None, refl, subst, arith}
use Rattle.std.proofs.Common.{◌^◌}
use Rattle.std.proofs.lemmas.Bool.Decides.{nat_tests}
use Rattle.std.specs.Prelude.{◌==◌, nat_le}
use Rattle.std.specs.Char.{is_ascii_alphabetic, is_ascii_digit}
use Rattle.im_values.specs.declared.limits.TheConstants.{MOST_WORD_BYTES}
use Rattle.im_syntax.specs.declared.token.Token.{Token}
use Rattle.im_syntax.specs.declared.token.Token.TheVariants as token
use Rattle.im_syntax.specs.declared.token.Sign.{Sign}
use Rattle.im_syntax.specs.declared.token.Sign.TheVariants as sign
use Rattle.im_lex.specs.declared.front.Front.{Front}
use Rattle.im_lex.specs.declared.front.Front.TheVariants.{Stop, Blank, Bad, Lexed}
use Rattle.im_lex.specs.Bytes.{is_blank, is_word_part, value_of, run, first, minus_front, with_byte, text_of, text_found, less_front, greater_front, bang_front, sign_front, only_ends, front_at, front}

pub data FitsFront (n : ℕ) : Front → Type 0 where
  stop_fits : FitsFront n Stop
  bad_fits : FitsFront n Bad
  blank_fits : FitsFront n Blank
  token_fits : (t : Token) (more : ℕ) → suc more ≤ n → FitsFront n (Lexed t more)

either_fits : {n : ℕ} {x y : Front} (b : Bool) → FitsFront n x → FitsFront n y → FitsFront n (cond b x y)
either_fits true p q = p
either_fits false p q = q

length-run : (test : ℕ → Bool) (bs : List ℕ) → length (run test bs) ≤ length bs
length-run test [] = omega arith
length-run test (b ∷ bs) = go (test b) (length-run test bs)
  where
    go : (is : Bool) → length (run test bs) ≤ length bs → length (cond is (b ∷ run test bs) []) ≤ length (b ∷ bs)
    go true le = omega arith
    go false le = omega arith

data FitsText (n : ℕ) : Option (List ℕ × ℕ) → Type 0 where
  no_text : FitsText n None
  some_text : (text : List ℕ) (more : ℕ) → more ≤ n → FitsText n (Some (text, more))

with_byte_fits : (b taken m n : ℕ) (o : Option (List ℕ × ℕ)) → taken + m ≤ n → FitsText m o → FitsText n (with_byte b taken o)
with_byte_fits b taken m n None le no_text = no_text
with_byte_fits b taken m n (Some p) le (some_text text more less) = some_text (b ∷ text) (taken + more) (omega arith)

text_cases : {n : ℕ} {x y : Option (List ℕ × ℕ)} (b : Bool) → FitsText n x → FitsText n y → FitsText n (cond b x y)
text_cases true p q = p
text_cases false p q = q

text_fits : (bs : List ℕ) → FitsText (length bs) (text_of bs)
unfolding text_of
text_fits [] = no_text
text_fits (b ∷ []) = text_cases (b == 39) (some_text [] 1 (omega arith)) no_text
text_fits (b ∷ c ∷ bs) =
    text_cases (b == 39)
    (text_cases (c == 39) (with_byte_fits 39 2 (length bs) (length (b ∷ c ∷ bs)) (text_of bs) (omega arith) (text_fits bs)) (some_text [] 1 (omega arith)))
    (with_byte_fits b 1 (length (c ∷ bs)) (length (b ∷ c ∷ bs)) (text_of (c ∷ bs)) (omega arith) (text_fits (c ∷ bs)))

found_fits : (n : ℕ) (o : Option (List ℕ × ℕ)) → FitsText n o → FitsFront (suc n) (text_found o)
found_fits n None no_text = bad_fits
found_fits n (Some p) (some_text text more le) = token_fits (token.Text text) more (omega arith)

-- two bytes stand there where the second is not 0
two_bytes : (bs : List ℕ) (b : ℕ) → 0 < b → (first bs == b) ≡ true → 1 ≤ length bs
two_bytes [] b lt e = absurd (let same : 0 ≡ b = grind (arith, nat_tests) in omega arith)
two_bytes (c ∷ bs) b lt e = omega arith

two_fit : (bs : List ℕ) (b : ℕ) (x y : Front) → 0 < b → (1 ≤ length bs → FitsFront (suc (length bs)) x) → FitsFront (suc (length bs)) y
    → FitsFront (suc (length bs)) (cond (first bs == b) x y)
two_fit bs b x y lt p q = go (first bs == b) refl
  where
    go : (is : Bool) → (first bs == b) ≡ is → FitsFront (suc (length bs)) (cond is x y)
    go true e = p (two_bytes bs b lt e)
    go false e = q

less_fits : (bs : List ℕ) → FitsFront (suc (length bs)) (less_front (first bs))
less_fits bs =
    two_fit bs 61 _ _ (omega arith) (λ le. token_fits (token.Sign sign.Le) 1 (omega arith))
    (two_fit bs 62 _ _ (omega arith) (λ le. token_fits (token.Sign sign.Ne) 1 (omega arith)) (token_fits (token.Sign sign.Lt) 0 (omega arith)))

greater_fits : (bs : List ℕ) → FitsFront (suc (length bs)) (greater_front (first bs))
greater_fits bs = two_fit bs 61 _ _ (omega arith) (λ le. token_fits (token.Sign sign.Ge) 1 (omega arith)) (token_fits (token.Sign sign.Gt) 0 (omega arith))

bang_fits : (bs : List ℕ) → FitsFront (suc (length bs)) (bang_front (first bs))
bang_fits bs = two_fit bs 61 _ _ (omega arith) (λ le. token_fits (token.Sign sign.Ne) 1 (omega arith)) bad_fits

one_fits : (n : ℕ) (s : Sign) → FitsFront (suc n) (Lexed (token.Sign s) 0)
one_fits n s = token_fits (token.Sign s) 0 (omega arith)

sign_fits : (b : ℕ) (bs : List ℕ) → FitsFront (suc (length bs)) (sign_front b (first bs))
sign_fits b bs =
    let n : ℕ = length bs in
    either_fits (b == 40) (one_fits n sign.LeftParen)
    (either_fits (b == 41) (one_fits n sign.RightParen)
    (either_fits (b == 44) (one_fits n sign.Comma)
    (either_fits (b == 42) (one_fits n sign.Star)
    (either_fits (b == 61) (one_fits n sign.Eq)
    (either_fits (b == 60) (less_fits bs)
    (either_fits (b == 62) (greater_fits bs)
    (either_fits (b == 33) (bang_fits bs) bad_fits)))))))

minus_fits : (bs : List ℕ) → FitsFront (suc (length bs)) (minus_front bs)
minus_fits bs =
    let le = length-run is_ascii_digit bs in
    either_fits (first bs == 45) stop_fits
    (either_fits (is_ascii_digit (first bs))
    (either_fits (nat_le (value_of (run is_ascii_digit bs)) (2 ^ 63)) (token_fits _ (length (run is_ascii_digit bs)) (omega arith)) bad_fits) bad_fits)

run_fits : (test : ℕ → Bool) (b : ℕ) (bs : List ℕ) → suc (length (run test (b ∷ bs)) - 1) ≤ suc (length bs)
run_fits test b bs = let le = length-run test (b ∷ bs) in omega arith

front_at_fits : (b : ℕ) (bs : List ℕ) → FitsFront (suc (length bs)) (front_at b bs)
front_at_fits b bs =
    either_fits (is_blank b) blank_fits
    (either_fits (is_ascii_alphabetic b)
    (either_fits (nat_le (length (run is_word_part (b ∷ bs))) MOST_WORD_BYTES)
    (token_fits _ (length (run is_word_part (b ∷ bs)) - 1) (run_fits is_word_part b bs)) bad_fits)
    (either_fits (is_ascii_digit b)
    (either_fits (nat_le (value_of (run is_ascii_digit (b ∷ bs))) (2 ^ 63 - 1))
    (token_fits _ (length (run is_ascii_digit (b ∷ bs)) - 1) (run_fits is_ascii_digit b bs)) bad_fits)
    (either_fits (b == 45) (minus_fits bs)
    (either_fits (b == 39) (found_fits (length bs) (text_of bs) (text_fits bs))
    (either_fits (b == 59) (either_fits (only_ends bs) stop_fits bad_fits) (sign_fits b bs))))))

front_all_fits : (bs : List ℕ) → FitsFront (length bs) (front bs)
unfolding front
front_all_fits [] = stop_fits
front_all_fits (b ∷ bs) = front_at_fits b bs

fits_is : (n : ℕ) (t : Token) (more : ℕ) → FitsFront n (Lexed t more) → suc more ≤ n
fits_is n t more (token_fits t2 more2 le) = le

pub token_all_fits : (bs : List ℕ) (t : Token) (more : ℕ) → front bs ≡ Lexed t more → suc more ≤ length bs
token_all_fits bs t more e = fits_is (length bs) t more (subst (λ (f : Front). FitsFront (length bs) f) e (front_all_fits bs))

pub blank_all_fits : (bs : List ℕ) → front bs ≡ Blank → 1 ≤ length bs
unfolding front
blank_all_fits [] e = absurd cc
blank_all_fits (b ∷ bs) e = omega arith
