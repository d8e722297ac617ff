-- A text, piece by piece.
use Rattle.std.proofs.Common.{◌≡◌, ℕ, suc, ◌+◌, ◌≤◌, Bool, true, false, cond, not, take, List, [], ◌∷◌, ◌++◌, length, drop, Option, Some, None, refl, sym, ap, ◌∙◌, append_assoc, arith}
use Rattle.std.specs.Prelude.{◌==◌}
use Rattle.std.proofs.lemmas.List.{append-nil, drop-drop, drop_all}
use Rattle.im_lex.specs.declared.front.Piece.{Piece}
use Rattle.im_lex.specs.declared.front.Piece.TheVariants.{Over, End, Byte}
use Rattle.im_lex.specs.Bytes.{run, with_byte, text_of}
use Rattle.im_lex.specs.inner.Pieces.{piece_of, is_plain}

-- what was read before, and what is still read
abbrev pub with_text : List ℕ → ℕ → Option (List ℕ × ℕ) → Option (List ℕ × ℕ)
with_text front taken None = None
with_text front taken (Some (text, more)) = Some (front ++ text, taken + more)

by_piece : Piece → List ℕ → Option (List ℕ × ℕ)
by_piece Over bs = None
by_piece End bs = Some ([], 1)
by_piece (Byte b n) bs = with_byte b n (text_of (drop n bs))

last_piece : (b : ℕ) (is : Bool) → cond is (Some ([], 1)) None ≡ by_piece (cond is End (Byte b 1)) (b ∷ [])
unfolding text_of by_piece
last_piece b true = refl
last_piece b false = refl

two_pieces : (b c : ℕ) (bs : List ℕ) (is also : Bool)
    → cond is (cond also (with_byte 39 2 (text_of bs)) (Some ([], 1))) (with_byte b 1 (text_of (c ∷ bs)))
    ≡ by_piece (cond is (cond also (Byte 39 2) End) (Byte b 1)) (b ∷ c ∷ bs)
unfolding by_piece
two_pieces b c bs true true = refl
two_pieces b c bs true false = refl
two_pieces b c bs false also = refl

text_of-piece : (bs : List ℕ) → text_of bs ≡ by_piece (piece_of bs) bs
unfolding text_of by_piece
text_of-piece [] = refl
text_of-piece (b ∷ []) = last_piece b (b == 39)
text_of-piece (b ∷ c ∷ bs) = two_pieces b c bs (b == 39) (c == 39)

-- a byte of a text takes a byte or more, all of which stand there
pub record Fits (n most : ℕ) : Type 0 where
  pub some : 1 ≤ n
  pub all : n ≤ most

last_fits : (b c n : ℕ) (is : Bool) → cond is End (Byte c 1) ≡ Byte b n → Fits n 1
last_fits b c n true e = absurd cc
last_fits b c n false e = let same : 1 ≡ n = cc in record { some = omega arith; all = omega arith }

two_fits : (a b n most : ℕ) (is also : Bool) → cond is (cond also (Byte 39 2) End) (Byte a 1) ≡ Byte b n → Fits n (2 + most)
two_fits a b n most true true e = let same : 2 ≡ n = cc in record { some = omega arith; all = omega arith }
two_fits a b n most true false e = absurd cc
two_fits a b n most false also e = let same : 1 ≡ n = cc in record { some = omega arith; all = omega arith }

pub piece_fits : (bs : List ℕ) (b n : ℕ) → piece_of bs ≡ Byte b n → Fits n (length bs)
piece_fits [] b n e = absurd cc
piece_fits (a ∷ []) b n e = last_fits b a n (a == 39) e
piece_fits (a ∷ c ∷ bs) b n e =
    let f = two_fits a b n (length bs) (a == 39) (c == 39) e in
    record { some = f.some; all = omega arith }

with_text-byte : (front : List ℕ) (taken b n : ℕ) (o : Option (List ℕ × ℕ))
    → with_text front taken (with_byte b n o) ≡ with_text (front ++ b ∷ []) (taken + n) o
with_text-byte front taken b n None = refl
with_text-byte front taken b n (Some (text, more)) =
    let place : taken + (n + more) ≡ taken + n + more = omega arith in
    ap (λ (k : ℕ). Some (front ++ b ∷ text, k)) place ∙ ap (λ (x : List ℕ). Some (x, taken + n + more)) (sym (append_assoc front (b ∷ []) text))

module _ (front : List ℕ) (taken : ℕ) (bs : List ℕ) (total : Option (List ℕ × ℕ)) (so_far : with_text front taken (text_of (drop taken bs)) ≡ total) where
  pub at_over : piece_of (drop taken bs) ≡ Over → total ≡ None
  unfolding by_piece
  at_over e = sym so_far ∙ ap (with_text front taken) (text_of-piece (drop taken bs) ∙ ap (λ (p : Piece). by_piece p (drop taken bs)) e)

  pub at_end : piece_of (drop taken bs) ≡ End → total ≡ Some (front, taken + 1)
  unfolding by_piece
  at_end e =
      sym so_far ∙ ap (with_text front taken) (text_of-piece (drop taken bs) ∙ ap (λ (p : Piece). by_piece p (drop taken bs)) e)
      ∙ ap (λ (x : List ℕ). Some (x, taken + 1)) (append-nil front)

  pub at_byte : (b n : ℕ) → piece_of (drop taken bs) ≡ Byte b n → with_text (front ++ b ∷ []) (taken + n) (text_of (drop (taken + n) bs)) ≡ total
  unfolding by_piece
  at_byte b n e =
      ap (λ (x : List ℕ). with_text (front ++ b ∷ []) (taken + n) (text_of x)) (sym (drop-drop n taken bs))
      ∙ sym (with_text-byte front taken b n (text_of (drop n (drop taken bs))))
      ∙ ap (with_text front taken) (sym (text_of-piece (drop taken bs) ∙ ap (λ (p : Piece). by_piece p (drop taken bs)) e))
      ∙ so_far

  pub at_all : length bs ≤ taken → total ≡ None
  unfolding text_of
  at_all le = sym so_far ∙ ap (λ (x : List ℕ). with_text front taken (text_of x)) (drop_all taken bs le)

-- ---- a text up to its first quote

with_text-none : (o : Option (List ℕ × ℕ)) → o ≡ with_text [] 0 o
with_text-none None = refl
with_text-none (Some (text, more)) = let place : more ≡ 0 + more = omega arith in ap (λ (k : ℕ). Some (text, k)) place

with_byte-text : (b : ℕ) (front : List ℕ) (taken : ℕ) (o : Option (List ℕ × ℕ)) → with_byte b 1 (with_text front taken o) ≡ with_text (b ∷ front) (suc taken) o
with_byte-text b front taken None = refl
with_byte-text b front taken (Some (text, more)) =
    let place : 1 + (taken + more) ≡ suc taken + more = omega arith in
    ap (λ (k : ℕ). Some (b ∷ (front ++ text), k)) place

text_of-next : (b : ℕ) (bs : List ℕ) → (b == 39) ≡ false → text_of (b ∷ bs) ≡ with_byte b 1 (text_of bs)
unfolding text_of
text_of-next b [] e = rw e refl
text_of-next b (c ∷ bs) e = rw e refl

-- the bytes before the first quote, and how many they are
abbrev plain_of : List ℕ → List ℕ
plain_of bs = run is_plain bs

-- a text is what stands before its first quote, and then the rest
abbrev SplitsAt : List ℕ → List ℕ → Type 0
SplitsAt bs plain = text_of bs ≡ with_text plain (length plain) (text_of (drop (length plain) bs))

plain_next : (b : ℕ) (bs : List ℕ) (is : Bool) → (b == 39) ≡ is → SplitsAt bs (plain_of bs) → SplitsAt (b ∷ bs) (cond (not is) (b ∷ plain_of bs) [])
plain_next b bs true e rest = with_text-none (text_of (b ∷ bs))
plain_next b bs false e rest =
    text_of-next b bs e ∙ ap (with_byte b 1) rest ∙ with_byte-text b (plain_of bs) (length (plain_of bs)) (text_of (drop (length (plain_of bs)) bs))

text_of-plain : (bs : List ℕ) → SplitsAt bs (plain_of bs)
text_of-plain [] = with_text-none (text_of [])
text_of-plain (b ∷ bs) = plain_next b bs (b == 39) refl (text_of-plain bs)

take-next : (b : ℕ) (bs plain : List ℕ) (is : Bool) → take (length plain) bs ≡ plain
    → take (length (cond is (b ∷ plain) [])) (b ∷ bs) ≡ cond is (b ∷ plain) []
take-next b bs plain true rest = ap (λ (x : List ℕ). b ∷ x) rest
take-next b bs plain false rest = refl

take-plain : (bs : List ℕ) → take (length (plain_of bs)) bs ≡ plain_of bs
take-plain [] = refl
take-plain (b ∷ bs) = take-next b bs (plain_of bs) (is_plain b) (take-plain bs)

module _ (bs : List ℕ) (plain : ℕ) (is : plain ≡ length (run is_plain bs)) where
  plain_so_far : with_text (take plain bs) plain (text_of (drop plain bs)) ≡ text_of bs
  plain_so_far = rw (is, take-plain bs) (sym (text_of-plain bs))

  pub plain_over : piece_of (drop plain bs) ≡ Over → text_of bs ≡ None
  plain_over e = at_over (take plain bs) plain bs (text_of bs) plain_so_far e

  pub plain_end : piece_of (drop plain bs) ≡ End → text_of bs ≡ Some (take plain bs, plain + 1)
  plain_end e = at_end (take plain bs) plain bs (text_of bs) plain_so_far e
