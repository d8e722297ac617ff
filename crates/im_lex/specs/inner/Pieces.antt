-- Texts, piece by piece.
use Rattle.std.specs.Prelude.{ℕ, ◌==◌, Bool, not, List, [], ◌∷◌, Option, Some, None, if◌then◌else◌}
use Rattle.std.specs.Char.{to_ascii_uppercase}
use Rattle.im_lex.specs.Bytes.{is_word_part}
use Rattle.im_lex.specs.declared.front.Piece.{Piece}
use Rattle.im_lex.specs.declared.front.Piece.TheVariants.{Over, End, Byte}

-- what comes next in a text: nothing, its closing quote, or a byte of so many bytes
abbrev pub piece_of : List ℕ → Piece
piece_of [] = Over
piece_of (b ∷ []) = if b == 39 then End else Byte b 1
piece_of (b ∷ c ∷ bs) = if b == 39 then (if c == 39 then Byte 39 2 else End) else Byte b 1

-- no quote, so what follows is not asked
abbrev pub is_plain : ℕ → Bool
is_plain b = not (b == 39)

-- what a byte is in a word, with a letter as its capital
abbrev pub capital_of : ℕ → Option ℕ
capital_of b = if is_word_part b then Some (to_ascii_uppercase b) else None

-- an entry of a table of them, where 0 is none
abbrev pub by_entry : ℕ → Option ℕ
by_entry entry = if entry == 0 then None else Some entry
