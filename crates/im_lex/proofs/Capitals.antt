-- Words in capitals: the table of bytes, and a word that is read byte by byte.
use Rattle.std.proofs.Common.{◌≡◌, ◌<◌, ◌≤◌, ℕ, List, ◌++◌, length, map, take, drop, get_or, Option, None, refl, sym, ap, ◌∙◌, arith}
use Rattle.std.specs.Prelude.{slice_index, ◌==◌, Bool, not, false}
use Rattle.std.specs.List.{range_with_len}
use Rattle.std.specs.Char.{to_ascii_uppercase}
use Rattle.std.proofs.lemmas.List.{get_or-map}
use Rattle.std.proofs.lemmas.List.FromFn.{get_or-map-range_with_len}
use Rattle.im_lex.specs.Bytes.{is_word_part, run}
use Rattle.im_lex.specs.inner.Pieces.{by_entry, capital_of}
use Rattle.im_lex.specs.declared.bytes.TheConstants.{CAPITALS}

-- ---- the table

table_is : map by_entry CAPITALS ≡ map capital_of (range_with_len 0 256)
table_is = refl

pub capital_in_table : (b : ℕ) → b < 256 → by_entry (slice_index CAPITALS b) ≡ capital_of b
capital_in_table b below =
    sym (get_or-map by_entry CAPITALS b 0 None below) ∙ ap (λ (es : List (Option ℕ)). get_or es b None) table_is
    ∙ get_or-map-range_with_len capital_of 0 256 b b None below (omega arith)

-- ---- a word

-- so many bytes go on in the word, and stand in the buffer
pub record SoFarPut (i : ℕ) (bytes first buffer : List ℕ) : Type 0 where
  pub same : length buffer ≡ length first
  pub goes_on : take i bytes ++ run is_word_part (drop i bytes) ≡ run is_word_part bytes
  pub within : i ≤ length buffer
  pub put : take i buffer ≡ map to_ascii_uppercase (take i bytes)

-- a byte goes on in a word exactly where its entry is not 0
parts_are : map (λ (e : ℕ). not (e == 0)) CAPITALS ≡ map is_word_part (range_with_len 0 256)
parts_are = refl

pub part_in_table : (b : ℕ) → b < 256 → not (slice_index CAPITALS b == 0) ≡ is_word_part b
part_in_table b below =
    sym (get_or-map (λ (e : ℕ). not (e == 0)) CAPITALS b 0 false below) ∙ ap (λ (es : List Bool). get_or es b false) parts_are
    ∙ get_or-map-range_with_len is_word_part 0 256 b b false below (omega arith)
