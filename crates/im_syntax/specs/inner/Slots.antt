-- Where the look-up of a keyword begins: a slot of the word, in which one keyword may stand.
use Rattle.std.specs.Prelude.{ℕ, ◌+◌, ◌-◌, ◌*◌, ◌%◌, List, length, slice_index, slice_get, Option, Some, None, cond}
use Rattle.std.specs.Str.{bytes_eq}
use Rattle.im_syntax.specs.declared.keyword.Keyword.{Keyword}

-- the slot of a word, by its first byte, its second, its last one and its length
abbrev pub slot_of : List ℕ → ℕ
slot_of word = (slice_index word 0 * 35 + slice_index word 1 * 8 + slice_index word (length word - 1) * 58 + length word) % 256

-- the keyword of an entry that may be there, where the word has its letters
abbrev pub if_spelled : Option (List ℕ × Keyword) → List ℕ → Option Keyword
if_spelled None word = None
if_spelled (Some entry) word = cond (bytes_eq entry.0 word) (Some entry.1) None

-- the keyword at a place of a table, where the word has its letters
abbrev pub keyword_at : List (List ℕ × Keyword) → ℕ → List ℕ → Option Keyword
keyword_at table place word = if_spelled (slice_get table place) word
