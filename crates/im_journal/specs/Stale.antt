-- Notes of touched rows, and the rows that are stale at an SCN.
use Rattle.std.specs.Prelude.{◌≡◌, ℕ, ◌==◌, Bool, List, [], ◌∷◌, ◌++◌, fold, filter, map, length, nat_le, nat_lt, Option, slice_get, ◌-◌, if◌then◌else◌}
use Rattle.std.specs.List.{list_any}
use Rattle.std.specs.List.Sorted.{IsNonDecreasingBy}
use Rattle.std.specs.Option.{option_map}

-- a row number, and the SCN of a commit that touched the row
abbrev pub Note : Type 0
Note = ℕ × ℕ

-- a journal as contracts see it: the first note of each row number, in the order in which they came, and how many
-- notes can still be made without memory
pub record Notes : Type 0 where
  pub notes : List Note
  pub spare : ℕ

-- the SCN of the last note
abbrev pub last_scn : List Note → Option ℕ
last_scn notes = option_map (λ note. note.1) (slice_get notes (length notes - 1))

-- the row number was noted
abbrev pub is_noted : List Note → ℕ → Bool
is_noted notes row = list_any (λ note. row == note.0) notes

-- one note more, where it is the first of its row number
abbrev pub noted : List Note → Note → List Note
noted notes note = if is_noted notes note.0 then notes else notes ++ note ∷ []

-- the first note of each row number
abbrev pub first_notes : List Note → List Note
first_notes notes = fold noted [] notes

-- the row numbers of notes
abbrev pub rows_of : List Note → List ℕ
rows_of notes = map (λ note. note.0) notes

-- the notes at or below an SCN
abbrev pub notes_to : ℕ → List Note → List Note
notes_to scn notes = filter (λ note. nat_le note.1 scn) notes

-- the number stands in the list
abbrev pub is_in : List ℕ → ℕ → Bool
is_in numbers number = list_any (λ other. other == number) numbers

-- a number put into a rising list, unless it stands there
abbrev pub put : ℕ → List ℕ → List ℕ
put n [] = n ∷ []
put n (m ∷ ms) = if nat_lt n m then n ∷ m ∷ ms else (if n == m then m ∷ ms else m ∷ put n ms)

-- the rising list of the distinct numbers of a list
abbrev pub rising : List ℕ → List ℕ
rising [] = []
rising (n ∷ ns) = put n (rising ns)

-- the row numbers that were noted at any SCN, rising
abbrev pub stale_rows : List Note → List ℕ
stale_rows notes = rising (rows_of notes)

-- the row numbers that were noted at or below an SCN, rising
abbrev pub stale_rows_at : List Note → ℕ → List ℕ
stale_rows_at notes scn = stale_rows (notes_to scn notes)

-- where the SCNs do not fall, the first notes make the same rows stale as all notes do, at each SCN and at all
pub record FirstNotesSuffice (notes : List Note) : Type 0 where
  pub at : (scn : ℕ) → IsNonDecreasingBy (λ note. note.1) notes → stale_rows_at (first_notes notes) scn ≡ stale_rows_at notes scn
  pub ever : IsNonDecreasingBy (λ note. note.1) notes → stale_rows (first_notes notes) ≡ stale_rows notes
