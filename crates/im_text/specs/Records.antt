-- The text of records: fields with commas between them, a line feed behind each record.
use Rattle.std.specs.Prelude.{ℕ, List, [], ◌∷◌, ◌++◌, flat_map, decimal}
use Rattle.im_text.specs.Fields.{field_text}

-- fields behind others, each after a comma
abbrev pub further : List (List ℕ) → List ℕ
further fields = flat_map (λ field. 44 ∷ field_text field) fields

-- a record, which ends its line
unfoldable pub record_text : List (List ℕ) → List ℕ
record_text [] = 10 ∷ []
record_text (first ∷ rest) = field_text first ++ (further rest ++ 10 ∷ [])

-- records, each of which begins with the number of a line
abbrev pub numbered : ℕ → List (List (List ℕ)) → List ℕ
numbered line records = flat_map (λ fields. record_text (decimal line ∷ fields)) records

-- records, one behind another
abbrev pub records_text : List (List (List ℕ)) → List ℕ
records_text records = flat_map record_text records
