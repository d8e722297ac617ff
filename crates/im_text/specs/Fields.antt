-- The text of a field: as it is, or between double quotes.
use Rattle.std.specs.Prelude.{◌==◌, ◌||◌, Bool, ℕ, List, [], ◌∷◌, ◌++◌, flat_map, if◌then◌else◌}
use Rattle.std.specs.List.{list_any}

-- a comma, a double quote, CR and LF call for quotes
abbrev pub calls_for_quotes : ℕ → Bool
calls_for_quotes byte = (byte == 44) || (byte == 34) || ((byte == 13) || (byte == 10))

-- a double quote is written twice
abbrev pub doubled : ℕ → List ℕ
doubled byte = if byte == 34 then 34 ∷ 34 ∷ [] else byte ∷ []

-- a field with a byte that calls for quotes stands between double quotes
unfoldable pub field_text : List ℕ → List ℕ
field_text field = if list_any calls_for_quotes field then 34 ∷ (flat_map doubled field ++ 34 ∷ []) else field
