-- The cells of an answer as fields.
use Rattle.std.specs.Prelude.{ℕ, List, [], ◌∷◌, map, codes}
use Rattle.std.specs.Fmt.{signed_decimal}
use Rattle.im_group.specs.declared.cell.Cell.{Cell}
use Rattle.im_group.specs.declared.cell.Cell.TheVariants.{Int, Text, Null}

-- a number in decimal, a text as it is, NULL as nothing
abbrev pub cell_field : Cell → List ℕ
cell_field (Int number) = signed_decimal number
cell_field (Text text) = text
cell_field Null = []

-- a record of an answer
abbrev pub row_record : List Cell → List (List ℕ)
row_record cells = codes "row" ∷ map cell_field cells
