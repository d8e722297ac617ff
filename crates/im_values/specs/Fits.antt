-- Which rows may stand in a table.
use Rattle.std.specs.Prelude.{Bool, true, false, ◌&&◌, List, [], ◌∷◌, length, nat_le}
use Rattle.im_values.specs.declared.schema.Kind.{Kind}
use Rattle.im_values.specs.declared.schema.Kind.TheVariants as kind
use Rattle.im_values.specs.declared.schema.Column.{Column}
use Rattle.im_values.specs.declared.content.Content.{Content as Value}
use Rattle.im_values.specs.declared.content.Content.TheVariants.{Int, Text, Null}

-- NULL stands in each column, a number in one of numbers, a text in one of texts that are as long
abbrev pub may_stand : Kind → Value → Bool
may_stand kind.Int (Int n) = true
may_stand kind.Int (Text t) = false
may_stand kind.Int Null = true
may_stand (kind.Text limit) (Int n) = false
may_stand (kind.Text limit) (Text t) = nat_le (length t) limit
may_stand (kind.Text limit) Null = true

-- a value for each column, each of which may stand there
abbrev pub fits : List Value → List Column → Bool
fits [] [] = true
fits [] (column ∷ columns) = false
fits (value ∷ values) [] = false
fits (value ∷ values) (column ∷ columns) = may_stand column.kind value && fits values columns

-- the values may stand in the first columns: so it is of a row that a table took when it had no other columns
abbrev pub fits_first : List Value → List Column → Bool
fits_first [] columns = true
fits_first (value ∷ values) [] = false
fits_first (value ∷ values) (column ∷ columns) = may_stand column.kind value && fits_first values columns
