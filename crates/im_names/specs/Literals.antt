-- What a literal stands for, and in which columns it may stand.
use Rattle.std.specs.Prelude.{ℕ, Bool, true, false, List, [], ◌∷◌, length, nat_le, Option, Some, None, if◌then◌else◌}
use Rattle.std.specs.Option.{option_or}
use Rattle.im_values.specs.declared.schema.Kind.{Kind}
use Rattle.im_values.specs.declared.schema.Kind.TheVariants as kind
use Rattle.im_values.specs.declared.schema.Column.{Column}
use Rattle.im_values.specs.declared.content.Content.{Content as Value}
use Rattle.im_values.specs.declared.content.Content.TheVariants as value
use Rattle.im_syntax.specs.declared.literal.Lit.{Lit}
use Rattle.im_syntax.specs.declared.literal.Lit.TheVariants as lit
use Rattle.im_names.specs.declared.fault.NameFault.{NameFault}
use Rattle.im_names.specs.declared.fault.NameFault.TheVariants.{WrongKind, TooLong}

-- a text of length zero is NULL
abbrev pub text_value : List ℕ → Value
text_value [] = value.Null
text_value (b ∷ bs) = value.Text (b ∷ bs)

-- the value of a literal
abbrev pub value_of : Lit → Value
value_of lit.Null = value.Null
value_of (lit.Int n) = value.Int n
value_of (lit.Text t) = text_value t

-- the default of a column: NULL where none is written
abbrev pub default_of : Option Lit → Value
default_of None = value.Null
default_of (Some v) = value_of v

-- the value is of the other kind than the column; NULL is of each
abbrev pub is_other : Kind → Value → Bool
is_other kind.Int (value.Text t) = true
is_other kind.Int (value.Int n) = false
is_other kind.Int value.Null = false
is_other (kind.Text limit) (value.Int n) = true
is_other (kind.Text limit) (value.Text t) = false
is_other (kind.Text limit) value.Null = false

-- what is wrong where a value is compared with a column: its kind alone
abbrev pub compared : Value → Column → Option NameFault
compared v column = if is_other column.kind v then Some (WrongKind column.name) else None

-- a text is longer than the column of this name and kind
abbrev pub too_long : List ℕ → Kind → Value → Option NameFault
too_long name (kind.Text limit) (value.Text t) = if nat_le (length t) limit then None else Some (TooLong name (length t) limit)
too_long name (kind.Text limit) (value.Int n) = None
too_long name (kind.Text limit) value.Null = None
too_long name kind.Int v = None

-- what is wrong where a column is to hold a value: first its kind, then its length
abbrev pub stored : Value → Column → Option NameFault
stored v column = option_or (compared v column) (too_long column.name column.kind v)

-- the column holds texts
abbrev pub is_textual : Kind → Bool
is_textual kind.Int = false
is_textual (kind.Text limit) = true

-- what is wrong where a column is added up
abbrev pub summed : Column → Option NameFault
summed column = if is_textual column.kind then Some (WrongKind column.name) else None
