-- Fields as the code hands them on.
use Rattle.std.specs.Prelude.{ℕ, List, decimal}
use Rattle.im_text.specs.declared.field.Field.{Field}
use Rattle.im_text.specs.declared.field.Field.TheVariants.{Word, Number, Credits}

-- the bytes of a field
abbrev pub shown : Field → List ℕ
shown (Word word) = word.now
shown (Number number) = decimal number
shown (Credits credits) = decimal credits
