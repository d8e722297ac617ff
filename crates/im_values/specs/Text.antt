-- How the bytes of a text are kept.
use Rattle.std.specs.Prelude.{List, ℕ, ◌≤◌, take}
use Rattle.std.specs.Arc.{arc_value}
use Rattle.im_values.specs.declared.name.Form.{Form}
use Rattle.im_values.specs.declared.name.Form.TheVariants.{Short, Long}
use Rattle.im_values.specs.declared.name.TheConstants.{IN_PLACE}

-- the bytes
abbrev pub text_of : Form → List ℕ
text_of (Short count text) = take count text
text_of (Long text) = (arc_value text).items

-- no more bytes stand in place than there is room for
abbrev pub IsInPlace : Form → Type 0
IsInPlace (Short count text) = count ≤ IN_PLACE
IsInPlace (Long text) = Unit {0}
