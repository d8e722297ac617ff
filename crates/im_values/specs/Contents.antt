-- What a value is, by how it is kept.
use Rattle.std.specs.Prelude.{◌≤◌, take}
use Rattle.std.specs.Arc.{arc_value}
use Rattle.im_values.specs.declared.content.Content.{Content}
use Rattle.im_values.specs.declared.content.Content.TheVariants.{Int, Text, Null}
use Rattle.im_values.specs.declared.value.Kept.{Kept}
use Rattle.im_values.specs.declared.value.Kept.TheVariants as kept
use Rattle.im_values.specs.declared.value.Seen.{Seen}
use Rattle.im_values.specs.declared.value.Seen.TheVariants as seen
use Rattle.im_values.specs.declared.name.TheConstants.{IN_PLACE}

-- what a value is
abbrev pub content_of : Kept → Content
content_of (kept.Int number) = Int number
content_of (kept.Short count text) = Text (take count text)
content_of (kept.Long text) = Text (arc_value text).items
content_of kept.Null = Null

-- no more bytes stand in place than there is room for
abbrev pub IsInPlace : Kept → Type 0
IsInPlace (kept.Int number) = Unit {0}
IsInPlace (kept.Short count text) = count ≤ IN_PLACE
IsInPlace (kept.Long text) = Unit {0}
IsInPlace kept.Null = Unit {0}

-- what is looked at
abbrev pub content_seen : Seen → Content
content_seen (seen.Int number) = Int number
content_seen (seen.Text bytes) = Text bytes.now
content_seen seen.Null = Null
