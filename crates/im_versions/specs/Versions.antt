-- The versions of one row, and the row at an SCN.
use Rattle.std.specs.Prelude.{ℕ, ◌-◌, ◌<◌, List, [], ◌∷◌, ◌++◌, length, filter, nat_le, nat_lt, Option, None, Some, is_some, if◌then◌else◌, slice_get, option_and_then}
use Rattle.std.specs.List.{AllAdjacentBelow}
use Rattle.std.specs.Option.{option_map}
use Rattle.im_values.specs.declared.content.Content.{Content as Value}
use Rattle.im_versions.specs.declared.version.Version.{Version}

-- a chain as contracts see it: its versions, oldest first, and how many more can be put on without memory
pub record Versions : Type 0 where
  pub versions : List Version
  pub spare : ℕ

-- a chain without versions and without room
abbrev pub no_chain : Versions
no_chain = record { versions = []; spare = 0 }

-- the newest version
abbrev pub newest : List Version → Option Version
newest versions = slice_get versions (length versions - 1)

-- the SCN of the newest version
abbrev pub latest : List Version → Option ℕ
latest versions = option_map (λ version. version.scn) (newest versions)

-- the versions at or below an SCN
abbrev pub versions_to : ℕ → List Version → List Version
versions_to scn versions = filter (λ version. nat_le version.scn scn) versions

-- the row that the newest version left
abbrev pub newest_row : List Version → Option (List Value)
newest_row versions = option_and_then (λ version. version.row) (newest versions)

-- the row at an SCN: that of the last version at or below it
abbrev pub row_at : List Version → ℕ → Option (List Value)
row_at versions scn = newest_row (versions_to scn versions)

-- the versions above an SCN
abbrev pub versions_above : ℕ → List Version → List Version
versions_above scn versions = filter (λ version. nat_lt scn version.scn) versions

-- a version alone, where it has a row
abbrev pub with_row : Option Version → List Version
with_row None = []
with_row (Some version) = if is_some version.row then version ∷ [] else []

-- what readings at a floor and above it ask for: the versions above it, and the last one at or below it where that has a row
unfoldable pub cut : ℕ → List Version → List Version
cut floor versions = with_row (newest (versions_to floor versions)) ++ versions_above floor versions

-- each version is of a later commit than the one before it
abbrev pub IsRising : List Version → Type 0
IsRising versions = AllAdjacentBelow (λ before after. before.scn < after.scn) versions (length versions)
