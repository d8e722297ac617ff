-- The rows of a run, by row number.
use Rattle.std.specs.Prelude.{ℕ, ◌-◌, ◌==◌, ◌&&◌, Bool, List, [], ◌∷◌, length, nat_le, nat_lt, slice_get}
use Rattle.im_values.specs.declared.content.Content.{Content as Value}
use Rattle.im_versions.specs.declared.version.Version.{Version}
use Rattle.im_blocks.specs.declared.run.Held.{Held}
use Rattle.im_blocks.specs.declared.run.Held.TheVariants.{Many, One}
use Rattle.im_blocks.specs.declared.run.Run.{Run}

-- the rows
abbrev pub rows_in : Held → List (List Value)
rows_in (Many rows) = rows
rows_in (One row) = row ∷ []

-- a row number lies in so many from the first on
abbrev pub in_rows : ℕ → ℕ → ℕ → Bool
in_rows first count rid = nat_le first rid && nat_lt (rid - first) count

-- a row number of a table lies in so many of another from the first on
abbrev pub is_in : ℕ → ℕ → ℕ → ℕ → ℕ → Bool
is_in table first count t r = (table == t) && in_rows first count r

-- a run has a row of this row number of a table
abbrev pub holds : Run → ℕ → ℕ → Bool
holds run table rid = is_in run.table run.first (length (rows_in run.rows)) table rid

-- the version that the commit of a run left of a row number in it
abbrev pub version_in : Run → ℕ → Version
version_in run rid = record { scn = run.scn; row = slice_get (rows_in run.rows) (rid - run.first) }
