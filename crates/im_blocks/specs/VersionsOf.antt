-- The versions that a history gave each row.
use Rattle.std.specs.Prelude.{ℕ, ◌+◌, List, [], ◌∷◌, ◌++◌, reverse, Option, option_map, option_to_list}
use Rattle.std.specs.List.{find}
use Rattle.im_versions.specs.declared.version.Version.{Version}
use Rattle.im_history.specs.declared.change.Change.{Change}
use Rattle.im_history.specs.Commits.{commits}
use Rattle.im_history.specs.History.{History}
use Rattle.im_history.specs.Touched.{is_to}

-- the last of the changes that is to this row number of the table
abbrev pub last_change : List Change → ℕ → ℕ → Option Change
last_change changes table rid = find (is_to table rid) (reverse changes)

-- what the commit of these changes, which has this SCN, left of a row: a version where one of them is to the row
abbrev pub version_by : ℕ → List Change → ℕ → ℕ → List Version
version_by scn changes table rid =
    option_to_list (option_map (λ change. record { scn = scn; row = change.row }) (last_change changes table rid))

-- the versions that commits left of a row, the first of them having this SCN
abbrev pub versions_from : ℕ → List (List Change) → ℕ → ℕ → List Version
versions_from scn [] table rid = []
versions_from scn (changes ∷ later) table rid = version_by scn changes table rid ++ versions_from (scn + 1) later table rid

-- the versions of a row: one for each commit that touched it, oldest first. The first commit has the SCN 1
unfoldable pub versions_of : History → ℕ → ℕ → List Version
versions_of history table rid = versions_from 1 (commits history) table rid
