-- How the versions of a chain are kept.
use Rattle.std.specs.Prelude.{ℕ, ◌+◌, ◌≤◌, List, [], ◌∷◌, vec_len, vec_capacity}
use Rattle.im_versions.specs.declared.chain.Form.{Form}
use Rattle.im_versions.specs.declared.chain.Form.TheVariants.{Empty, One, Many}
use Rattle.im_versions.specs.declared.version.Version.{Version}

-- the versions
abbrev pub versions_in : Form → List Version
versions_in Empty = []
versions_in (One version) = version ∷ []
versions_in (Many versions) = versions.items

-- so many versions can be put on without memory
abbrev pub HasRoom : Form → ℕ → Type 0
HasRoom Empty spare = spare ≤ 1
HasRoom (One version) spare = spare ≤ 0
HasRoom (Many versions) spare = vec_len versions + spare ≤ vec_capacity versions
