-- The single steps by which changes come to their rows.
use Rattle.std.specs.Prelude.{◌≡◌, ℕ, ◌+◌, ◌-◌, ◌<◌, ◌≤◌, ◌==◌, ◌⊎◌, Bool, true, false, List, [], ◌∷◌, ◌++◌, length, slice_get, Option, if◌then◌else◌}
use Rattle.im_tables.specs.Table.{HasCell}
use Rattle.im_values.specs.declared.content.Content.{Content as Value}
use Rattle.im_versions.specs.declared.version.Version.{Version}
use Rattle.im_blocks.specs.Chains.{AllVersions, IsReady, newest_scn, versions_at}
use Rattle.im_blocks.specs.Runs.{is_in}

-- a row number can take the row of a commit: it has no later version, and it has room unless this commit gave it a version
pub record MayTake (blocks : AllVersions) (table rid : ℕ) (put : Bool) (scn : ℕ) : Type 0 where
  pub some : 0 < scn
  pub below : newest_scn (versions_at blocks table rid) ≤ scn
  pub ready : newest_scn (versions_at blocks table rid) < scn → IsReady blocks table rid put
  pub room : 0 < blocks.room

-- so many row numbers from the first on can take rows of a commit: each has a slot, and no version but one of this commit
pub record MayTakeRun (blocks : AllVersions) (table first count scn : ℕ) : Type 0 where
  pub some : 0 < scn
  pub any : 0 < count
  pub cells : (t r : ℕ) → is_in table first count t r ≡ true → HasCell blocks.slots t r
  pub free : (t r : ℕ) → is_in table first count t r ≡ true → (versions_at blocks t r ≡ []) ⊎ (newest_scn (versions_at blocks t r) ≡ scn)
  pub room : 0 < blocks.room

-- the versions of a row number with what a commit left, unless they have a version of this commit
abbrev pub versions_after : ℕ → Option (List Value) → List Version → List Version
versions_after scn row versions = if newest_scn versions == scn then versions else versions ++ record { scn = scn; row = row } ∷ []

-- only one row number has other versions now, and room is gone for one run at most
pub record IsOnly (old new : AllVersions) (table rid : ℕ) : Type 0 where
  pub others : (t r : ℕ) → (t ≡ table → r ≡ rid → ⊥) → versions_at new t r ≡ versions_at old t r
  pub ready : (t r : ℕ) (put : Bool) → (t ≡ table → r ≡ rid → ⊥) → IsReady old t r put → IsReady new t r put
  pub cells : (t r : ℕ) → HasCell old.slots t r → HasCell new.slots t r
  pub room : old.room ≤ new.room + 1

-- a row number has taken the row of a commit
pub record HasTaken (old new : AllVersions) (table rid scn : ℕ) (row : Option (List Value)) : Type 0 where
  pub only : IsOnly old new table rid
  pub versions : versions_at new table rid ≡ versions_after scn row (versions_at old table rid)

-- row numbers from the first on have taken rows of a commit
pub record HasTakenRun (old new : AllVersions) (table first scn : ℕ) (rows : List (List Value)) : Type 0 where
  pub here : (t r : ℕ) → is_in table first (length rows) t r ≡ true
      → versions_at new t r ≡ versions_after scn (slice_get rows (r - first)) (versions_at old t r)
  pub others : (t r : ℕ) → is_in table first (length rows) t r ≡ false → versions_at new t r ≡ versions_at old t r
  pub ready : (t r : ℕ) (put : Bool) → is_in table first (length rows) t r ≡ false → IsReady old t r put → IsReady new t r put
  pub cells : (t r : ℕ) → HasCell old.slots t r → HasCell new.slots t r
  pub room : old.room ≤ new.room + 1
