-- What a standby and a follower become by one member.
use Rattle.std.specs.Prelude.{◌≡◌, ℕ, ◌+◌, List, [], ◌∷◌, ◌++◌, get_or, Some, None}
use Rattle.im_blocks.specs.Chains.{versions_at}
use Rattle.im_blocks.specs.VersionsOf.{version_by}
use Rattle.im_history.specs.declared.change.Change.{Change}
use Rattle.im_history.specs.declared.member.Member.{Member}
use Rattle.im_history.specs.Commits.{changes_of}
use Rattle.im_history.specs.Tables.{given_by}
use Rattle.im_standby.specs.Members.{tables_after}
use Rattle.im_standby.specs.Following.{Following}
use Rattle.im_standby.specs.Standing.{ForMembers, IsOf, Standing}

-- the row numbers given by table, these changes noted
pub record IsNoted (old new : List ℕ) (changes : List Change) : Type 0 where
  pub each : (table : ℕ) → get_or new table 0 ≡ given_by table (get_or old table 0) changes

-- nothing that is read is another
pub record IsSame (old new : Standing) : Type 0 where
  pub scn : new.scn ≡ old.scn
  pub tables : new.tables ≡ old.tables
  pub ends : (table : ℕ) → get_or new.ends table 0 ≡ get_or old.ends table 0
  pub versions : (table rid : ℕ) → versions_at new.blocks table rid ≡ versions_at old.blocks table rid

-- it has this member more
pub record Becomes (old new : Standing) (member : Member) : Type 0 where
  pub scn : new.scn ≡ old.scn + 1
  pub tables : new.tables ≡ tables_after old.tables member
  pub ends : IsNoted old.ends new.ends (changes_of member)
  pub versions : (table rid : ℕ) →
      versions_at new.blocks table rid ≡ versions_at old.blocks table rid ++ version_by (old.scn + 1) (changes_of member) table rid

-- ---- a follower

-- the member that was in hand is applied, and the hand is free
pub record HasTaken (old new : Following) (member : Member) : Type 0 where
  pub free : new.hand ≡ None
  pub applied : ForMembers old.standby (λ members. IsOf new.standby (members ++ member ∷ []))

-- it is still in hand
pub record HoldsBack (old new : Following) (member : Member) : Type 0 where
  pub held : new.hand ≡ Some member
  pub applied : ForMembers old.standby (λ members. IsOf new.standby members)
