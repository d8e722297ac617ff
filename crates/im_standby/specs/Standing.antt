-- What it means that a standby has applied these members and no others, in this order.
use Rattle.std.specs.Prelude.{◌≡◌, ℕ, List, [], ◌∷◌, ◌++◌, get_or, length, map}
use Rattle.im_blocks.specs.Chains.{AllVersions, versions_at}
use Rattle.im_blocks.specs.VersionsOf.{versions_from}
use Rattle.im_feed.specs.Lawful.{AreLawful}
use Rattle.im_history.specs.declared.look.TableInfo.{TableInfo}
use Rattle.im_history.specs.declared.member.Member.{Member}
use Rattle.im_history.specs.Commits.{changes_of}
use Rattle.im_standby.specs.Members.{given_of, tables_of}

-- what a standby keeps: how many members it has applied, the tables, the row numbers given by table, and the versions of all rows
pub record Standing : Type 0 where
  pub scn : ℕ
  pub tables : List TableInfo
  pub ends : List ℕ
  pub blocks : AllVersions

-- it has applied exactly these members: it stands at their number, has the tables that they make and the row numbers that they
-- give, and of each row the versions that they left, the first member having the SCN 1
pub record IsOf (standing : Standing) (members : List Member) : Type 0 where
  pub scn : standing.scn ≡ length members
  pub tables : standing.tables ≡ tables_of members
  pub given : (table : ℕ) → get_or standing.ends table 0 ≡ given_of members table
  pub versions : (table rid : ℕ) → versions_at standing.blocks table rid ≡ versions_from 1 (map changes_of members) table rid

-- this holds of the members that it has applied, whichever they are
abbrev pub ForMembers : Standing → (List Member → Type 0) → Type 0
ForMembers standing P = (members : List Member) → IsOf standing members → P members

-- a member may be applied next: with those applied before it is lawful
pub record IsNext (standing : Standing) (member : Member) : Type 0 where
  pub before : List Member
  pub is_of : IsOf standing before
  pub lawful : AreLawful (before ++ member ∷ [])
