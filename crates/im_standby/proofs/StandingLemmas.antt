-- What a standby shows, as it applies members.
use Rattle.std.proofs.Common.{◌≡◌, ℕ, ◌+◌, ◌<◌, List, [], ◌∷◌, ◌++◌, get_or, length, map, Option, None, refl, sym, ap, ap₂, ◌∙◌, arith, append-nil, ◌==◌, ◌≤◌, ◌&&◌, Bool, true, false, max, if◌then◌else◌}
use Rattle.std.specs.List.{fold, flat_map, range_with_len}
use Rattle.std.proofs.lemmas.Bool.{ne_eqb, true≢false}
use Rattle.std.proofs.lemmas.Grind.{flat_map-append}
use Rattle.std.proofs.lemmas.List.{length_push, length-map, map-append}
use Rattle.std.proofs.lemmas.List.Sums.{fold_push}
use Rattle.im_versions.specs.declared.version.Version.{Version}
use Rattle.im_versions.specs.Versions.{row_at}
use Rattle.im_blocks.specs.Chains.{AllVersions, no_versions, rows_among, rows_at, versions_at}
use Rattle.im_blocks.specs.Transitions.{IsBefore}
use Rattle.im_blocks.specs.VersionsOf.{version_by, versions_from}
use Rattle.im_standby.proofs.CommitLaws.{row_at-made, versions_from-push}
use Rattle.im_blocks.proofs.ForCallers.{versions_at-nil}
use Rattle.im_history.specs.declared.change.Change.{Change}
use Rattle.im_history.specs.declared.look.TableInfo.{TableInfo}
use Rattle.im_history.specs.declared.member.Member.{Member}
use Rattle.im_history.specs.Commits.{changes_of}
use Rattle.im_history.specs.Rows.{Row, row_after}
use Rattle.im_history.specs.Tables.{given_by}
use Rattle.im_history.proofs.GivenLaws.{given_by-grows}
use Rattle.im_standby.specs.Members.{all_changes_of, given_of, row_of, rows_among_of, rows_from_of, tables_after, tables_of}
use Rattle.im_standby.specs.Standing.{IsOf, Standing}
use Rattle.im_standby.specs.inner.Applying.{Becomes, IsSame}
use Rattle.im_standby.proofs.EndLemmas.{given_by-append}

-- ---- one more member

pub tables_of-push : (members : List Member) (member : Member) → tables_of (members ++ member ∷ []) ≡ tables_after (tables_of members) member
unfolding tables_of
tables_of-push members member = fold_push tables_after [] members member

-- the changes of one more
pub all_changes_of-push : (members : List Member) (member : Member) → all_changes_of (members ++ member ∷ []) ≡ all_changes_of members ++ changes_of member
all_changes_of-push members member =
    flat_map-append changes_of members (member ∷ []) ∙ ap (λ (l : List Change). all_changes_of members ++ l) (append-nil (changes_of member))

pub given_of-push : (members : List Member) (member : Member) (table : ℕ)
    → given_of (members ++ member ∷ []) table ≡ given_by table (given_of members table) (changes_of member)
unfolding given_of
given_of-push members member table =
    ap (given_by table 0) (all_changes_of-push members member) ∙ given_by-append table 0 (all_changes_of members) (changes_of member)

versions-push : (members : List Member) (member : Member) (table rid : ℕ)
    → versions_from 1 (map changes_of (members ++ member ∷ [])) table rid
    ≡ versions_from 1 (map changes_of members) table rid ++ version_by (length members + 1) (changes_of member) table rid
versions-push members member table rid =
    ap (λ (list : List (List Change)). versions_from 1 list table rid) (map-append changes_of members (member ∷ []))
    ∙ (versions_from-push (map changes_of members) (changes_of member) table rid
    ∙ ap (λ (k : ℕ). versions_from 1 (map changes_of members) table rid ++ version_by (k + 1) (changes_of member) table rid) (length-map members changes_of))

-- ---- what was applied

-- nothing
pub IsOf-none : (standing : Standing) → standing.scn ≡ 0 → standing.tables ≡ [] → standing.ends ≡ [] → standing.blocks ≡ no_versions → IsOf standing []
unfolding tables_of given_of
IsOf-none standing scn tables ends blocks = record {
  scn = scn;
  tables = tables;
  given = λ table. ap (λ (l : List ℕ). get_or l table 0) ends;
  versions = λ table rid. ap (λ (b : AllVersions). versions_at b table rid) blocks ∙ versions_at-nil table rid;
}

-- one member more
pub IsOf-becomes : (old new : Standing) (members : List Member) (member : Member) → Becomes old new member → IsOf old members
    → IsOf new (members ++ member ∷ [])
IsOf-becomes old new members member becomes is = record {
  scn = becomes.scn ∙ (ap (λ (n : ℕ). n + 1) is.scn ∙ sym (length_push members member));
  tables = becomes.tables ∙ (ap (λ (ts : List TableInfo). tables_after ts member) is.tables ∙ sym (tables_of-push members member));
  given = λ table.
      becomes.ends.each table
      ∙ (ap (λ (n : ℕ). given_by table n (changes_of member)) (is.given table) ∙ sym (given_of-push members member table));
  versions = λ table rid.
      becomes.versions table rid
      ∙ (ap₂ (λ (v : List Version) (n : ℕ). v ++ version_by (n + 1) (changes_of member) table rid) (is.versions table rid) is.scn
      ∙ sym (versions-push members member table rid));
}

-- none more
pub IsOf-same : (old new : Standing) (members : List Member) → IsSame old new → IsOf old members → IsOf new members
IsOf-same old new members same is = record {
  scn = same.scn ∙ is.scn;
  tables = same.tables ∙ is.tables;
  given = λ table. same.ends table ∙ is.given table;
  versions = λ table rid. same.versions table rid ∙ is.versions table rid;
}

pub IsSame-refl : (standing : Standing) → IsSame standing standing
IsSame-refl standing = record { scn = refl; tables = refl; ends = λ table. refl; versions = λ table rid. refl }

-- ---- the next SCN

-- a later one can be applied too
pub IsBefore-later : (blocks : AllVersions) (number later : ℕ) → number < later → IsBefore blocks number → IsBefore blocks later
IsBefore-later blocks number later behind before = record { each = λ table rid. let is = before.each table rid in omega (arith, is, behind) }

-- ---- rows

-- the changes of each member, one behind another
pub flat_map-map : (members : List Member) → flat_map (λ changes. changes) (map changes_of members) ≡ all_changes_of members
flat_map-map [] = refl
flat_map-map (member ∷ members) = ap (λ (l : List Change). changes_of member ++ l) (flat_map-map members)

-- the row at its SCN
pub row_is : (standing : Standing) (members : List Member) → IsOf standing members → (table rid : ℕ) →
    row_at (versions_at standing.blocks table rid) standing.scn ≡ row_of members table rid
unfolding row_of
row_is standing members is table rid =
    ap₂ (λ (v : List Version) (n : ℕ). row_at v n) (is.versions table rid) (is.scn ∙ sym (length-map members changes_of))
    ∙ (row_at-made (map changes_of members) table rid ∙ ap (fold (row_after table rid) None) (flat_map-map members))

-- what is made of each number
pub map_same : {X : Type 0} (f g : ℕ → X) → ((k : ℕ) → f k ≡ g k) → (ks : List ℕ) → map f ks ≡ map g ks
map_same f g same [] = refl
map_same f g same (k ∷ ks) = rw (same k) (ap (λ l. g k ∷ l) (map_same f g same ks))

-- those of these row numbers
pub rows_among_are : (standing : Standing) (members : List Member) → IsOf standing members → (table : ℕ) (rids : List ℕ) →
    rows_among standing.blocks table rids standing.scn ≡ rows_among_of members table rids
rows_among_are standing members is table rids =
    map_same (λ rid. (rid, row_at (versions_at standing.blocks table rid) standing.scn)) (λ rid. (rid, row_of members table rid))
    (λ rid. ap (λ (row : Option Row). (rid, row)) (row_is standing members is table rid)) rids

-- those of so many from the first on
pub rows_at_are : (standing : Standing) (members : List Member) → IsOf standing members → (table first count : ℕ) →
    rows_at standing.blocks table first count standing.scn ≡ rows_from_of members table first count
rows_at_are standing members is table first count = rows_among_are standing members is table (range_with_len first count)

-- ---- row numbers that were not given

-- past those that changes give they leave no row
none_behind : (table rid n : ℕ) (row : Option Row) (changes : List Change) → given_by table n changes ≤ rid → row ≡ None
    → fold (row_after table rid) row changes ≡ None
none_behind table rid n row [] past none = none
none_behind table rid n row (change ∷ changes) past none =
    by (change.table == table) (change.rid == rid) past is_other (λ k below. none_behind table rid k row changes below none)
  where
    is_other : change.table == table ≡ true → change.rid == rid ≡ false
    is_other is =
        let more : given_by table (max n (change.rid + 1)) changes ≤ rid = rw is at past in
        let grows = given_by-grows table (max n (change.rid + 1)) changes in
        ne_eqb change.rid rid (λ same. omega (arith, more, grows, same))

    by : (b e : Bool) → given_by table (if b then max n (change.rid + 1) else n) changes ≤ rid → (b ≡ true → e ≡ false)
        → ((k : ℕ) → given_by table k changes ≤ rid → fold (row_after table rid) row changes ≡ None)
        → fold (row_after table rid) (if b && e then change.row else row) changes ≡ None
    by true true below apart rest = absurd (true≢false (apart refl))
    by true false below apart rest = rest (max n (change.rid + 1)) below
    by false e below apart rest = rest n below

-- nor do members
pub none-past : (members : List Member) (table rid : ℕ) → given_of members table ≤ rid → row_of members table rid ≡ None
unfolding given_of row_of
none-past members table rid past = none_behind table rid 0 None (all_changes_of members) past refl
