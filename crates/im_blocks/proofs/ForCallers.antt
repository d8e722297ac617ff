-- What the blocks tell of a history that they keep, and how they keep it as it goes on.
use Rattle.std.proofs.Common.{◌≡◌, ℕ, ◌+◌, ◌-◌, ◌<◌, ◌≤◌, ◌⊎◌, inl, inr, Bool, true, false, List, [], ◌∷◌, ◌++◌, drop, is_some, length, map, sum_by, take, Option, None, if◌then◌else◌, refl, sym, ap, ◌∙◌, subst, ⊎_elim, arith, append-nil}
use Rattle.std.specs.List.{fold, flat_map, range_with_len}
use Rattle.im_tables.proofs.ForCallers.{cell_at-nil}
use Rattle.im_values.specs.declared.content.Content.{Content as Value}
use Rattle.im_values.specs.declared.schema.Column.{Column}
use Rattle.im_versions.specs.declared.version.Version.{Version}
use Rattle.im_versions.specs.Versions.{IsRising, cut, row_at, versions_above}
use Rattle.im_versions.proofs.ForCallers.{cut-again, cut-append, length-cut, row_at-cut}
use Rattle.im_history.specs.declared.change.Change.{Change}
use Rattle.im_history.specs.declared.entry.Entry.{Entry}
use Rattle.im_history.specs.declared.entry.What.{What}
use Rattle.im_history.specs.declared.entry.What.TheVariants.{Create, Add, Commit, Purge}
use Rattle.im_history.specs.declared.limits.Limits.{Limits}
use Rattle.im_history.specs.Commits.{commits, committed_by, scn, moves_clock, members}
use Rattle.im_history.specs.Grid.{Grid}
use Rattle.im_history.specs.Horizon.{horizon, kept, kept_at, kept_of, moves_horizon, touching}
use Rattle.im_history.specs.History.{History, replay}
use Rattle.im_history.specs.Legal.{IsLegal}
use Rattle.im_history.specs.Rows.{Row, rows, row_after}
use Rattle.im_history.specs.Tables.{given, tables}
use Rattle.im_history.specs.Touched.{touches, last_touch, touched_after}
use Rattle.im_history.specs.Transactions.{pending}
use Rattle.im_blocks.specs.declared.slot.Slot.TheVariants.{Empty}
use Rattle.im_blocks.specs.Chains.{AllVersions, no_versions, versions_at, versions_in, newest_scn, rows_among, rows_at}
use Rattle.im_blocks.specs.Kept.{IsKept, TellsTouches}
use Rattle.im_blocks.specs.Standing.{standing, standing_at, standing_of}
use Rattle.im_blocks.specs.Transitions.{SameVersions, IsBefore, Applied, Purged}
use Rattle.im_blocks.specs.VersionsOf.{version_by, versions_from, versions_of}
use Rattle.im_history.proofs.HorizonLaws.{horizon-le-scn, horizon-quiet}
use Rattle.im_history.proofs.Laws.{commits-push, scn-push, last_touch-push}
use Rattle.im_history.proofs.RowLaws.{each_history, commits-push_quiet}
use Rattle.im_blocks.proofs.GivenLemmas.{none-given, none-touches}
use Rattle.im_blocks.proofs.HistoryLemmas.{IsRising-from, NoneLeft, above-by, length-above, length-left, newest_scn-cut, none-from}
use Rattle.im_blocks.proofs.LettingLemmas.{cut-none}
use Rattle.im_blocks.proofs.StandingLemmas.{standing-by, standing-le, standing-of, sum-agree, sum-one, sum-parts}
use Rattle.im_blocks.proofs.VersionLemmas.{row_at-versions_from, versions_from-append, newest_scn-version_by}

versions_of-nil : (table rid : ℕ) → [] ≡ versions_of [] table rid
unfolding versions_of commits members replay
versions_of-nil table rid = refl

versions_of-push : (h : History) (entry : Entry) (table rid : ℕ) →
    versions_of (h ++ entry ∷ []) table rid ≡ versions_of h table rid ++ versions_from (scn h + 1) (committed_by h entry.who entry.what) table rid
unfolding versions_of
versions_of-push h entry table rid =
    let next : 1 + scn h ≡ scn h + 1 = omega arith in
    ap (λ (list : List (List Change)). versions_from 1 list table rid) (commits-push h entry)
    ∙ (versions_from-append 1 (commits h) (committed_by h entry.who entry.what) table rid
    ∙ ap (λ (k : ℕ). versions_from 1 (commits h) table rid ++ versions_from k (committed_by h entry.who entry.what) table rid) next)

pub versions_at-nil : (table rid : ℕ) → versions_at no_versions table rid ≡ []
unfolding versions_at
versions_at-nil table rid = ap (versions_in [] [] table rid) (cell_at-nil Empty table rid)

-- no versions are those of the empty history
pub IsKept-nil : IsKept [] no_versions
IsKept-nil = record {
  each = λ table rid. versions_at-nil table rid ∙ (sym (cut-none (horizon [])) ∙ ap (cut (horizon [])) (versions_of-nil table rid));
}

versions_of-quiet : (h : History) (entry : Entry) (table rid : ℕ) → moves_clock entry.what ≡ false →
    versions_of (h ++ entry ∷ []) table rid ≡ versions_of h table rid
unfolding versions_of
versions_of-quiet h entry table rid quiet = ap (λ (list : List (List Change)). versions_from 1 list table rid) (commits-push_quiet h entry quiet)

-- what is left of versions that are the same
cut-same : (floor same : ℕ) (versions these : List Version) → same ≡ floor → these ≡ versions → cut floor versions ≡ cut same these
cut-same floor same versions these floor_is are = ap (λ (n : ℕ). cut n versions) (sym floor_is) ∙ ap (cut same) (sym are)

-- an entry that commits nothing and moves no horizon gives no row a version, and takes none away
pub IsKept-quiet : (h : History) (entry : Entry) (blocks : AllVersions) → moves_clock entry.what ≡ false → moves_horizon entry.what ≡ false → IsKept h blocks
    → IsKept (h ++ entry ∷ []) blocks
IsKept-quiet h entry blocks quiet still kept = record {
  each = λ table rid.
      kept.each table rid
      ∙ cut-same (horizon h) (horizon (h ++ entry ∷ [])) (versions_of h table rid) (versions_of (h ++ entry ∷ []) table rid) (horizon-quiet h entry still)
      (versions_of-quiet h entry table rid quiet);
}

-- an entry that commits no change
IsKept-empty : (h : History) (entry : Entry) (blocks : AllVersions) → committed_by h entry.who entry.what ≡ [] ∷ [] → moves_horizon entry.what ≡ false
    → IsKept h blocks → IsKept (h ++ entry ∷ []) blocks
IsKept-empty h entry blocks empty still kept = record {
  each = λ table rid.
      kept.each table rid
      ∙ cut-same (horizon h) (horizon (h ++ entry ∷ [])) (versions_of h table rid) (versions_of (h ++ entry ∷ []) table rid) (horizon-quiet h entry still)
      (versions_of-push h entry table rid
      ∙ (ap (λ (l : List (List Change)). versions_of h table rid ++ versions_from (scn h + 1) l table rid) empty ∙ append-nil (versions_of h table rid)));
}

-- nor does the creation of a table
pub IsKept-create : (h : History) (who : ℕ) (name : List ℕ) (schema : List Column) (grid : Grid) (blocks : AllVersions) → IsKept h blocks →
    IsKept (h ++ record { who = who; what = Create name schema grid } ∷ []) blocks
IsKept-create h who name schema grid blocks kept = IsKept-empty h (record { who = who; what = Create name schema grid }) blocks refl refl kept

-- a column changes no row
pub IsKept-add : (h : History) (who table : ℕ) (column : Column) (default : Value) (blocks : AllVersions) → IsKept h blocks →
    IsKept (h ++ record { who = who; what = Add table column default } ∷ []) blocks
IsKept-add h who table column default blocks kept = IsKept-empty h (record { who = who; what = Add table column default }) blocks refl refl kept

-- blocks with the same versions keep the same history
pub IsKept-same : (h : History) (old new : AllVersions) → SameVersions old new → IsKept h old → IsKept h new
IsKept-same h old new same kept = record { each = λ table rid. same.versions table rid ∙ kept.each table rid }

-- blocks with a commit's changes applied keep the history with this commit
pub IsKept-commit : (h : History) (who : ℕ) (old new : AllVersions) → Applied old new (scn h + 1) (pending h who) → IsKept h old →
    IsKept (h ++ record { who = who; what = Commit } ∷ []) new
IsKept-commit h who old new applied kept = record { each = each }
  where
    entry : Entry
    entry = record { who = who; what = Commit }

    each : (table rid : ℕ) → versions_at new table rid ≡ cut (horizon (h ++ entry ∷ [])) (versions_of (h ++ entry ∷ []) table rid)
    each table rid =
        let before = versions_of h table rid in
        let this = version_by (scn h + 1) (pending h who) table rid in
        let reached = horizon-le-scn h in
        let whole : versions_of (h ++ entry ∷ []) table rid ≡ before ++ this =
        versions_of-push h entry table rid ∙ ap (λ (v : List Version). before ++ v) (append-nil this) in
        applied.versions table rid
        ∙ (ap (λ (v : List Version). v ++ this) (kept.each table rid)
        ∙ (sym (cut-append (horizon h) before this (above-by (horizon h) (scn h + 1) (pending h who) table rid (omega (arith, reached))))
        ∙ cut-same (horizon h) (horizon (h ++ entry ∷ [])) (before ++ this) (versions_of (h ++ entry ∷ []) table rid) (horizon-quiet h entry refl) whole))

-- the versions of a row rise
pub IsRising-versions_of : (h : History) (table rid : ℕ) → IsRising (versions_of h table rid)
unfolding versions_of
IsRising-versions_of h table rid = IsRising-from 1 (commits h) table rid

-- blocks that are purged at the new horizon keep the history with this purge
pub IsKept-purge : (h : History) (who : ℕ) (old new : AllVersions) → horizon h ≤ horizon (h ++ record { who = who; what = Purge } ∷ [])
    → Purged old new (horizon (h ++ record { who = who; what = Purge } ∷ [])) → IsKept h old → IsKept (h ++ record { who = who; what = Purge } ∷ []) new
IsKept-purge h who old new later purged kept = record {
  each = λ table rid.
      let entry : Entry = record { who = who; what = Purge } in
      let now = horizon (h ++ entry ∷ []) in
      purged.versions table rid
      ∙ (ap (cut now) (kept.each table rid)
      ∙ (cut-again (horizon h) now (versions_of h table rid) (IsRising-versions_of h table rid) later
      ∙ ap (cut now) (sym (versions_of-quiet h entry table rid refl))));
}

-- above the horizon stand the versions of the commits behind it
above-horizon : (h : History) (table rid : ℕ) → length (versions_above (horizon h) (versions_of h table rid)) ≡ touching (drop (horizon h) (commits h)) table rid
unfolding versions_of
above-horizon h table rid =
    let same : horizon h + 1 - 1 ≡ horizon h = omega arith in
    length-above (horizon h) 1 (commits h) table rid ∙ ap (λ (n : ℕ). touching (drop n (commits h)) table rid) same

row_at-versions_of : (h : History) (table rid n : ℕ) → row_at (versions_of h table rid) n ≡ rows h table n rid
unfolding versions_of rows
row_at-versions_of h table rid n =
    let same : n + 1 - 1 ≡ n = omega arith in
    row_at-versions_from [] 1 n (commits h) table rid
    ∙ ap (λ (k : ℕ). fold (row_after table rid) None (flat_map (λ changes. changes) (take k (commits h)))) same

-- the row at an SCN that may be asked for is the row committed at it
pub rows_kept : (h : History) (blocks : AllVersions) → IsKept h blocks → (table rid n : ℕ) → horizon h ≤ n →
    row_at (versions_at blocks table rid) n ≡ rows h table n rid
rows_kept h blocks kept table rid n asked =
    ap (λ (v : List Version). row_at v n) (kept.each table rid)
    ∙ (row_at-cut (horizon h) n (versions_of h table rid) (IsRising-versions_of h table rid) asked ∙ row_at-versions_of h table rid n)

map_same : {X : Type 0} (f g : ℕ → X) → ((k : ℕ) → f k ≡ g k) → (ks : List ℕ) → map f ks ≡ map g ks
map_same f g same [] = refl
map_same f g same (k ∷ ks) = rw (same k) (ap (λ l. g k ∷ l) (map_same f g same ks))

-- row numbers, each with the row committed at such an SCN
pub rows_among_kept : (h : History) (blocks : AllVersions) → IsKept h blocks → (table : ℕ) (rids : List ℕ) (n : ℕ) → horizon h ≤ n →
    rows_among blocks table rids n ≡ map (λ rid. (rid, rows h table n rid)) rids
rows_among_kept h blocks kept table rids n asked =
    map_same (λ rid. (rid, row_at (versions_at blocks table rid) n)) (λ rid. (rid, rows h table n rid))
    (λ rid. ap (λ (row : Option Row). (rid, row)) (rows_kept h blocks kept table rid n asked)) rids

-- so many of them from the first on
pub rows_at_kept : (h : History) (blocks : AllVersions) → IsKept h blocks → (table first count n : ℕ) → horizon h ≤ n →
    rows_at blocks table first count n ≡ map (λ rid. (rid, rows h table n rid)) (range_with_len first count)
rows_at_kept h blocks kept table first count n asked = rows_among_kept h blocks kept table (range_with_len first count) n asked

newest_step : (h : History) (versions : List Version) (who : ℕ) (what : What) (table rid so_far : ℕ) → newest_scn versions ≡ so_far →
    newest_scn (versions ++ versions_from (scn h + 1) (committed_by h who what) table rid) ≡ touched_after table rid h so_far who what
newest_step h versions who Commit table rid so_far same =
    ap (λ (v : List Version). newest_scn (versions ++ v)) (append-nil (version_by (scn h + 1) (pending h who) table rid))
    ∙ (newest_scn-version_by versions (scn h + 1) (pending h who) table rid
    ∙ ap (λ (k : ℕ). if touches (pending h who) table rid then scn h + 1 else k) same)
newest_step h versions who (Create name schema grid) table rid so_far same = ap newest_scn (append-nil versions) ∙ same
newest_step h versions who _ table rid so_far same = ap newest_scn (append-nil versions) ∙ same

-- the newest of a row's versions is of the last commit that touched it
record IsNewest (table rid : ℕ) (h : History) : Type 0 where
  pub is : newest_scn (versions_of h table rid) ≡ last_touch h table rid

IsNewest-nil : (table rid : ℕ) → IsNewest table rid []
unfolding versions_of commits members last_touch replay
IsNewest-nil table rid = record { is = refl }

IsNewest-push : (table rid : ℕ) (h : History) (entry : Entry) → IsNewest table rid h → IsNewest table rid (h ++ entry ∷ [])
IsNewest-push table rid h entry newest = record {
  is = ap newest_scn (versions_of-push h entry table rid)
      ∙ (newest_step h (versions_of h table rid) entry.who entry.what table rid (last_touch h table rid) newest.is
      ∙ sym (last_touch-push h entry table rid));
}

newest_scn-versions_of : (h : History) (table rid : ℕ) → newest_scn (versions_of h table rid) ≡ last_touch h table rid
newest_scn-versions_of h table rid = (each_history (IsNewest table rid) (IsNewest-nil table rid) (IsNewest-push table rid) h).is

-- no version of a row is left, and no commit behind the horizon touched it
pub record IsLetGo (h : History) (blocks : AllVersions) (table rid : ℕ) : Type 0 where
  pub none : newest_scn (versions_at blocks table rid) ≡ 0
  pub below : last_touch h table rid ≤ horizon h

-- the newest version is of the last commit that touched the row, or none is left
pub latest_kept : (h : History) (blocks : AllVersions) → IsKept h blocks → (table rid : ℕ) →
    (newest_scn (versions_at blocks table rid) ≡ last_touch h table rid) ⊎ IsLetGo h blocks table rid
latest_kept h blocks kept table rid =
    let here = ap newest_scn (kept.each table rid) in
    let last = newest_scn-versions_of h table rid in
    ⊎_elim
    (λ (same : newest_scn (cut (horizon h) (versions_of h table rid)) ≡ newest_scn (versions_of h table rid)). inl (here ∙ (same ∙ last)))
    (λ (left : NoneLeft (horizon h) (versions_of h table rid)).
    let below = left.below in
    inr (record { none = here ∙ left.none; below = omega (arith, below, last) }))
    (newest_scn-cut (horizon h) (versions_of h table rid) (IsRising-versions_of h table rid))

-- so a newest version of a later commit than an SCN tells the last commit that touched the row
pub touches_kept : (h : History) (blocks : AllVersions) → IsKept h blocks → TellsTouches h blocks
touches_kept h blocks kept = record {
  later = λ table rid number after.
      ⊎_elim
      (λ (is : newest_scn (versions_at blocks table rid) ≡ last_touch h table rid). is)
      (λ (gone : IsLetGo h blocks table rid). let none = gone.none in absurd (omega (arith, none, after)))
      (latest_kept h blocks kept table rid);
  not_later = λ table rid number asked upto.
      ⊎_elim
      (λ (is : newest_scn (versions_at blocks table rid) ≡ last_touch h table rid). omega (arith, is, upto))
      (λ (gone : IsLetGo h blocks table rid). let below = gone.below in omega (arith, below, asked))
      (latest_kept h blocks kept table rid);
}

-- the last commit that touched a row is not past the present SCN
record IsPast (table rid : ℕ) (h : History) : Type 0 where
  pub is : last_touch h table rid ≤ scn h

IsPast-nil : (table rid : ℕ) → IsPast table rid []
unfolding last_touch replay
IsPast-nil table rid = record { is = omega arith }

one_of : (b : Bool) (last past : ℕ) → last ≤ past → (if b then past + 1 else last) ≤ past + 1
one_of true last past below = omega arith
one_of false last past below = omega arith

past_step : (h : History) (who : ℕ) (what : What) (table rid so_far : ℕ) → so_far ≤ scn h →
    touched_after table rid h so_far who what ≤ scn h + (if moves_clock what then 1 else 0)
past_step h who Commit table rid so_far below = one_of (touches (pending h who) table rid) so_far (scn h) below
past_step h who (Create name schema grid) table rid so_far below = omega arith
past_step h who _ table rid so_far below = omega arith

IsPast-push : (table rid : ℕ) (h : History) (entry : Entry) → IsPast table rid h → IsPast table rid (h ++ entry ∷ [])
IsPast-push table rid h entry past = record {
  is = rw (last_touch-push h entry table rid, scn-push h entry) (past_step h entry.who entry.what table rid (last_touch h table rid) past.is);
}

-- the last commit that touched a row is one of the history's
pub last_touch-le-scn : (h : History) (table rid : ℕ) → last_touch h table rid ≤ scn h
last_touch-le-scn h table rid = (each_history (IsPast table rid) (IsPast-nil table rid) (IsPast-push table rid) h).is

-- so the next commit can be applied
pub ready_to_apply : (h : History) (blocks : AllVersions) → IsKept h blocks → IsBefore blocks (scn h + 1)
ready_to_apply h blocks kept = record {
  each = λ table rid.
      ⊎_elim
      (λ (is : newest_scn (versions_at blocks table rid) ≡ last_touch h table rid). let past = last_touch-le-scn h table rid in omega (arith, is, past))
      (λ (gone : IsLetGo h blocks table rid). let none = gone.none in omega (arith, none))
      (latest_kept h blocks kept table rid);
}

-- ---- without a history

-- no versions are of earlier commits than any
pub IsBefore-nil : (number : ℕ) → 0 < number → IsBefore no_versions number
IsBefore-nil number some = record { each = λ table rid. let none = ap newest_scn (versions_at-nil table rid) in omega (arith, none, some) }

-- room changes no version
pub IsBefore-same : (old new : AllVersions) (number : ℕ) → SameVersions old new → IsBefore old number → IsBefore new number
IsBefore-same old new number same before = record {
  each = λ table rid. let equal = ap newest_scn (same.versions table rid) in let earlier = before.each table rid in omega (arith, equal, earlier);
}

either_below : (b : Bool) (number newest : ℕ) → newest < number → (if b then number else newest) < number + 1
either_below true number newest earlier = omega arith
either_below false number newest earlier = omega (arith, earlier)

-- after a commit the next one can be applied
pub IsBefore-applied : (old new : AllVersions) (number : ℕ) (changes : List Change) → Applied old new number changes → IsBefore old number →
    IsBefore new (number + 1)
IsBefore-applied old new number changes applied before = record {
  each = λ table rid.
      rw (applied.versions table rid, newest_scn-version_by (versions_at old table rid) number changes table rid)
      (either_below (touches changes table rid) number (newest_scn (versions_at old table rid)) (before.each table rid));
}

-- after a purge each commit can be applied that could be before
pub IsBefore-purged : (old new : AllVersions) (floor number : ℕ) → Purged old new floor → IsBefore old number → IsBefore new number
IsBefore-purged old new floor number purged before = record {
  each = λ table rid.
      let here = ap newest_scn (purged.versions table rid) in
      let earlier = before.each table rid in
      ⊎_elim
      (λ (same : newest_scn (cut floor (versions_at old table rid)) ≡ newest_scn (versions_at old table rid)). omega (arith, here, same, earlier))
      (λ (left : NoneLeft floor (versions_at old table rid)). let none = left.none in omega (arith, here, none, earlier))
      (newest_scn-cut floor (versions_at old table rid) (purged.rising table rid));
}

-- and each reading at the floor or above it is as before
pub rows_purged : (old new : AllVersions) (floor : ℕ) → Purged old new floor → (table rid n : ℕ) → floor ≤ n →
    row_at (versions_at new table rid) n ≡ row_at (versions_at old table rid) n
rows_purged old new floor purged table rid n above =
    ap (λ (v : List Version). row_at v n) (purged.versions table rid) ∙ row_at-cut floor n (versions_at old table rid) (purged.rising table rid) above

-- a purge leaves no more versions than there were
pub standing_purged : (old new : AllVersions) (floor : ℕ) → Purged old new floor → standing new ≤ standing old
standing_purged old new floor purged =
    standing-le new old (λ table rid. subst (λ (n : ℕ). n ≤ length (versions_at old table rid)) (sym (ap length (purged.versions table rid)))
    (length-cut floor (versions_at old table rid)))

-- ---- how many versions stand

-- the versions of a row number that stand
kept_at-is : (h : History) (blocks : AllVersions) → IsKept h blocks → (table rid : ℕ) → standing_at blocks table rid ≡ kept_at h table rid
kept_at-is h blocks keeps table rid =
    ap length (keeps.each table rid)
    ∙ (length-left (horizon h) (versions_of h table rid)
    ∙ (ap (λ (n : ℕ). n + (if is_some (row_at (versions_of h table rid) (horizon h)) then 1 else 0)) (above-horizon h table rid)
    ∙ ap (λ (row : Option Row). touching (drop (horizon h) (commits h)) table rid + (if is_some row then 1 else 0)) (row_at-versions_of h table rid (horizon h))))

-- one that was not given has none
kept_at-past : (h : History) (blocks : AllVersions) → IsKept h blocks → (table rid : ℕ) → given h table ≤ rid → standing_at blocks table rid ≡ 0
unfolding versions_of
kept_at-past h blocks keeps table rid past =
    ap length (keeps.each table rid)
    ∙ ap length (ap (cut (horizon h)) (none-from 1 (commits h) table rid (none-touches h table rid past)) ∙ cut-none (horizon h))

kept_of-is : (h : History) (blocks : AllVersions) → IsKept h blocks → (table : ℕ) → standing_of blocks table ≡ kept_of h table
kept_of-is h blocks keeps table =
    standing-of blocks table (given h table) (λ rid past. kept_at-past h blocks keeps table rid past)
    ∙ sum-agree (standing_at blocks table) (kept_at h table) 0 (given h table) (λ rid low high. kept_at-is h blocks keeps table rid)

-- a table of which no row number was given has none
kept_of-none : (h : History) (table : ℕ) → given h table ≡ 0 → kept_of h table ≡ 0
kept_of-none h table none = ap (λ (n : ℕ). sum_by (kept_at h table) (range_with_len 0 n)) none

-- as many as the history says
pub standing_kept : (limits : Limits) (h : History) (blocks : AllVersions) → IsLegal limits h → IsKept h blocks → standing blocks ≡ kept h
unfolding kept
standing_kept limits h blocks legal keeps =
    let count = length (tables h) in
    let first = kept_of-none h 0 (none-given limits h 0 legal (inl refl)) in
    let all = sum-parts (kept_of h) 0 1 count in
    let one = sum-one (kept_of h) 0 in
    let behind : 0 + 1 ≡ 1 = omega arith in
    let rest = ap (λ (n : ℕ). sum_by (kept_of h) (range_with_len n count)) behind in
    standing-by blocks (1 + count) (λ table past. kept_of-is h blocks keeps table
    ∙ kept_of-none h table (none-given limits h table legal (inr (omega (arith, past)))))
    ∙ (sum-agree (standing_of blocks) (kept_of h) 0 (1 + count) (λ table low high. kept_of-is h blocks keeps table) ∙ omega (arith, all, one, first, rest))
