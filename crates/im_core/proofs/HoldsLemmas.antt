-- What is kept agrees with the history, one entry on.
use Rattle.std.proofs.Common.{◌≡◌, ℕ, ◌+◌, ◌-◌, ◌<◌, ◌≤◌, Bool, true, false, max, List, [], ◌∷◌, ◌++◌, length, set, replicate, count_by, is_some, Option, Some, None, refl, ap, ◌∙◌, arith}
use Rattle.std.proofs.lemmas.List.{length-replicate}
use Rattle.std.specs.Option.{option_map}
use Rattle.im_values.specs.declared.limits.TheConstants.{MOST_CHANGES, MOST_TABLES, MOST_WEIGHT, NUMBERS}
use Rattle.im_values.specs.declared.content.Content.{Content as Value}
use Rattle.im_values.specs.declared.schema.Column.{Column}
use Rattle.im_history.specs.declared.change.Change.{Change}
use Rattle.im_history.specs.declared.entry.Entry.{Entry}
use Rattle.im_history.specs.declared.entry.Mode.{Mode}
use Rattle.im_history.specs.declared.entry.What.{What}
use Rattle.im_history.specs.declared.entry.What.TheVariants.{Create, Add, Begin, Open, Shut, Write, Commit, Rollback, Purge}
use Rattle.im_history.specs.declared.limits.Limits.{Limits}
use Rattle.im_history.specs.declared.refused.Why.TheVariants.{TransactionOpen}
use Rattle.im_history.specs.declared.look.TableInfo.{TableInfo}
use Rattle.im_history.specs.Commits.{scn}
use Rattle.im_history.specs.Cursors.{is_cursor_open}
use Rattle.im_history.specs.Grid.{Grid}
use Rattle.im_history.specs.History.{replay}
use Rattle.im_history.specs.Horizon.{horizon, keep}
use Rattle.im_history.specs.Legal.{IsAllowed, Exists, MayAdd, MayCreate}
use Rattle.im_history.specs.Refusals.{begin_refusal, open_refusal}
use Rattle.im_history.specs.Stored.{Stored}
use Rattle.im_history.specs.Tables.{tables, given, lengthened, new_table}
use Rattle.im_history.specs.Transactions.{begun, is_open, pending}
use Rattle.im_history.specs.Units.{Content}
use Rattle.im_history.specs.Weights.{weight, changes_weight}
use Rattle.im_history.proofs.HorizonLaws.{horizon-le-keep, horizon-push}
use Rattle.im_history.proofs.Laws.{IsLegal-push, weight-push}
use Rattle.im_blocks.specs.Chains.{AllVersions, no_versions}
use Rattle.im_blocks.specs.Kept.{IsKept}
use Rattle.im_blocks.specs.Transitions.{SameVersions, Applied, Purged}
use Rattle.im_blocks.proofs.ForCallers.{IsKept-nil, IsKept-quiet, IsKept-create, IsKept-add, IsKept-same, IsKept-commit, IsKept-purge}
use Rattle.im_txn.specs.Agrees.{Agrees, cursor_of}
use Rattle.im_txn.specs.Effects.{IsIdle, IsBegun, IsOpened, IsShut, IsWritten, IsEnded, IsGrown}
use Rattle.im_txn.specs.Standing.{Standing, IsFree}
use Rattle.im_txn.proofs.ForCallers.{Agrees-nil, Agrees-begin, Agrees-open, Agrees-shut, Agrees-write, Agrees-commit, Agrees-rollback, Agrees-apart, Agrees-grown, owed-open, owed-cursor, owed-begun, owed-write-most, owed-opened, owed-shut, owed-ended, owed-ended-none}
use Rattle.im_directory.specs.Agrees.{Agrees as IsOf}
use Rattle.im_directory.specs.Effects.{IsNew, IsNoted, SameTold}
use Rattle.im_directory.specs.Slots.{Kept}
use Rattle.im_directory.proofs.ForCallers.{Agrees-new as units-new, Agrees-told as units-told, Agrees-apart as units-apart, Agrees-commit as units-commit}
use Rattle.im_core.specs.inner.Holds.{Caches, Holds, owed}
use Rattle.im_core.specs.inner.Kept.{Began, Gives, beginning_at}
use Rattle.im_core.proofs.BeginLemmas.{as_it_was, ended, Began-kept, Began-begun, Began-set}
use Rattle.im_core.proofs.CountLemmas.{IsLight, light-begin, light-open, light-shut, light-commit, light-rollback, light-purge, weight-light, Counts-light, Counts-create, Counts-add, Counts-write}
use Rattle.im_core.proofs.ViewLemmas.{Views-nil, Views-push}
use Rattle.im_core.proofs.WriteLemmas.{room_left}

-- an entry was added, so much room having been made before
pub record Grew (history after : Stored) (entry : Entry) (room : ℕ) : Type 0 where
  pub entries : after.entries ≡ history.entries ++ entry ∷ []
  pub spare : room ≤ after.spare + 1

pub grew-reserved : (history reserved after : Stored) (entry : Entry) (room : ℕ) → reserved ≡ record history { spare = max history.spare room }
    → after ≡ record { entries = reserved.entries ++ entry ∷ []; spare = reserved.spare - 1 } → Grew history after entry room
grew-reserved history reserved after entry room made added = record {
  entries = ap (λ (s : Stored). s.entries) added ∙ ap (λ (s : Stored). s.entries ++ entry ∷ []) made;
  spare =
      let now : after.spare ≡ max history.spare room - 1 = ap (λ (s : Stored). s.spare) added ∙ ap (λ (s : Stored). s.spare - 1) made in
      omega (arith, now);
}

pub grew-spare : (history after : Stored) (entry : Entry) → 1 ≤ history.spare
    → after ≡ record { entries = history.entries ++ entry ∷ []; spare = history.spare - 1 } → Grew history after entry history.spare
grew-spare history after entry some added = record {
  entries = ap (λ (s : Stored). s.entries) added;
  spare = let now : after.spare ≡ history.spare - 1 = ap (λ (s : Stored). s.spare) added in omega (arith, now);
}

-- an entry of whoever has this number
pub grew-who : (history after : Stored) (number who room : ℕ) (what : What) → number ≡ who
    → Grew history after (record { who = number; what = what }) room → Grew history after (record { who = who; what = what }) room
grew-who history after number who room what same grew = rw same at grew

-- and it is a number
pub is-number : (number who : ℕ) → number ≡ who → number < NUMBERS → who < NUMBERS
is-number number who same few = rw same at few

-- an entry of changes that are these
pub grew-write : (history after : Stored) (who room : ℕ) (kept changes : List Change) → kept ≡ changes
    → Grew history after (record { who = who; what = Write kept }) room → Grew history after (record { who = who; what = Write changes }) room
grew-write history after who room kept changes same grew = rw same at grew

module _ {U : Type 0} (content : U → Content) (limits : Limits) (history : Stored) (caches : Caches U) where
  -- more room for sessions
  pub Holds-grown : (new : Standing) → Holds content limits history caches → IsGrown caches.standing new
      → Holds content limits history (record caches { standing = new })
  Holds-grown new holds grown = record {
    small = holds.small;
    legal = holds.legal;
    within = holds.within;
    tables = holds.tables;
    began = holds.began;
    views = holds.views;
    rows = holds.rows;
    sessions = Agrees-grown history.entries caches.standing new holds.sessions grown;
    units = holds.units;
    room = rw (grown.owed) holds.room;
  }

  -- more room for what a commit applies and notes
  pub Holds-roomier : (new_blocks : AllVersions) (new_kept : Kept U) → Holds content limits history caches → SameVersions caches.blocks new_blocks
      → SameTold caches.kept new_kept → Holds content limits history (record caches { blocks = new_blocks; kept = new_kept })
  Holds-roomier new_blocks new_kept holds same told =
      let count : count_by is_some new_kept.builds ≡ count_by is_some caches.kept.builds = ap (count_by is_some) told.builds in
      let owes = holds.room in
      record {
        small = holds.small;
        legal = holds.legal;
        within = holds.within;
        tables = holds.tables;
        began = holds.began;
        views = holds.views;
        rows = IsKept-same history.entries caches.blocks new_blocks same holds.rows;
        sessions = holds.sessions;
        units = units-told content history.entries caches.kept new_kept holds.units told;
        room = omega (arith, owes, count);
      }

  -- all is told as before of the column store
  pub Holds-told : (new_kept : Kept U) → Holds content limits history caches → SameTold caches.kept new_kept
      → Holds content limits history (record caches { kept = new_kept })
  Holds-told new_kept holds told =
      Holds-roomier caches.blocks new_kept holds
      (record { versions = λ table rid. refl; ready = λ table rid put ready. ready; cells = λ table rid has. has; room = omega arith }) told

  -- more room in the history
  pub Holds-reserved : (reserved : Stored) (room : ℕ) → Holds content limits history caches → reserved ≡ record history { spare = max history.spare room }
      → Holds content limits reserved caches
  Holds-reserved reserved room holds made =
      let owes = holds.room in
      rw made (record {
        small = holds.small;
        legal = holds.legal;
        within = holds.within;
        tables = holds.tables;
        began = holds.began;
        views = holds.views;
        rows = holds.rows;
        sessions = holds.sessions;
        units = holds.units;
        room = omega (arith, owes);
      })

  -- an entry that is light, and leaves the rows
  light_step : (after : Stored) (entry : Entry) (room : ℕ) (new_beginnings : List ℕ) (new_blocks : AllVersions) (new : Standing) (new_kept : Kept U)
      → Holds content limits history caches → entry.who < NUMBERS → Grew history after entry room → IsLight entry.what
      → IsAllowed limits history.entries entry.who entry.what → Began (history.entries ++ entry ∷ []) new_beginnings
      → IsKept (history.entries ++ entry ∷ []) new_blocks → Agrees (history.entries ++ entry ∷ []) new → IsOf content (history.entries ++ entry ∷ []) new_kept
      → owed new new_kept + 1 ≤ room
      → Holds content limits after (record caches { beginnings = new_beginnings; blocks = new_blocks; standing = new; kept = new_kept })
  light_step after entry room new_beginnings new_blocks new new_kept holds known grew light allowed began rows sessions units few = record {
    small = holds.small;
    legal = rw grew.entries (IsLegal-push limits history.entries entry holds.legal known allowed);
    within = rw (grew.entries, weight-light history.entries entry light) holds.within;
    tables = rw grew.entries (Counts-light history.entries entry caches.catalog caches.counts caches.weighed light holds.tables);
    began = rw grew.entries began;
    views = rw grew.entries (Views-push history.entries entry holds.views);
    rows = rw grew.entries rows;
    sessions = rw grew.entries sessions;
    units = rw grew.entries units;
    room = let more = grew.spare in omega (arith, more, few);
  }

  pub Holds-begin : (after : Stored) (who index place : ℕ) (mode : Mode) (s : ℕ) (new : Standing) → Holds content limits history caches → who < NUMBERS
      → index ≡ who → begin_refusal history.entries who ≡ None → place ≡ length history.entries → s ≡ scn history.entries
      → Grew history after (record { who = who; what = Begin mode }) (owed caches.standing caches.kept + 2) → IsBegun caches.standing new who place mode
      → Holds content limits after (record caches { beginnings = set caches.beginnings index s; standing = new })
  Holds-begin after who index place mode s new holds known index_is allowed place_is s_is grew is =
      let none : begun history.entries who ≡ None = none_begun (begun history.entries who) allowed in
      let idle : is_open history.entries who ≡ false = rw none refl in
      let one = owed-begun history.entries who place mode caches.standing new holds.sessions idle is in
      rw (index_is, s_is)
      (light_step after (record { who = who; what = Begin mode }) (owed caches.standing caches.kept + 2)
      (set caches.beginnings who (scn history.entries)) caches.blocks new caches.kept holds known grew (light-begin mode) allowed
      (Began-begun history.entries (record { who = who; what = Begin mode }) caches.beginnings known none holds.began)
      (IsKept-quiet history.entries (record { who = who; what = Begin mode }) caches.blocks refl refl holds.rows)
      (Agrees-begin history.entries who mode caches.standing new holds.sessions known (rw place_is at is))
      (units-apart content history.entries who (Begin mode) caches.kept refl holds.units)
      (omega (arith, one)))
    where
      none_begun : (o : Option ℕ) → option_map (λ p. TransactionOpen p) o ≡ None → o ≡ None
      none_begun None e = refl
      none_begun (Some p) e = cc

  pub Holds-open : (after : Stored) (who cursor table : ℕ) (asked : Option ℕ) (mid new : Standing) → Holds content limits history caches → who < NUMBERS
      → Exists history.entries table → open_refusal history.entries who cursor asked ≡ None → is_cursor_open history.entries who cursor ≡ false
      → IsGrown caches.standing mid → Grew history after (record { who = who; what = Open cursor table asked }) (owed mid caches.kept + 2)
      → IsOpened mid new who (cursor_of history.entries who cursor table asked) → Holds content limits after (record caches { standing = new })
  Holds-open after who cursor table asked mid new holds known exists allowed shut grown grew is =
      let one = owed-opened who (cursor_of history.entries who cursor table asked) mid new is in
      light_step after (record { who = who; what = Open cursor table asked }) (owed mid caches.kept + 2) caches.beginnings caches.blocks new caches.kept holds known
      grew (light-open cursor table asked) (record { exists = exists; allowed = allowed })
      (Began-kept history.entries (record { who = who; what = Open cursor table asked }) caches.beginnings (as_it_was refl) holds.began)
      (IsKept-quiet history.entries (record { who = who; what = Open cursor table asked }) caches.blocks refl refl holds.rows)
      (Agrees-open history.entries who cursor table asked mid new (Agrees-grown history.entries caches.standing mid holds.sessions grown) known shut is)
      (units-apart content history.entries who (Open cursor table asked) caches.kept refl holds.units)
      (omega (arith, one))

  pub Holds-shut : (after : Stored) (who cursor : ℕ) (new : Standing) → Holds content limits history caches → who < NUMBERS
      → is_cursor_open history.entries who cursor ≡ true
      → after ≡ record { entries = history.entries ++ record { who = who; what = Shut cursor } ∷ []; spare = history.spare - 1 }
      → IsShut caches.standing new who cursor → Holds content limits after (record caches { standing = new })
  Holds-shut after who cursor new holds known opened added is =
      let fewer = owed-shut history.entries who cursor caches.standing new holds.sessions opened is in
      let some : 1 ≤ history.spare =
      let owes = owed-cursor history.entries caches.standing who cursor holds.sessions known opened in let room = holds.room in omega (arith, owes, room)
      in
      let room = holds.room in
      light_step after (record { who = who; what = Shut cursor }) history.spare caches.beginnings caches.blocks new caches.kept holds known
      (grew-spare history after (record { who = who; what = Shut cursor }) some added) (light-shut cursor) opened
      (Began-kept history.entries (record { who = who; what = Shut cursor }) caches.beginnings (as_it_was refl) holds.began)
      (IsKept-quiet history.entries (record { who = who; what = Shut cursor }) caches.blocks refl refl holds.rows)
      (Agrees-shut history.entries who cursor caches.standing new holds.sessions known is)
      (units-apart content history.entries who (Shut cursor) caches.kept refl holds.units)
      (omega (arith, fewer, room))

  -- what is owed does not rise when a transaction ends
  owed_after : (who : ℕ) (new : Standing) (b : Bool) → is_open history.entries who ≡ b → Agrees history.entries caches.standing
      → IsEnded caches.standing new who → new.owed ≤ caches.standing.owed
  owed_after who new true e agrees is = let fewer = owed-ended history.entries who caches.standing new agrees e is in omega (arith, fewer)
  owed_after who new false e agrees is = let same = owed-ended-none history.entries who caches.standing new agrees e is in omega (arith, same)

  pub Holds-commit : (after : Stored) (who s : ℕ) (changes : List Change) (mid_blocks new_blocks : AllVersions) (new : Standing)
      (mid_kept new_kept : Kept U)
      → Holds content limits history caches → who < NUMBERS → s ≡ scn history.entries → SameVersions caches.blocks mid_blocks
      → Grew history after (record { who = who; what = Commit }) (owed caches.standing mid_kept + 1) → changes ≡ pending history.entries who
      → IsEnded caches.standing new who → Applied mid_blocks new_blocks (s + 1) changes → SameTold caches.kept mid_kept
      → IsNoted mid_kept new_kept caches.catalog (s + 1) changes
      → Holds content limits after (record caches { blocks = new_blocks; standing = new; kept = new_kept })
  Holds-commit after who s changes mid_blocks new_blocks new mid_kept new_kept holds known s_is same grew changes_are is applied told noted =
      let noted_is : IsNoted mid_kept new_kept (tables history.entries) (scn history.entries + 1) (pending history.entries who) =
      rw (← holds.tables.tables, ← s_is, ← changes_are) noted in
      let count : count_by is_some new_kept.builds ≡ count_by is_some mid_kept.builds = ap (count_by is_some) noted.builds in
      let fewer = owed_after who new (is_open history.entries who) refl holds.sessions is in
      light_step after (record { who = who; what = Commit }) (owed caches.standing mid_kept + 1) caches.beginnings new_blocks new new_kept holds known grew
      light-commit tt
      (Began-kept history.entries (record { who = who; what = Commit }) caches.beginnings (ended refl) holds.began)
      (IsKept-commit history.entries who mid_blocks new_blocks (rw (s_is, changes_are) at applied)
      (IsKept-same history.entries caches.blocks mid_blocks same holds.rows))
      (Agrees-commit history.entries who caches.standing new holds.sessions known is)
      (units-commit content history.entries who mid_kept new_kept (units-told content history.entries caches.kept mid_kept holds.units told) noted_is)
      (omega (arith, fewer, count))

  pub Holds-rollback : (after : Stored) (who : ℕ) (new : Standing) → Holds content limits history caches → who < NUMBERS → is_open history.entries who ≡ true
      → after ≡ record { entries = history.entries ++ record { who = who; what = Rollback } ∷ []; spare = history.spare - 1 }
      → IsEnded caches.standing new who → Holds content limits after (record caches { standing = new })
  Holds-rollback after who new holds known opened added is =
      let fewer = owed-ended history.entries who caches.standing new holds.sessions opened is in
      let room = holds.room in
      let some : 1 ≤ history.spare = let owes = owed-open history.entries caches.standing who holds.sessions known opened in omega (arith, owes, room) in
      light_step after (record { who = who; what = Rollback }) history.spare caches.beginnings caches.blocks new caches.kept holds known
      (grew-spare history after (record { who = who; what = Rollback }) some added) light-rollback opened
      (Began-kept history.entries (record { who = who; what = Rollback }) caches.beginnings (ended refl) holds.began)
      (IsKept-quiet history.entries (record { who = who; what = Rollback }) caches.blocks refl refl holds.rows)
      (Agrees-rollback history.entries who caches.standing new holds.sessions known is)
      (units-apart content history.entries who Rollback caches.kept refl holds.units)
      (omega (arith, fewer, room))

  -- old versions are let go
  pub Holds-purge : (after : Stored) (who floor : ℕ) (new_blocks : AllVersions) → Holds content limits history caches → who < NUMBERS
      → floor ≡ keep history.entries → Grew history after (record { who = who; what = Purge }) (owed caches.standing caches.kept + 1)
      → Purged caches.blocks new_blocks floor → Holds content limits after (record caches { blocks = new_blocks })
  Holds-purge after who floor new_blocks holds known floor_is grew purged =
      let h = history.entries in
      let entry : Entry = record { who = who; what = Purge } in
      let moved : horizon (h ++ entry ∷ []) ≡ keep h = horizon-push h entry in
      light_step after entry (owed caches.standing caches.kept + 1) caches.beginnings new_blocks caches.standing caches.kept holds known grew light-purge tt
      (Began-kept h entry caches.beginnings (as_it_was refl) holds.began)
      (IsKept-purge h who caches.blocks new_blocks (rw moved (horizon-le-keep limits h holds.legal)) (rw (moved, ← floor_is) purged) holds.rows)
      (Agrees-apart h who Purge caches.standing refl holds.sessions)
      (units-apart content h who Purge caches.kept refl holds.units)
      (omega arith)

  pub Holds-create : (after : Stored) (who : ℕ) (name : List ℕ) (schema : List Column) (grid : Grid) → Holds content limits history caches → who < NUMBERS
      → MayCreate history.entries who name schema grid → length caches.catalog < MOST_TABLES
      → Grew history after (record { who = who; what = Create name schema grid }) (owed caches.standing caches.kept + 1)
      → Holds content limits after (record caches {
        catalog = caches.catalog ++ new_table name schema grid ∷ [];
        counts = caches.counts ++ 0 ∷ [];
      })
  Holds-create after who name schema grid holds known may room grew =
      let h = history.entries in
      let entry : Entry = record { who = who; what = Create name schema grid } in
      record {
        small = holds.small;
        legal = rw grew.entries (IsLegal-push limits h entry holds.legal known may);
        within = rw (grew.entries, weight-push h entry) holds.within;
        tables = rw grew.entries (Counts-create h who name schema grid caches.catalog caches.counts caches.weighed room holds.tables);
        began = rw grew.entries (Began-kept h entry caches.beginnings (as_it_was refl) holds.began);
        views = rw grew.entries (Views-push h entry holds.views);
        rows = rw grew.entries (IsKept-create h who name schema grid caches.blocks holds.rows);
        sessions = rw grew.entries (Agrees-apart h who (Create name schema grid) caches.standing refl holds.sessions);
        units = rw grew.entries (units-apart content h who (Create name schema grid) caches.kept refl holds.units);
        room = let more = grew.spare in omega (arith, more);
      }

  pub Holds-made : (after : Stored) (who : ℕ) (name : List ℕ) (schema : List Column) (grid : Grid) (info : TableInfo)
      (new_catalog : List TableInfo) (new_counts : List ℕ)
      → Holds content limits history caches → who < NUMBERS → MayCreate history.entries who name schema grid → length caches.catalog < MOST_TABLES
      → Grew history after (record { who = who; what = Create name schema grid }) (owed caches.standing caches.kept + 1)
      → info ≡ new_table name schema grid → new_catalog ≡ caches.catalog ++ info ∷ []
      → new_counts ≡ caches.counts ++ 0 ∷ [] → Holds content limits after (record caches { catalog = new_catalog; counts = new_counts })
  Holds-made after who name schema grid info new_catalog new_counts holds known may room grew info_is catalog_is counts_are =
      rw (catalog_is, counts_are, info_is) (Holds-create after who name schema grid holds known may room grew)

  pub Holds-add : (after : Stored) (who table : ℕ) (column : Column) (default : Value) (new_catalog : List TableInfo)
      → Holds content limits history caches → who < NUMBERS → MayAdd history.entries who table column default
      → Grew history after (record { who = who; what = Add table column default }) (owed caches.standing caches.kept + 1)
      → new_catalog ≡ lengthened table column default caches.catalog → Holds content limits after (record caches { catalog = new_catalog })
  Holds-add after who table column default new_catalog holds known may grew catalog_is =
      let h = history.entries in
      let entry : Entry = record { who = who; what = Add table column default } in
      record {
        small = holds.small;
        legal = rw grew.entries (IsLegal-push limits h entry holds.legal known may);
        within = rw (grew.entries, weight-push h entry) holds.within;
        tables = rw (grew.entries, catalog_is) (Counts-add h who table column default caches.catalog caches.counts caches.weighed holds.tables);
        began = rw grew.entries (Began-kept h entry caches.beginnings (as_it_was refl) holds.began);
        views = rw grew.entries (Views-push h entry holds.views);
        rows = rw grew.entries (IsKept-add h who table column default caches.blocks holds.rows);
        sessions = rw grew.entries (Agrees-apart h who (Add table column default) caches.standing refl holds.sessions);
        units = rw grew.entries (units-apart content h who (Add table column default) caches.kept refl holds.units);
        room = let more = grew.spare in omega (arith, more);
      }

  pub Holds-write : (after : Stored) (who index place table count begins weight_now : ℕ) (changes : List Change) (mid new : Standing)
      → Holds content limits history caches → who < NUMBERS → index ≡ who → 1 ≤ table → table ≤ length caches.counts
      → IsAllowed limits history.entries who (Write changes) → Gives history.entries table changes count → place ≡ length history.entries
      → begins ≡ beginning_at history.entries who → weight_now ≡ changes_weight changes → IsGrown caches.standing mid → IsFree mid who changes
      → Grew history after (record { who = who; what = Write changes }) (owed mid caches.kept + 2) → IsWritten mid new who place changes
      → Holds content limits after (record caches {
        counts = set caches.counts (table - 1) count;
        weighed = caches.weighed + weight_now;
        beginnings = set caches.beginnings index begins;
        standing = new;
      })
  Holds-write after who index place table count begins weight_now changes mid new
      holds known index_is first last allowed gives place_is begins_is weight_is grown free grew is =
      let h = history.entries in
      let entry : Entry = record { who = who; what = Write changes } in
      let most = owed-write-most who place changes mid new is in
      record {
        small = holds.small;
        legal = rw grew.entries (IsLegal-push limits h entry holds.legal known allowed);
        within = rw (grew.entries, weight-push h entry) (room_left limits h who changes holds.within allowed);
        tables =
            rw (grew.entries, weight_is) (Counts-write h who table count changes caches.catalog caches.counts caches.weighed first last gives holds.tables);
        began = rw (grew.entries, index_is, begins_is) (Began-set h who changes caches.beginnings known holds.began);
        views = rw grew.entries (Views-push h entry holds.views);
        rows = rw grew.entries (IsKept-quiet h entry caches.blocks refl refl holds.rows);
        sessions =
            rw grew.entries (Agrees-write h who changes mid new (Agrees-grown h caches.standing mid holds.sessions grown) known free (rw place_is at is));
        units = rw grew.entries (units-apart content h who (Write changes) caches.kept refl holds.units);
        room = let more = grew.spare in omega (arith, more, most);
      }

-- what is kept where nothing has happened
abbrev pub no_caches : {U : Type 0} → Standing → Kept U → Caches U
no_caches standing kept = record {
  catalog = [];
  counts = [];
  weighed = 0;
  beginnings = replicate NUMBERS 0;
  blocks = no_versions;
  standing = standing;
  kept = kept;
}

-- nothing has happened
pub Holds-nil : {U : Type 0} (content : U → Content) (limits : Limits) (standing : Standing) (kept : Kept U) → limits.store ≤ MOST_WEIGHT
    → limits.changes ≤ MOST_CHANGES → IsIdle standing → IsNew kept → Holds content limits (record { entries = []; spare = 0 }) (no_caches standing kept)
unfolding tables given weight begun replay
Holds-nil content limits standing kept store changes idle fresh = record {
  small = record { store = store; changes = changes };
  legal = record { each = tt };
  within = omega arith;
  tables = record { tables = refl; few = omega arith; long = refl; gives = λ place. refl; weighs = refl; light = λ table. omega arith };
  began = record { numbers = length-replicate {A = ℕ} NUMBERS 0; earlier = λ who place e. absurd (no place e); at = λ who place e. absurd (no place e) };
  views = Views-nil;
  rows = IsKept-nil;
  sessions = Agrees-nil standing idle;
  units = units-new content kept fresh;
  room = let none = idle.owed in let empty : count_by is_some kept.builds ≡ 0 = ap (count_by is_some) fresh.builds in omega (arith, none, empty);
}
  where
    no : (place : ℕ) → None ≡ Some place → ⊥
    no place e = cc
