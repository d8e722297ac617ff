-- What is kept agrees with the history, one entry of the column store on.
use Rattle.std.proofs.Common.{◌≡◌, ℕ, ◌+◌, ◌-◌, ◌<◌, ◌≤◌, Bool, true, false, List, [], ◌∷◌, ◌++◌, length, set, Option, Some, None, count_by, is_some, refl, sym, ap, ◌∙◌, arith}
use Rattle.std.specs.Option.{option_map}
use Rattle.im_values.specs.declared.limits.TheConstants.{NUMBERS}
use Rattle.im_history.specs.declared.entry.Entry.{Entry}
use Rattle.im_values.specs.declared.priority.Priority.{Priority}
use Rattle.im_history.specs.declared.entry.What.{What}
use Rattle.im_history.specs.declared.entry.What.TheVariants.{Memory, Switch, Cancel, Trickle, Evict, Leave}
use Rattle.im_history.specs.declared.limits.Limits.{Limits}
use Rattle.im_history.specs.declared.look.TableInfo.{TableInfo}
use Rattle.im_history.specs.declared.task.Choice.{Choice}
use Rattle.im_history.specs.declared.task.Held.{Held}
use Rattle.im_history.specs.Area.{used}
use Rattle.im_history.specs.Commits.{moves_clock}
use Rattle.im_history.specs.Horizon.{moves_horizon}
use Rattle.im_history.specs.Legal.{IsAllowed, MayCancel, MayLeave, MaySetMemory, used_with}
use Rattle.im_history.specs.History.{History}
use Rattle.im_history.specs.Queue.{build_of, next}
use Rattle.im_history.specs.Stored.{Stored}
use Rattle.im_history.specs.Tables.{remembered}
use Rattle.im_history.specs.Transactions.{begun, begun_after}
use Rattle.im_history.specs.Units.{Content, builds, content_at, held_at, unit, unit_content}
use Rattle.im_history.proofs.ExtentLaws.{extents-of-units}
use Rattle.im_history.proofs.Laws.{IsLegal-push, weight-push}
use Rattle.im_history.proofs.NextLaws.{next-is}
use Rattle.im_blocks.proofs.ForCallers.{IsKept-quiet}
use Rattle.im_directory.specs.Agreement.{next_build}
use Rattle.im_directory.specs.Agrees.{Agrees as IsOf, scn_of}
use Rattle.im_directory.specs.Effects.{IsBegun, IsCancelled, IsDropped, IsSwitched}
use Rattle.im_directory.specs.Lists.{used_in}
use Rattle.im_directory.specs.Slots.{Kept, Stock, told_at, unit_in}
use Rattle.im_directory.proofs.CountLaws.{count-begun, count-killed, count-one-ended}
use Rattle.im_directory.proofs.ForCallers.{Agrees-apart as units-apart, Agrees-begin, Agrees-cancel, Agrees-drop, Agrees-switch, used-by}
use Rattle.im_txn.specs.Agrees.{is_apart}
use Rattle.im_txn.proofs.ForCallers.{Agrees-apart}
use Rattle.im_core.specs.inner.Holds.{Caches, Holds, owed}
use Rattle.im_core.proofs.BeginLemmas.{as_it_was, Began-kept}
use Rattle.im_core.proofs.CountLemmas.{IsLight, Counts-light, Counts-memory, light-build, light-cancel, light-evict, light-leave, light-switch, light-trickle, weight-light}
use Rattle.im_core.proofs.HoldsLemmas.{Grew, grew-spare}
use Rattle.im_core.proofs.ViewLemmas.{Views-push}

-- an entry of this kind begins no transaction, ends none, commits nothing, and leaves the horizon
pub record IsOfStore (what : What) : Type 0 where
  pub light : IsLight what
  pub quiet : moves_clock what ≡ false
  pub still : moves_horizon what ≡ false
  pub apart : is_apart what ≡ true
  pub begins : (place : ℕ) (began : Option ℕ) → begun_after place began what ≡ began

-- the unit that is kept of an extent is the history's
scn_by : {U : Type 0} (content : U → Content) (current : Option (Stock U)) (of : U) → option_map (λ (stock : Stock U). stock.unit) current ≡ Some of
    → scn_of content current ≡ Some (content of).scn
scn_by content None of is = cc
scn_by content (Some stock) of is = let same : stock.unit ≡ of = cc in ap (λ u. Some (content u).scn) same

pub unit-by : {U : Type 0} (content : U → Content) (h : History) (kept : Kept U) (table extent : ℕ) (of : U) → IsOf content h kept
    → unit_in kept table extent ≡ Some of → unit h table extent ≡ Some (content of).scn
unit-by content h kept table extent of agrees is = sym (agrees.units table extent) ∙ scn_by content (told_at kept table extent).current of is

-- one function after another
pub option_map-both : {X Y Z : Type 0} (f : Y → Z) (g : X → Y) (x : Option X) → option_map (λ (x : X). f (g x)) x ≡ option_map f (option_map g x)
option_map-both f g None = refl
option_map-both f g (Some x) = refl

-- and so is what it holds
pub unit_content-by : {U : Type 0} (content : U → Content) (h : History) (kept : Kept U) (table extent : ℕ) → IsOf content h kept
    → option_map content (unit_in kept table extent) ≡ unit_content h table extent
unit_content-by {U} content h kept table extent agrees = by (told_at kept table extent).current refl
  where
    by : (o : Option (Stock U)) → (told_at kept table extent).current ≡ o
        → option_map content (option_map (λ (stock : Stock U). stock.unit) o) ≡ unit_content h table extent
    by None is = ap (option_map (content_at h table extent)) (ap (scn_of content) (sym is) ∙ agrees.units table extent)
    by (Some stock) is =
        ap Some (agrees.stock table extent stock is).holds
        ∙ ap (option_map (content_at h table extent)) (ap (scn_of content) (sym is) ∙ agrees.units table extent)

module _ {U : Type 0} (content : U → Content) (limits : Limits) (history : Stored) (caches : Caches U) where
  store_step : (after : Stored) (entry : Entry) (room : ℕ) (new : Kept U) → Holds content limits history caches → entry.who < NUMBERS
      → Grew history after entry room → IsOfStore entry.what → IsAllowed limits history.entries entry.who entry.what
      → IsOf content (history.entries ++ entry ∷ []) new → owed caches.standing new + 1 ≤ room → Holds content limits after (record caches { kept = new })
  store_step after entry room new holds known grew of allowed units few = record {
    small = holds.small;
    legal = rw grew.entries (IsLegal-push limits history.entries entry holds.legal known allowed);
    within = rw (grew.entries, weight-light history.entries entry of.light) holds.within;
    tables = rw grew.entries (Counts-light history.entries entry caches.catalog caches.counts caches.weighed of.light holds.tables);
    began =
        rw grew.entries
        (Began-kept history.entries entry caches.beginnings (as_it_was (of.begins (length history.entries) (begun history.entries entry.who))) holds.began);
    views = rw grew.entries (Views-push history.entries entry holds.views);
    rows = rw grew.entries (IsKept-quiet history.entries entry caches.blocks of.quiet of.still holds.rows);
    sessions = rw grew.entries (Agrees-apart history.entries entry.who entry.what caches.standing of.apart holds.sessions);
    units = rw grew.entries units;
    room = let more = grew.spare in omega (arith, more, few);
  }

  -- a build begins
  pub Holds-build : (after : Stored) (who : ℕ) (choice : Choice) (held : Held) (new : Kept U) → Holds content limits history caches
      → who < NUMBERS → next history.entries ≡ Some choice
      → held ≡ next_build history.entries who choice.table choice.extent choice.trickle
      → Grew history after (record { who = who; what = build_of history.entries choice }) (owed caches.standing caches.kept + 2)
      → IsBegun caches.kept new held → Holds content limits after (record caches { kept = new })
  Holds-build after who choice held new holds known comes held_is grew begun_one =
      let more : count_by is_some new.builds ≡ count_by is_some caches.kept.builds + 1 =
      ap (count_by is_some) begun_one.builds ∙ count-begun caches.kept.builds held in
      let found = next-is history.entries choice comes in
      store_step after (record { who = who; what = build_of history.entries choice }) (owed caches.standing caches.kept + 2) new holds
      known grew
      (record {
        light = light-build (builds history.entries + 1) choice.table choice.extent choice.trickle;
        quiet = refl;
        still = refl;
        apart = refl;
        begins = λ place began. refl;
      })
      (record { comes = comes; numbered = refl })
      (Agrees-begin content history.entries who choice.table choice.extent choice.trickle held caches.kept new holds.units found.exists found.alone
      held_is begun_one)
      (omega (arith, more))

  -- a room is owed for the end of a held build
  pub owed-held : (id : ℕ) (held : Held) → Holds content limits history caches → held_at history.entries id ≡ Some held → 1 ≤ history.spare
  owed-held id held holds is =
      let fewer = count-one-ended caches.kept.builds id held (holds.units.held id ∙ is) in
      let room = holds.room in
      omega (arith, fewer, room)

  -- one build less is held
  ended : (id : ℕ) (held : Held) (new : Kept U) → Holds content limits history caches → held_at history.entries id ≡ Some held → held.task.id ≡ id
      → new.builds ≡ set caches.kept.builds (held.task.id - 1) None → count_by is_some new.builds + 1 ≡ count_by is_some caches.kept.builds
  ended id held new holds is numbered builds_are =
      ap (λ (b : List (Option Held)). count_by is_some b + 1) (builds_are ∙ ap (λ n. set caches.kept.builds (n - 1) None) numbered)
      ∙ count-one-ended caches.kept.builds id held (holds.units.held id ∙ is)

  -- a build's unit becomes current
  pub Holds-switch : (after : Stored) (who id : ℕ) (held : Held) (of : U) (new : Kept U) → Holds content limits history caches → who < NUMBERS
      → held_at history.entries id ≡ Some held → held.who ≡ who → held.killed ≡ None → held.task.id ≡ id
      → content of ≡ content_at history.entries held.task.table held.task.extent held.task.scn
      → used_with history.entries held ≤ limits.area
      → after ≡ record { entries = history.entries ++ record { who = who; what = Switch id } ∷ []; spare = history.spare - 1 }
      → IsSwitched caches.kept new held of → Holds content limits after (record caches { kept = new })
  Holds-switch after who id held of new holds known is mine lives numbered holds_rows fits added switched =
      let count : count_by is_some new.builds + 1 ≡ count_by is_some caches.kept.builds = ended id held new holds is numbered switched.builds in
      let room = holds.room in
      store_step after (record { who = who; what = Switch id }) history.spare new holds known
      (grew-spare history after (record { who = who; what = Switch id }) (owed-held id held holds is) added)
      (record { light = light-switch id; quiet = refl; still = refl; apart = refl; begins = λ place began. refl })
      (record { may = record { held = held; is = is; mine = mine }; lives = lives; fits = fits })
      (Agrees-switch content history.entries who id held of caches.kept new holds.units is lives holds_rows switched)
      (omega (arith, count, room))

  -- a build is cancelled
  pub Holds-cancel : (after : Stored) (who id : ℕ) (full : Bool) (held : Held) (new : Kept U) → Holds content limits history caches → who < NUMBERS
      → held_at history.entries id ≡ Some held → held.task.id ≡ id → MayCancel limits history.entries who id full
      → after ≡ record { entries = history.entries ++ record { who = who; what = Cancel id full } ∷ []; spare = history.spare - 1 }
      → IsCancelled caches.kept new held full → Holds content limits after (record caches { kept = new })
  Holds-cancel after who id full held new holds known is numbered may added cancelled =
      let count : count_by is_some new.builds + 1 ≡ count_by is_some caches.kept.builds = ended id held new holds is numbered cancelled.builds in
      let room = holds.room in
      store_step after (record { who = who; what = Cancel id full }) history.spare new holds known
      (grew-spare history after (record { who = who; what = Cancel id full }) (owed-held id held holds is) added)
      (record { light = light-cancel id full; quiet = refl; still = refl; apart = refl; begins = λ place began. refl })
      may
      (Agrees-cancel content history.entries who id full held caches.kept new holds.units is cancelled)
      (omega (arith, count, room))

  -- a unit is evicted
  pub Holds-evict : (after : Stored) (who table extent place : ℕ) (new : Kept U) → Holds content limits history caches → who < NUMBERS
      → is_some (unit history.entries table extent) ≡ true → place ≡ length history.entries
      → Grew history after (record { who = who; what = Evict table extent }) (owed caches.standing caches.kept + 1)
      → IsDropped caches.kept new place (Evict table extent) → Holds content limits after (record caches { kept = new })
  Holds-evict after who table extent place new holds known there place_is grew dropped =
      let count : count_by is_some new.builds ≡ count_by is_some caches.kept.builds =
      ap (count_by is_some) dropped.builds ∙ count-killed caches.kept.builds _ in
      store_step after (record { who = who; what = Evict table extent }) (owed caches.standing caches.kept + 1) new holds known grew
      (record { light = light-evict table extent; quiet = refl; still = refl; apart = refl; begins = λ place began. refl })
      there
      (Agrees-drop content history.entries who (Evict table extent) caches.kept new refl holds.units (rw place_is at dropped))
      (omega (arith, count))

  -- credits are given
  pub Holds-trickle : (after : Stored) (who count : ℕ) → Holds content limits history caches → who < NUMBERS
      → Grew history after (record { who = who; what = Trickle count }) (owed caches.standing caches.kept + 1) → Holds content limits after caches
  Holds-trickle after who count holds known grew =
      store_step after (record { who = who; what = Trickle count }) (owed caches.standing caches.kept + 1) caches.kept holds known grew
      (record { light = light-trickle count; quiet = refl; still = refl; apart = refl; begins = λ place began. refl })
      tt (units-apart content history.entries who (Trickle count) caches.kept refl holds.units) (omega arith)

  -- a session leaves
  pub Holds-leave : (after : Stored) (who : ℕ) → Holds content limits history caches → who < NUMBERS → MayLeave history.entries who
      → Grew history after (record { who = who; what = Leave }) (owed caches.standing caches.kept + 1) → Holds content limits after caches
  Holds-leave after who holds known may grew =
      store_step after (record { who = who; what = Leave }) (owed caches.standing caches.kept + 1) caches.kept holds known grew
      (record { light = light-leave; quiet = refl; still = refl; apart = refl; begins = λ place began. refl })
      may (units-apart content history.entries who Leave caches.kept refl holds.units) (omega arith)

  -- what the units take is the history's
  pub used-is : Holds content limits history caches → used_in content caches.kept.slots ≡ used history.entries
  used-is holds = used-by content history.entries caches.kept holds.units (extents-of-units limits history.entries holds.legal)

  -- a table joins the column store or leaves it
  pub Holds-memory : (after : Stored) (who table : ℕ) (priority : Option Priority) (new_catalog : List TableInfo) (new : Kept U)
      → Holds content limits history caches → who < NUMBERS → MaySetMemory history.entries who table → new_catalog ≡ remembered table priority caches.catalog
      → IsOf content (history.entries ++ record { who = who; what = Memory table priority } ∷ []) new
      → owed caches.standing new ≡ owed caches.standing caches.kept
      → Grew history after (record { who = who; what = Memory table priority }) (owed caches.standing caches.kept + 1)
      → Holds content limits after (record caches { catalog = new_catalog; kept = new })
  Holds-memory after who table priority new_catalog new holds known may catalog_is units same grew =
      let h = history.entries in
      let entry : Entry = record { who = who; what = Memory table priority } in
      record {
        small = holds.small;
        legal = rw grew.entries (IsLegal-push limits h entry holds.legal known may);
        within = rw (grew.entries, weight-push h entry) holds.within;
        tables = rw (grew.entries, catalog_is) (Counts-memory h who table priority caches.catalog caches.counts caches.weighed holds.tables);
        began = rw grew.entries (Began-kept h entry caches.beginnings (as_it_was refl) holds.began);
        views = rw grew.entries (Views-push h entry holds.views);
        rows = rw grew.entries (IsKept-quiet h entry caches.blocks refl refl holds.rows);
        sessions = rw grew.entries (Agrees-apart h who (Memory table priority) caches.standing refl holds.sessions);
        units = rw grew.entries units;
        room = let more = grew.spare in omega (arith, more, same);
      }

  pub Holds-joined : (after : Stored) (who table : ℕ) (level : Priority) (new_catalog : List TableInfo) → Holds content limits history caches → who < NUMBERS
      → MaySetMemory history.entries who table → new_catalog ≡ remembered table (Some level) caches.catalog
      → Grew history after (record { who = who; what = Memory table (Some level) }) (owed caches.standing caches.kept + 1)
      → Holds content limits after (record caches { catalog = new_catalog })
  Holds-joined after who table level new_catalog holds known may catalog_is grew =
      Holds-memory after who table (Some level) new_catalog caches.kept holds known may catalog_is
      (units-apart content history.entries who (Memory table (Some level)) caches.kept refl holds.units) refl grew

  pub Holds-left : (after : Stored) (who table place : ℕ) (new_catalog : List TableInfo) (new : Kept U) → Holds content limits history caches → who < NUMBERS
      → MaySetMemory history.entries who table → new_catalog ≡ remembered table None caches.catalog → place ≡ length history.entries
      → Grew history after (record { who = who; what = Memory table None }) (owed caches.standing caches.kept + 1)
      → IsDropped caches.kept new place (Memory table None) → Holds content limits after (record caches { catalog = new_catalog; kept = new })
  Holds-left after who table place new_catalog new holds known may catalog_is place_is grew dropped =
      Holds-memory after who table None new_catalog new holds known may catalog_is
      (Agrees-drop content history.entries who (Memory table None) caches.kept new refl holds.units (rw place_is at dropped))
      (ap (λ n. caches.standing.owed + n) (ap (count_by is_some) dropped.builds ∙ count-killed caches.kept.builds _)) grew
