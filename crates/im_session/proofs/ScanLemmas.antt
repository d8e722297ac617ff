-- A scan over a side of a store: what others leave of it, how its extents are served, and how it ends.
use Rattle.std.proofs.Common.{◌≡◌, ℕ, suc, ◌+◌, ◌-◌, ◌<◌, ◌≤◌, Bool, true, false, if◌then◌else◌, List, [], ◌∷◌, ◌++◌, Option, Some, None, refl, sym, ap, ◌∙◌, subst, arith}
use Rattle.std.specs.List.{find}
use Rattle.im_values.specs.declared.content.Content.{Content as Value}
use Rattle.im_history.specs.declared.cursors.TheConstants.{OWN_CURSOR}
use Rattle.im_history.specs.declared.entry.What.TheVariants as what
use Rattle.im_history.specs.declared.view.View.{View}
use Rattle.im_history.specs.Commits.{scn}
use Rattle.im_history.specs.Cursors.{has_own_open, is_cursor, is_cursor_open}
use Rattle.im_history.specs.History.{History}
use Rattle.im_history.specs.Legal.{Exists}
use Rattle.im_history.specs.Views.{per_at}
use Rattle.im_core.specs.Answers.{cursor_view, view_of}
use Rattle.im_plan.specs.Goes.{After}
use Rattle.im_plan.specs.Plan.{Plan, End}
use Rattle.im_reach.specs.Rests.{Logged, Onward}
use Rattle.im_reach.specs.Sides.{Added, AreOthers, Found, Known, StoreSide, speaks}
use Rattle.im_reach.proofs.RestLaws.{both-came, keeps-logged}
use Rattle.im_reach.proofs.RestLaws as laws
use Rattle.im_replies.specs.declared.reply.Reply.{Reply}
use Rattle.im_replies.specs.declared.served.Served.{Served}
use Rattle.im_session.specs.inner.Rests.{IsDecided, IsRest}
use Rattle.im_session.specs.Cursors.{IsView}
use Rattle.im_session.specs.inner.Scans.{Comes, IsScan, IsShut, Longer, Stops, Went}
use Rattle.im_session.proofs.OtherLemmas.{cursor-after, opened-after, own-after}
use Rattle.im_session.proofs.RestLemmas.{decided-end, rest-look, rest-went}
pub use Rattle.im_session.proofs.RestLemmas.{went-found, went-log}
use Rattle.im_session.proofs.TableLemmas.{exists-longer, per-longer, scn-longer}
use Rattle.im_statements.specs.Outcomes.{Outcome, said}
use Rattle.im_statements.specs.Scans.{end_scan, mark_at, serve}
use Rattle.im_statements.specs.Turns.{amends, memory_reply, shut_open}
use Rattle.im_syntax.specs.Condition.{CondOf}

-- ---- others went on

pub found-went : (old new : Known) → Went old new → Found old new (λ at. at ≡ new.log)
found-went old new went = record { at = new.log; after = went.after; now = went.now; fact = refl }

pub side-went : (old new : Known) → Went old new → new.side ≡ old.side
side-went old new went = ap (λ (s : Known). s.side) went.now

pub speaks-went : (who : ℕ) (old new : Known) → Went old new → speaks old.side who ≡ true → speaks new.side who ≡ true
speaks-went who old new went mine = ap (λ (side : StoreSide). speaks side who) (side-went old new went) ∙ mine

-- an open cursor stays open, and a shut one shut
pub open-went : (who cursor : ℕ) (old new : Known) {b : Bool} → speaks old.side who ≡ true → Went old new → is_cursor_open old.log who cursor ≡ b
    → is_cursor_open new.log who cursor ≡ b
open-went who cursor old new mine went is = cursor-after old.side who cursor old.log new.log mine went.after ∙ is

-- and nothing is open that a statement opened by itself, where nothing was
pub own-went : (who : ℕ) (old new : Known) → speaks old.side who ≡ true → Went old new → has_own_open old.log who ≡ false
    → has_own_open new.log who ≡ false
own-went who old new mine went shut = own-after old.side who old.log new.log mine went.after ∙ shut

pub went-on : (old at new : Known) → Went old at → Went at new → Went old new
went-on old at new first second = record {
  after = both-came old.side old.log at.log new.log first.after
      (subst (λ (side : StoreSide). After (AreOthers side) at.log new.log) (side-went old at first) second.after);
  now = keeps-logged.both old at new first.now second.now;
}

pub longer-went : (old new : Known) → Went old new → Longer old new
longer-went old new went = record { more = went.after.between; log = went.after.log }

-- what is found of a longer history
found-longer : (old new : Known) (P : History → Type 0) → Longer old new → ((more : History) → P (old.log ++ more)) → P new.log
found-longer old new P longer each = subst P (sym longer.log) (each longer.more)

-- a view stays one
pub view-longer : (view : View) (old new : Known) → Longer old new → IsView view old → IsView view new
view-longer view old new longer is = record {
  exists = found-longer old new (λ h. Exists h view.table) longer (λ more. exists-longer old.log more view.table is.exists);
  known = found-longer old new (λ h. view.scn ≤ scn h) longer (λ more. scn-longer old.log more view.scn is.known);
  per = found-longer old new (λ h. view.per ≡ per_at h view.table) longer (λ more. per-longer old.log more view.table view.per is.exists is.per);
  some = is.some;
  cut = is.cut;
  few = is.few;
}

-- an open cursor stays as it is
pub scan-went : (who cursor : ℕ) (view : View) (old new : Known) → speaks old.side who ≡ true → Went old new → IsScan who cursor view old
    → IsScan who cursor view new
scan-went who cursor view old new mine went scan = record {
  is_open = cursor-after old.side who cursor old.log new.log mine went.after ∙ scan.is_open;
  opened = ap (find (is_cursor cursor)) (opened-after old.side who old.log new.log mine went.after) ∙ scan.opened;
  sees = view-longer view old new (longer-went old new went) scan.sees;
}

pub view-scan : (who cursor : ℕ) (view : View) (now : Known) → IsScan who cursor view now → cursor_view now.log who cursor ≡ view
view-scan who cursor view now scan = ap view_of scan.opened

-- ---- how extents are served

-- one more extent was served
pub comes-next : (who k : ℕ) (first old new : Known) (plan : Plan Outcome) (view : View) (filter : Option (CondOf ℕ Value)) (extent : ℕ)
    (marks : List Served) (on : List Served → Plan Outcome) → extent < view.extents → Went old new
    → Comes who k first plan old (serve view filter (view.extents - extent) extent marks on)
    → Comes who k first plan new (serve view filter (view.extents - (extent + 1)) (extent + 1) (marks ++ mark_at new.log view filter extent ∷ []) on)
comes-next who k first old new plan view filter extent marks on within went comes = record {
  rest = λ outcome late rest.
      comes.rest outcome late
      (subst (λ (n : ℕ). IsRest who k old (serve view filter n extent marks on) outcome late) (sym left)
      (rest-look who k old new late (λ at. at ≡ new.log)
      (λ at. serve view filter (view.extents - (extent + 1)) (extent + 1) (marks ++ mark_at at view filter extent ∷ []) on) outcome
      (found-went old new went) rest));
}
  where
    left : view.extents - extent ≡ suc (view.extents - (extent + 1))
    left = omega (arith, within)

-- all were served
pub comes-last : (who k : ℕ) (first old : Known) (plan : Plan Outcome) (view : View) (filter : Option (CondOf ℕ Value)) (extent : ℕ)
    (marks : List Served) (on : List Served → Plan Outcome) → view.extents ≤ extent
    → Comes who k first plan old (serve view filter (view.extents - extent) extent marks on) → Comes who k first plan old (on marks)
comes-last who k first old plan view filter extent marks on all comes = record {
  rest = λ outcome late rest.
      comes.rest outcome late
      (subst (λ (n : ℕ). IsRest who k old (serve view filter n extent marks on) outcome late) (sym none) rest);
}
  where
    none : view.extents - extent ≡ 0
    none = omega (arith, all)

-- a call that failed added nothing
pub comes-went : (who k : ℕ) (first old new : Known) (plan later : Plan Outcome) → Went old new → Comes who k first plan old later
    → Comes who k first plan new later
comes-went who k first old new plan later went comes = record {
  rest = λ outcome late rest. comes.rest outcome late (rest-went who k old new late later outcome went rest);
}

-- and so the line stops there
pub stops-went : (who k : ℕ) (first old new : Known) (plan later : Plan Outcome) → Went old new → Comes who k first plan old later
    → Stops who k first plan new
stops-went who k first old new plan later went comes = record { later = later; comes = comes-went who k first old new plan later went comes }

-- ---- the end of a scan

pub shut-added : (who : ℕ) (old new : Known) (P : History → Type 0) → Added old new who (λ at. what.Shut OWN_CURSOR) P → IsShut who old new
shut-added who old new P added = record { at = added.at; after = added.after; now = added.now }

onward-shut : (who : ℕ) (old new : Known) → (shut : IsShut who old new) → Onward who old new (what.Shut OWN_CURSOR) shut.at
onward-shut who old new shut = record { after = shut.after; now = shut.now }

-- the scan is shut, and the line ends: its deciding entry was made
pub decided-shut : (who : ℕ) (old new : Known) (reply : Reply) → IsShut who old new → IsDecided who old (end_scan reply) (said reply) new
decided-shut who old new reply shut =
    laws.decided-adds Logged keeps-logged who old new new false (λ here. Some (what.Shut OWN_CURSOR)) (what.Shut OWN_CURSOR) shut.at (λ here. End (said reply)) (said reply)
    (onward-shut who old new shut) refl (decided-end who new (End (said reply)) (said reply) refl)

-- the same where none was
pub scan-ended : (who k : ℕ) (old new : Known) (reply : Reply) → IsShut who old new → IsRest who k old (end_scan reply) (said reply) new
scan-ended who k old new reply shut =
    laws.rest-decided Logged keeps-logged who (amends who) k old new (end_scan reply) (said reply) (decided-shut who old new reply shut)

-- memory runs out while the scan is open
pub scan-lacks : (who k : ℕ) (old new : Known) (plan : Plan Outcome) → speaks old.side who ≡ true → is_cursor_open old.log who OWN_CURSOR ≡ true
    → IsShut who old new → IsRest who k old plan (said (memory_reply k)) new
scan-lacks who k old new plan mine is_open shut =
    laws.rest-lacks Logged keeps-logged who (amends who) k old new plan (said (memory_reply k))
    (laws.decided-adds Logged keeps-logged who old new new false (shut_open who OWN_CURSOR) (what.Shut OWN_CURSOR) shut.at
    (λ at. End (said (memory_reply k))) (said (memory_reply k)) (onward-shut who old new shut)
    (ap (λ (b : Bool). if b then Some (what.Shut OWN_CURSOR) else None) (cursor-after old.side who OWN_CURSOR old.log shut.at mine shut.after ∙ is_open))
    (decided-end who new (End (said (memory_reply k))) (said (memory_reply k)) refl))

-- memory ran out where a line had stopped
pub scan-stops : (who k : ℕ) (first old new : Known) (plan : Plan Outcome) → speaks old.side who ≡ true → is_cursor_open old.log who OWN_CURSOR ≡ true
    → IsShut who old new → Stops who k first plan old → IsRest who k first plan (said (memory_reply k)) new
scan-stops who k first old new plan mine is_open shut stops =
    stops.comes.rest (said (memory_reply k)) new (scan-lacks who k old new stops.later mine is_open shut)
