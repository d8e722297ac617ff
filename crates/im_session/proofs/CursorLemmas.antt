-- Lines over cursors that a session keeps.
use Rattle.std.proofs.Common.{◌≡◌, ℕ, ◌+◌, ◌*◌, ◌<◌, ◌≤◌, min, Bool, true, false, [], sym, ap, ◌∙◌, subst, arith}
use Rattle.std.specs.Prelude.{nat_lt}
use Rattle.std.proofs.lemmas.Bool.Decides.{nat_tests}
use Rattle.im_group.specs.Partials.{CanMerge, Parts, merged, partial}
use Rattle.im_history.specs.declared.entry.What.TheVariants.{Open}
use Rattle.im_history.specs.declared.view.View.{View}
use Rattle.im_history.specs.Commits.{scn}
use Rattle.im_history.specs.Cursors.{has_own_open}
use Rattle.im_history.specs.History.{History}
use Rattle.im_history.specs.Legal.{IsLawful}
use Rattle.im_names.specs.Fitting.{OfTable, QueryServes}
use Rattle.im_history.specs.Tables.{tables}
use Rattle.im_history.specs.Views.{seen_by}
use Rattle.im_plan.specs.Plan.{End}
use Rattle.im_reach.specs.Sides.{Added, Known, speaks}
use Rattle.im_scan.specs.Pinned.{seen_in, seen_to}
use Rattle.im_scan.proofs.ForCallers.{can-merge-seen, merged-seen, seen_by-later, seen_to-none}
use Rattle.im_session.specs.declared.cursor.Cursor.{Cursor}
use Rattle.im_session.specs.Cursors.{IsSound, query_of}
use Rattle.im_session.specs.inner.Cursors.{IsKept, cursor_after, served_reply_of, step_outcome}
use Rattle.im_session.specs.inner.Rests.{IsRest}
use Rattle.im_session.proofs.RestLemmas.{rest-end, rest-lacks, rest-look}
use Rattle.im_session.specs.inner.Scans.{IsScan, Longer, Went}
use Rattle.im_session.proofs.OpeningLemmas.{HasOpened, added-asks, added-scan, present-same}
use Rattle.im_session.proofs.ScanLemmas.{found-went, longer-went, scan-went, view-longer}
use Rattle.im_session.proofs.TableLemmas.{exists-of}
use Rattle.im_replies.specs.declared.reply.Reply.{Reply}
use Rattle.im_replies.specs.declared.served.Served.{Served}
use Rattle.im_statements.specs.Cursors.{step_query, step_reply}
use Rattle.im_statements.specs.Scans.{mark_at}
use Rattle.im_statements.specs.Outcomes.{Replied, Steps, said}
use Rattle.im_statements.specs.Statements.{seen_columns}
use Rattle.im_values.specs.declared.limits.TheConstants.{MOST_ROWS}

-- a cursor that was opened just now is kept with no extent served
pub agrees-opened : (who : ℕ) (kept : Cursor) (old middle : Known)
    → Added old middle who (λ at. Open kept.number kept.bound.table kept.bound.asked)
    (HasOpened who kept.number kept.bound.table (seen_columns old.log kept.bound.table) kept.bound.asked kept.view)
    → IsLawful middle.limits middle.log → OfTable (tables old.log) kept.bound.table (QueryServes kept.bound) → kept.view.rows ≤ MOST_ROWS
    → 1 ≤ kept.view.per → kept.next ≡ 0 → kept.part ≡ partial kept.bound [] → IsKept who kept middle
agrees-opened who kept old middle added lawful of few some first none = record {
  scan = scan;
  sound = record {
    sees = scan.sees;
    asks = added-asks who kept.number kept.bound.table kept.bound.asked old middle kept.view added kept.bound lawful of;
    query = of.is.query;
    next = omega (arith, first);
    part =
        none
        ∙ ap (partial kept.bound)
        (sym (ap (seen_to middle.log kept.view) first ∙ seen_to-none middle.log kept.view));
  };
}
  where
    scan : IsScan who kept.number kept.view middle
    scan = added-scan who kept.number kept.bound.table (seen_columns old.log kept.bound.table) kept.bound.asked old middle kept.view added
        (exists-of old.log kept.bound.table (QueryServes kept.bound) of) few some

-- a view sees the same rows in its first extents later
seen_to-longer : (old new : Known) (view : View) (extents : ℕ) → view.scn ≤ scn old.log → Longer old new
    → seen_to new.log view extents ≡ seen_to old.log view extents
seen_to-longer old new view extents known longer =
    present-same (seen_by new.log view) (seen_by old.log view) 0 (min (extents * view.per) view.rows)
    (λ rid.
    ap (λ (h : History). seen_by h view rid) longer.log ∙ seen_by-later old.log longer.more view rid known)

-- what is kept of a cursor holds later
pub sound-longer : (kept : Cursor) (old new : Known) → Longer old new → IsSound kept old → IsSound kept new
sound-longer kept old new longer sound = record {
  sees = view-longer kept.view old new longer sound.sees;
  asks = sound.asks;
  query = sound.query;
  next = sound.next;
  part = sound.part ∙ ap (partial kept.bound) (sym (seen_to-longer old new kept.view kept.next sound.sees.known longer));
}

-- a cursor that is kept agrees once others went on
pub agrees-went : (who : ℕ) (kept : Cursor) (old new : Known) → speaks old.side who ≡ true → Went old new → IsKept who kept old → IsKept who kept new
agrees-went who kept old new mine went agrees = record {
  scan = scan-went who kept.number kept.view old new mine went agrees.scan;
  sound = sound-longer kept old new (longer-went old new went) agrees.sound;
}

-- a cursor that took the part of its next extent agrees
pub agrees-served : (who : ℕ) (kept : Cursor) (part : Parts) (old new : Known) → speaks old.side who ≡ true → Went old new → IsKept who kept old
    → kept.next < kept.view.extents → part ≡ partial kept.bound (seen_in old.log kept.view kept.next)
    → IsKept who (record kept { next = kept.next + 1; part = merged kept.part part }) new
agrees-served who kept part old new mine went agrees more part_is =
    agrees-went who (record kept { next = kept.next + 1; part = merged kept.part part }) old new mine went
    (record {
      scan = agrees.scan;
      sound = record {
        sees = agrees.sound.sees;
        asks = agrees.sound.asks;
        query = agrees.sound.query;
        next = omega (arith, more);
        part = merged-seen kept.bound old.log kept.view kept.next kept.part part agrees.sound.part part_is;
      };
    })

-- and if it may have taken it, or not
pub agrees-after : (who : ℕ) (served : Bool) (kept after : Cursor) (part : Parts) (old new : Known) → speaks old.side who ≡ true → Went old new
    → IsKept who kept old → kept.next < kept.view.extents → part ≡ partial kept.bound (seen_in old.log kept.view kept.next)
    → after ≡ cursor_after served kept part → IsKept who after new
agrees-after who true kept after part old new mine went agrees more part_is is =
    subst (λ (k : Cursor). IsKept who k new) (sym is) (agrees-served who kept part old new mine went agrees more part_is)
agrees-after who false kept after part old new mine went agrees more part_is is =
    subst (λ (k : Cursor). IsKept who k new) (sym is) (agrees-went who kept old new mine went agrees)

-- they may be merged
pub agrees-merges : (who : ℕ) (kept : Cursor) (part : Parts) (old : Known) → IsKept who kept old
    → part ≡ partial kept.bound (seen_in old.log kept.view kept.next) → CanMerge kept.part part
agrees-merges who kept part old agrees part_is =
    can-merge-seen kept.bound old.log kept.view kept.next kept.part part (let few = agrees.scan.sees.few in omega (arith, few)) agrees.sound.part part_is

less : (n m : ℕ) → n < m → nat_lt n m ≡ true
less n m within = grind (arith, nat_tests)

-- one was served, or memory ran out
pub step-serves : (who : ℕ) (served : Bool) (kept : Cursor) (mark : Served) (old new : Known) (reply : Reply)
    → speaks old.side who ≡ true → has_own_open old.log who ≡ false → Went old new → kept.next < kept.view.extents
    → mark ≡ mark_at new.log kept.view kept.bound.filter kept.next → reply ≡ served_reply_of served mark
    → IsRest who 0 old (step_query old.log (query_of kept)) (step_outcome kept.number reply served) new
step-serves who true kept mark old new reply mine shut went more mark_is reply_is =
    rw (less kept.next kept.view.extents more)
    (rest-look who 0 old new new (λ at. at ≡ new.log)
    (λ here. End (Replied (step_reply (mark_at here kept.view kept.bound.filter kept.next)) (Steps kept.number)))
    (Replied reply (Steps kept.number)) (found-went old new went)
    (rest-end who 0 new (End (Replied (step_reply (mark_at new.log kept.view kept.bound.filter kept.next)) (Steps kept.number)))
    (Replied reply (Steps kept.number))
    (ap (λ (m : Served). End (Replied (step_reply m) (Steps kept.number))) (sym mark_is)
    ∙ ap (λ (r : Reply). End (Replied r (Steps kept.number))) (sym reply_is))))
step-serves who false kept mark old new reply mine shut went more mark_is reply_is =
    subst (λ (r : Reply). IsRest who 0 old (step_query old.log (query_of kept)) (said r) new) (sym reply_is)
    (rest-lacks who 0 old new (λ at. at ≡ new.log) (step_query old.log (query_of kept)) mine shut (found-went old new went))
