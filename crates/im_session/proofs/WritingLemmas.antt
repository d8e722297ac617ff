-- How a line that rewrites rows ends: with its write, refused or not, or with none.
use Rattle.std.proofs.Common.{◌⊎◌, ◌≡◌, ℕ, ◌≤◌, true, List, [], ◌∷◌, length, Option, Some, None, refl, sym, ap, ◌∙◌, subst, inl, inr, arith}
use Rattle.std.specs.List.{list_any}
use Rattle.im_core.specs.Answers.{IsRefusal, cursor_view}
use Rattle.im_history.specs.declared.cursors.TheConstants.{OWN_CURSOR}
use Rattle.im_history.specs.declared.change.Change.{Change}
use Rattle.im_history.specs.declared.entry.What.TheVariants.{Write}
use Rattle.im_history.specs.declared.limits.Limits.{Limits}
use Rattle.im_history.specs.declared.refused.Refused.{Refused}
use Rattle.im_history.specs.declared.refused.Why.{Why}
use Rattle.im_history.specs.declared.refused.Why.TheVariants as why
use Rattle.im_history.specs.declared.view.View.{View}
use Rattle.im_history.specs.Cursors.{is_cursor, is_cursor_open}
use Rattle.im_history.specs.History.{History}
use Rattle.im_history.specs.Refusals.{write_refusal}
use Rattle.im_plan.specs.Goes.{After}
use Rattle.im_plan.specs.Plan.{Plan}
use Rattle.im_reach.specs.Sides.{Added, AreOthers, Found, Known, speaks}
use Rattle.im_replies.specs.declared.body.Body.{Body}
use Rattle.im_replies.specs.declared.body.Body.TheVariants.{Error}
use Rattle.im_replies.specs.declared.reply.Reply.{Reply}
use Rattle.im_replies.specs.declared.served.Served.{Served}
use Rattle.im_replies.specs.declared.aim.Aim.TheVariants as aim
use Rattle.im_replies.specs.Causes.{fault_of}
use Rattle.im_session.specs.inner.Rests.{IsDecided, IsRest}
use Rattle.im_session.specs.inner.Scans.{IsScan, IsShut, Went}
use Rattle.im_session.specs.inner.Writes.{write_reply}
use Rattle.im_session.proofs.OtherLemmas.{opened-added}
use Rattle.im_session.proofs.RestLemmas.{rest-decides, rest-nothing, rest-went}
use Rattle.im_session.proofs.ScanLemmas.{decided-shut, open-went, scan-ended, scan-lacks, scan-went, speaks-went, went-found, went-log, view-scan}
use Rattle.im_statements.specs.Outcomes.{Outcome, said}
use Rattle.im_statements.specs.Scans.{end_scan}
use Rattle.im_statements.specs.Turns.{memory_reply, served_reply, unless_refused}
use Rattle.im_statements.specs.Writes.{or_fault, write_or_end, write_seen}

-- ---- the cursor stays open

pub open-wrote : (who : ℕ) (old new : Known) (changes : List Change) (P : History → Type 0) → speaks old.side who ≡ true
    → is_cursor_open old.log who OWN_CURSOR ≡ true → Added old new who (λ at. Write changes) P → is_cursor_open new.log who OWN_CURSOR ≡ true
open-wrote who old new changes P mine is_open added =
    ap (list_any (is_cursor OWN_CURSOR)) (opened-added who old new (Write changes) P mine added) ∙ is_open

-- ---- the write

-- the reply for a cause: that memory ran out, or its fault
write_reply-either : (k place : ℕ) (marks : List Served) (cause : Why)
    → (write_reply k place marks cause ≡ memory_reply k) ⊎ (write_reply k place marks cause ≡ served_reply place marks (Error (fault_of aim.Plain cause)))
write_reply-either k place marks why.NoMemory = inl refl
write_reply-either k place marks _ = inr refl

module _ (who k : ℕ) (old new late : Known) (view : View) (marks : List Served) (changes : List Change) (body : Body)
    (mine : speaks old.side who ≡ true) (scan : IsScan who OWN_CURSOR view old) (shut : IsShut who new late) where
  -- the view of the cursor, whatever others added
  view-after : (at : History) → After (AreOthers old.side) old.log at → cursor_view at who OWN_CURSOR ≡ view
  view-after at after =
      view-scan who OWN_CURSOR view (record old { log = at })
      (scan-went who OWN_CURSOR view old (record old { log = at }) mine (record { after = after; now = refl }) scan)

  -- it was written
  pub write-done : (place : ℕ) → Added old new who (λ at. Write changes)
      (λ at. (write_refusal old.limits at who (cursor_view at who 0).scn changes ≡ None) × (place ≡ length at))
      → IsRest who k old (write_seen old.limits who view.scn marks changes body) (said (served_reply place marks body)) late
  write-done place added =
      rest-decides who k old new late true (λ at. unless_refused (write_refusal old.limits at who view.scn changes) (Write changes))
      (λ at. Write changes) _ (λ at. end_scan (served_reply (length at) marks (or_fault (write_refusal old.limits at who view.scn changes) body)))
      (said (served_reply place marks body)) added (ap (λ (o : Option Why). unless_refused o (Write changes)) allowed)
      (subst (λ (p : Plan Outcome). IsDecided who new p (said (served_reply place marks body)) late)
      (sym (ap (λ (o : Option Why). end_scan (served_reply (length added.at) marks (or_fault o body))) allowed
      ∙ ap (λ (n : ℕ). end_scan (served_reply n marks body)) (sym added.fact.1)))
      (decided-shut who new late (served_reply place marks body) shut))
    where
      allowed : write_refusal old.limits added.at who view.scn changes ≡ None
      allowed = ap (λ (v : View). write_refusal old.limits added.at who v.scn changes) (sym (view-after added.at added.after)) ∙ added.fact.0

  -- it was refused
  pub write-told : (told : Refused)
      → Found old new (λ at. IsRefusal at (write_refusal old.limits at who (cursor_view at who 0).scn changes) told)
      → IsRest who k old (write_seen old.limits who view.scn marks changes body) (said (write_reply k told.place marks told.why)) late
  write-told told found = by (write_reply-either k told.place marks told.why)
    where
      plan : Plan Outcome
      plan = write_seen old.limits who view.scn marks changes body

      went : Went old new
      went = went-found old new _ found

      lacking : IsRest who k old plan (said (memory_reply k)) late
      lacking = rest-went who k old new late plan (said (memory_reply k)) went
          (scan-lacks who k new late plan (speaks-went who old new went mine) (open-went who OWN_CURSOR old new mine went scan.is_open) shut)

      is : IsRefusal new.log (write_refusal old.limits new.log who (cursor_view new.log who 0).scn changes) told
      is = went-log old new _ found

      faulty : write_refusal old.limits new.log who view.scn changes ≡ Some told.why
          → IsRest who k old plan (said (served_reply told.place marks (Error (fault_of aim.Plain told.why)))) late
      faulty cause =
          rest-nothing who k old new late true (λ at. unless_refused (write_refusal old.limits at who view.scn changes) (Write changes))
          (λ at. end_scan (served_reply (length at) marks (or_fault (write_refusal old.limits at who view.scn changes) body)))
          (said (served_reply told.place marks (Error (fault_of aim.Plain told.why)))) went
          (ap (λ (o : Option Why). unless_refused o (Write changes)) cause)
          (subst (λ (p : Plan Outcome). IsRest who k new p (said (served_reply told.place marks (Error (fault_of aim.Plain told.why)))) late)
          (sym (ap (λ (o : Option Why). end_scan (served_reply (length new.log) marks (or_fault o body))) cause
          ∙ ap (λ (n : ℕ). end_scan (served_reply n marks (Error (fault_of aim.Plain told.why)))) (sym is.place)))
          (scan-ended who k new late (served_reply told.place marks (Error (fault_of aim.Plain told.why))) shut))

      by : (write_reply k told.place marks told.why ≡ memory_reply k)
          ⊎ (write_reply k told.place marks told.why ≡ served_reply told.place marks (Error (fault_of aim.Plain told.why)))
          → IsRest who k old plan (said (write_reply k told.place marks told.why)) late
      by (inl e) = subst (λ (reply : Reply). IsRest who k old plan (said reply) late) (sym e) lacking
      by (inr e) = elim is.why [
        | inl lacks ↦ subst (λ (reply : Reply). IsRest who k old plan (said reply) late) (sym (ap (write_reply k told.place marks) lacks)) lacking
        | inr cause ↦ subst (λ (reply : Reply). IsRest who k old plan (said reply) late) (sym e)
            (faulty
            (ap (λ (v : View). write_refusal old.limits new.log who v.scn changes) (sym (view-after new.log went.after)) ∙ cause))
      ]

-- ---- the changes

-- there are changes, and they are written
pub some-write : (who : ℕ) (limits : Limits) (place scn : ℕ) (marks : List Served) (changes : List Change) (body : ℕ → Body) → 1 ≤ length changes
    → write_or_end limits who place scn marks changes body ≡ write_seen limits who scn marks changes (body (length changes))
some-write who limits place scn marks [] body some = absurd (omega (arith, some))
some-write who limits place scn marks (change ∷ changes) body some = refl
