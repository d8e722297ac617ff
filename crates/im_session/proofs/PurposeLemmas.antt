-- A scan of a statement's own, from its opening to its end: what is left of the line once it served its purpose.
use Rattle.std.proofs.Common.{◌≡◌, ℕ, true, List, ap, subst, sym, ◌∙◌}
use Rattle.im_history.specs.declared.cursors.TheConstants.{OWN_CURSOR}
use Rattle.im_history.specs.declared.limits.Limits.{Limits}
use Rattle.im_history.specs.Cursors.{is_cursor_open}
use Rattle.im_history.specs.Legal.{IsLawful}
use Rattle.im_history.specs.Tables.{tables}
use Rattle.im_plan.specs.Plan.{Plan}
use Rattle.im_reach.specs.Sides.{Known, speaks}
use Rattle.im_replies.specs.declared.reply.Reply.{Reply}
use Rattle.im_replies.specs.declared.served.Served.{Served}
use Rattle.im_scan.specs.Pinned.{seen_all}
use Rattle.im_session.specs.declared.cursor.Cursor.{Cursor}
use Rattle.im_session.specs.declared.scan.Purpose.{Purpose}
use Rattle.im_session.specs.declared.scan.Purpose.TheVariants.{Answer, Explain, Rewrite}
use Rattle.im_session.specs.inner.Cursors.{IsJustOpened, IsKept}
use Rattle.im_session.specs.inner.Purposes.{IsUsed, MayScanFor, MayServe, MayUse, behind_scan, plan_of}
use Rattle.im_session.specs.inner.Rests.{IsRest}
use Rattle.im_session.specs.inner.Scans.{Comes, IsShut, Longer, Stops, Went}
use Rattle.im_session.proofs.OpeningLemmas.{scan-opened}
use Rattle.im_session.proofs.ReadsLemmas.{longer-longer}
use Rattle.im_session.proofs.ScanLemmas.{longer-went, open-went, scan-ended, scan-stops, side-went, speaks-went}
use Rattle.im_session.proofs.WriteLemmas.{added-rewrites}
use Rattle.im_statements.specs.Outcomes.{Outcome, said}
use Rattle.im_statements.specs.Scans.{end_scan, serve_from}
use Rattle.im_statements.specs.Statements.{seen_columns}
use Rattle.im_statements.specs.Turns.{memory_reply}
use Rattle.im_syntax.specs.declared.bound.Bound.{Bound}

-- ---- the opening

module _ (who : ℕ) (bound : Bound) (cursor : Cursor) (old middle : Known)
    (opened : IsJustOpened who OWN_CURSOR (seen_columns old.log bound.table) bound cursor old middle) where
  same-bound : cursor.bound ≡ bound
  same-bound = ap (λ (k : Cursor). k.bound) opened.is

  -- it may serve this purpose
  opened-serves : (purpose : Purpose) → MayScanFor purpose bound (tables old.log) → IsLawful middle.limits middle.log → MayServe who purpose cursor middle
  opened-serves Answer may lawful = tt
  opened-serves Explain may lawful = tt
  opened-serves (Rewrite rewriting) may lawful = (
    ap (λ (b : Bound). b.grouped) same-bound ∙ may.0,
    added-rewrites who bound.table bound.asked may.1 old middle cursor.view bound.filter rewriting opened.added lawful may.2,
  )

  pub opened-may : (purpose : Purpose) → MayScanFor purpose bound (tables old.log) → IsLawful middle.limits middle.log → IsKept who cursor middle
      → MayUse who purpose cursor middle
  opened-may purpose may lawful kept = record {
    own = ap (λ (k : Cursor). k.number) opened.is;
    first = ap (λ (k : Cursor). k.next) opened.is;
    kept = kept;
    serves = opened-serves purpose may lawful;
  }

  -- it served it, and was closed
  pub scan-used : (purpose : Purpose) (used new : Known) (reply : Reply) → IsUsed who purpose cursor middle reply used → IsShut who used new
      → IsRest who 0 old (plan_of old.limits who (seen_columns old.log bound.table) bound purpose) (said reply) new
  scan-used purpose used new reply is shut =
      scan-opened who 0 bound.table (seen_columns old.log bound.table) bound.asked old middle new cursor.view bound.filter (behind_scan old.limits who bound purpose)
      (said reply) opened.added
      (subst (λ (l : Limits). IsRest who 1 middle
      (serve_from cursor.view bound.filter 0 (behind_scan l who bound purpose cursor.view.place cursor.view (seen_all middle.log cursor.view)))
      (said reply) new) (ap (λ (k : Known). k.limits) opened.added.now)
      (subst (λ (b : Bound). IsRest who 1 middle
      (serve_from cursor.view b.filter 0 (behind_scan middle.limits who b purpose cursor.view.place cursor.view (seen_all middle.log cursor.view)))
      (said reply) new) same-bound (is.rest new shut)))

-- ---- while it is open

-- what the line does once all extents were served, and what is left of it before
abbrev pub behind : ℕ → Purpose → Cursor → Known → List Served → Plan Outcome
behind who purpose cursor old =
    behind_scan old.limits who cursor.bound purpose cursor.view.place cursor.view (seen_all old.log cursor.view)

abbrev pub serving : ℕ → Purpose → Cursor → Known → Plan Outcome
serving who purpose cursor old = serve_from cursor.view cursor.bound.filter cursor.next (behind who purpose cursor old)

module _ (who : ℕ) (purpose : Purpose) (cursor : Cursor) (old new : Known) (mine : speaks old.side who ≡ true) (may : MayUse who purpose cursor old)
    (went : Went old new) where
  open-before : is_cursor_open old.log who OWN_CURSOR ≡ true
  open-before = subst (λ (n : ℕ). is_cursor_open old.log who n ≡ true) may.own may.kept.scan.is_open

  open-now : is_cursor_open new.log who OWN_CURSOR ≡ true
  open-now = open-went who OWN_CURSOR old new mine went open-before

  -- all extents were served, and the line went on
  pub used-on : (last : Known) (reply : Reply) (marks : List Served)
      → Comes who 1 old (serving who purpose cursor old) new (behind who purpose cursor old marks) → last.side ≡ new.side
      → is_cursor_open last.log who OWN_CURSOR ≡ true → Longer new last
      → ((late : Known) → IsShut who last late → IsRest who 1 new (behind who purpose cursor old marks) (said reply) late)
      → IsUsed who purpose cursor old reply last
  used-on last reply marks comes side is_open longer rest = record {
    side = side ∙ side-went old new went;
    open_now = is_open;
    longer = longer-longer old new last (longer-went old new went) longer;
    rest = λ late shut.
        subst (λ (n : ℕ). IsRest who 1 old (serve_from cursor.view cursor.bound.filter n (behind who purpose cursor old)) (said reply) late) may.first
        (comes.rest (said reply) late (rest late shut));
  }

  -- memory ran out on the way
  pub used-stopped : Stops who 1 old (serving who purpose cursor old) new → IsUsed who purpose cursor old (memory_reply 1) new
  used-stopped stops = record {
    side = side-went old new went;
    open_now = open-now;
    longer = longer-went old new went;
    rest = λ late shut.
        subst (λ (n : ℕ).
        IsRest who 1 old (serve_from cursor.view cursor.bound.filter n (behind who purpose cursor old)) (said (memory_reply 1)) late) may.first
        (scan-stops who 1 old new late (serving who purpose cursor old) (speaks-went who old new went mine) open-now shut stops);
  }

  -- all extents were served, and the line ends with this reply
  pub used-replied : (reply : Reply) (marks : List Served)
      → Comes who 1 old (serving who purpose cursor old) new (behind who purpose cursor old marks)
      → behind who purpose cursor old marks ≡ end_scan reply
      → IsUsed who purpose cursor old reply new
  used-replied reply marks comes is = record {
    side = side-went old new went;
    open_now = open-now;
    longer = longer-went old new went;
    rest = λ late shut.
        subst (λ (n : ℕ). IsRest who 1 old (serve_from cursor.view cursor.bound.filter n (behind who purpose cursor old)) (said reply) late) may.first
        (comes.rest (said reply) late
        (subst (λ (p : Plan Outcome). IsRest who 1 new p (said reply) late) (sym is) (scan-ended who 1 new late reply shut)));
  }
