-- What a statement scans a table for, and what is left of its line while its scan is open.
use Rattle.std.specs.Prelude.{◌≡◌, ℕ, true, false, List, length, map, None, ⊤}
use Rattle.im_group.specs.Answers.{answer}
use Rattle.im_history.specs.declared.cursors.TheConstants.{OWN_CURSOR}
use Rattle.im_history.specs.declared.limits.Limits.{Limits}
use Rattle.im_history.specs.declared.look.TableInfo.{TableInfo}
use Rattle.im_history.specs.declared.view.View.{View}
use Rattle.im_history.specs.Cursors.{is_cursor_open}
use Rattle.im_history.specs.Rows.{Row}
use Rattle.im_names.specs.Fitting.{OfTable}
use Rattle.im_plan.specs.Plan.{Plan}
use Rattle.im_reach.specs.Sides.{Known}
use Rattle.im_replies.specs.declared.body.Body.TheVariants as body
use Rattle.im_replies.specs.declared.reply.Reply.{Reply}
use Rattle.im_replies.specs.declared.served.Served.{Served}
use Rattle.im_scan.specs.Pinned.{seen_all}
use Rattle.im_session.specs.declared.cursor.Cursor.{Cursor}
use Rattle.im_session.specs.declared.scan.Purpose.{Purpose}
use Rattle.im_session.specs.declared.scan.Purpose.TheVariants.{Answer, Explain, Rewrite}
use Rattle.im_session.specs.inner.Cursors.{IsKept}
use Rattle.im_session.specs.inner.Rests.{IsRest}
use Rattle.im_session.specs.inner.Scans.{IsShut, Longer}
use Rattle.im_session.specs.inner.Writes.{MayRewriteIn, RewriteServes}
use Rattle.im_statements.specs.Outcomes.{Outcome, said}
use Rattle.im_statements.specs.Scans.{end_scan, explained, rows_seen, scan, serve_from}
use Rattle.im_statements.specs.Turns.{served_reply}
use Rattle.im_statements.specs.Writes.{changes_to, kept_rows, write_or_end, written}
use Rattle.im_syntax.specs.declared.bound.Bound.{Bound}

-- what a line does once all extents were served: it knows the place of the opening, the view, the rows that it sees, and the marks
abbrev pub behind_scan : Limits → ℕ → Bound → Purpose → ℕ → View → List (ℕ × Row) → List Served → Plan Outcome
behind_scan limits who bound Answer place view rows marks = end_scan (served_reply place marks (body.Answer view.scn (answer bound rows)))
behind_scan limits who bound Explain place view rows marks = end_scan (served_reply place marks (body.Plan view.scn (map explained marks)))
behind_scan limits who bound (Rewrite rewriting) place view rows marks =
    write_or_end limits who place view.scn marks (changes_to view.table rewriting (kept_rows bound.filter rows)) (written rewriting)

-- the plan of a statement that scans a table by itself, which had so many columns at the look
abbrev pub plan_of : Limits → ℕ → ℕ → Bound → Purpose → Plan Outcome
plan_of limits who columns bound purpose =
    scan who bound.table columns bound.asked bound.filter (λ at view marks. behind_scan limits who bound purpose (length at) view (rows_seen at view) marks)

-- a table may be scanned for this: rows that a condition alone keeps, and that were asked for at no SCN, may be rewritten
abbrev pub MayScanFor : Purpose → Bound → List TableInfo → Type 0
MayScanFor Answer bound tables = ⊤
MayScanFor Explain bound tables = ⊤
MayScanFor (Rewrite rewriting) bound tables =
    (bound.grouped ≡ false) × (bound.asked ≡ None) × OfTable tables bound.table (RewriteServes bound.filter rewriting)

-- the same of an open scan
abbrev pub MayServe : ℕ → Purpose → Cursor → Known → Type 0
MayServe who Answer cursor now = ⊤
MayServe who Explain cursor now = ⊤
MayServe who (Rewrite rewriting) cursor now = (cursor.bound.grouped ≡ false) × MayRewriteIn who rewriting cursor.view now

-- a scan of a statement's own is open, was served nothing yet, and may serve this purpose
pub record MayUse (who : ℕ) (purpose : Purpose) (cursor : Cursor) (now : Known) : Type 0 where
  pub own : cursor.number ≡ OWN_CURSOR
  pub first : cursor.next ≡ 0
  pub kept : IsKept who cursor now
  pub serves : MayServe who purpose cursor now

-- it served its purpose, and is still open: what is left of the line ends with this reply, once the scan is closed
pub record IsUsed (who : ℕ) (purpose : Purpose) (cursor : Cursor) (old : Known) (reply : Reply) (new : Known) : Type 0 where
  pub side : new.side ≡ old.side
  pub open_now : is_cursor_open new.log who OWN_CURSOR ≡ true
  pub longer : Longer old new
  pub rest :
      (late : Known) → IsShut who new late
      → IsRest who 1 old
      (serve_from cursor.view cursor.bound.filter 0
      (behind_scan old.limits who cursor.bound purpose cursor.view.place cursor.view (seen_all old.log cursor.view)))
      (said reply) late
