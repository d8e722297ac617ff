-- What is read of an extent for a scan, and what the parts of the extents so far are.
use Rattle.std.proofs.Common.{◌≡◌, ℕ, ◌+◌, ◌-◌, ◌<◌, ◌≤◌, true, List, length, Option, Some, None, Result, Ok, Err, refl, sym, ap, ◌∙◌, arith}
use Rattle.std.specs.List.{AllByRecursion}
use Rattle.std.specs.Option.{ForSome, option_map}
use Rattle.std.proofs.lemmas.List.{length-map}
use Rattle.std.specs.Result.{IfErr}
use Rattle.im_core.specs.Answers.{cursor_view}
use Rattle.im_group.specs.Answers.{answer, finished}
use Rattle.im_group.specs.Partials.{Numbered, Parts, partial}
use Rattle.im_group.proofs.ForCallers.{answer-finished}
use Rattle.im_history.specs.declared.view.View.{View}
use Rattle.im_history.specs.Commits.{scn}
use Rattle.im_history.specs.History.{History}
use Rattle.im_history.specs.Legal.{IsLawful}
use Rattle.im_history.specs.Rows.{Row}
use Rattle.im_history.specs.Serving.{fetched_by, fetched_in, serving, serving_content, shown_all}
use Rattle.im_history.specs.Units.{Content, content_at, stale}
use Rattle.im_history.proofs.ViewLaws.{HasColumns, cursor-columns}
use Rattle.im_plan.specs.Plan.{Plan}
use Rattle.im_reach.specs.Sides.{Known, speaks}
use Rattle.im_replies.specs.declared.served.How.{How}
use Rattle.im_replies.specs.declared.served.Served.{Served}
use Rattle.im_replies.specs.Mixes.{by_unit, is_pruned, mix, mix_by, reads}
use Rattle.im_scan.specs.Faces.{how_of}
use Rattle.im_scan.specs.Parts.{AreShown, MayAsk, MayAskShown}
use Rattle.im_scan.specs.Pinned.{IsPinned, seen_all, seen_in, seen_to}
use Rattle.im_scan.proofs.ForCallers.{MayAskOf, fetched-may, fetched-shown, pinned-serving, seen_in-later, seen_to-all, unit-may}
use Rattle.im_session.specs.declared.cursor.Cursor.{Cursor}
use Rattle.im_session.specs.declared.serving.Wanted.{Wanted}
use Rattle.im_session.specs.inner.Scans.{Comes, IsRead, IsScan, Stops, Went}
use Rattle.im_session.specs.inner.Serving.{HasRead, wanted_of}
use Rattle.im_session.specs.Cursors.{MayAskIn}
use Rattle.im_session.specs.Reads.{AreRead}
use Rattle.im_session.proofs.ReadsLemmas.{fetched-length, more-read, reads-read}
use Rattle.im_session.proofs.ScanLemmas.{longer-went, scan-went, stops-went, view-scan}
use Rattle.im_session.proofs.TableLemmas.{asks-of}
use Rattle.im_statements.specs.Outcomes.{Outcome}
use Rattle.im_statements.specs.Scans.{mark_at, serve, serve_from}
use Rattle.im_syntax.specs.declared.bound.Bound.{Bound}
use Rattle.im_syntax.specs.Condition.{CondOf}
use Rattle.im_values.specs.declared.content.Content.{Content as Value}

-- ---- errors

-- what holds whatever the error says
pub err-always : {T E : Type 0} (result : Result T E) (P : E → Type 0) → ((error : E) → P error) → IfErr result P
err-always (Ok value) P holds = tt
err-always (Err error) P holds = holds error

-- ---- one extent

pub read-of : (who cursor extent place : ℕ) (view : View) (unit : Option Content) (fetched : List (ℕ × Option Row)) (now : Known)
    → IsScan who cursor view now → place ≡ length now.log → unit ≡ serving_content now.log (cursor_view now.log who cursor) extent
    → fetched ≡ fetched_in now.log (cursor_view now.log who cursor) extent → IsRead now.log view extent place unit fetched
read-of who cursor extent place view unit fetched now scan place_is unit_is fetched_is = record {
  place_is = place_is;
  unit_is = unit_is ∙ ap (λ (v : View). serving_content now.log v extent) (view-scan who cursor view now scan);
  fetched_is = fetched_is ∙ ap (λ (v : View). fetched_in now.log v extent) (view-scan who cursor view now scan);
}

-- what is known of an extent that was read, of which a query is asked
pub record MayScanPart (bound : Bound) (h : History) (view : View) (extent : ℕ) (unit : Option Content) (fetched : List (ℕ × Option Row)) : Type 0 where
  pub pinned : IsPinned h view extent unit fetched
  pub unit_fits : ForSome unit (λ content. AllByRecursion (MayAskShown bound view) content.rows)
  pub fetched_fits : AllByRecursion (λ row. MayAsk bound row.1) fetched
  pub shown : AreShown view fetched

pub may-part : (who cursor extent place : ℕ) (bound : Bound) (view : View) (unit : Option Content) (fetched : List (ℕ × Option Row))
    (now : Known) → IsScan who cursor view now → MayAskIn bound view → IsLawful now.limits now.log
    → IsRead now.log view extent place unit fetched → MayScanPart bound now.log view extent unit fetched
may-part who cursor extent place bound view unit fetched now scan asks lawful read = record {
  pinned = pinned;
  unit_fits = unit-may bound now.log view extent unit fetched pinned may;
  fetched_fits = fetched-may bound now.log view extent unit fetched pinned may;
  shown = fetched-shown now.log view extent unit fetched pinned;
}
  where
    has : HasColumns now.log view
    has = cursor-columns now.limits now.log who cursor (record { cursor = cursor; view = view }) lawful.legal scan.opened

    pinned : IsPinned now.log view extent unit fetched
    pinned = pinned-serving now.log view extent unit fetched scan.sees.per has read.unit_is read.fetched_is

    may : MayAskOf bound now.log view
    may = asks-of now.limits now.log view bound lawful.legal has asks.rows

-- the same, where others went on before it was read
pub may-read : (who cursor extent place : ℕ) (bound : Bound) (view : View) (unit : Option Content) (fetched : List (ℕ × Option Row))
    (old new : Known) → speaks old.side who ≡ true → IsScan who cursor view old → MayAskIn bound view → Went old new
    → IsLawful new.limits new.log → IsRead new.log view extent place unit fetched → MayScanPart bound new.log view extent unit fetched
may-read who cursor extent place bound view unit fetched old new mine scan asks went lawful read =
    may-part who cursor extent place bound view unit fetched new (scan-went who cursor view old new mine went scan) asks lawful read

-- how it was served
pub how-read : (h : History) (view : View) (extent : ℕ) (filter : Option (CondOf ℕ Value))
    → how_of (serving_content h view extent) (fetched_in h view extent) filter ≡ mix h view extent filter
how-read h view extent filter = by (serving h view extent)
  where
    by : (unit : Option ℕ)
        → how_of (option_map (content_at h view.table extent) unit) (shown_all view (fetched_by h view extent unit)) filter
        ≡ mix_by h view extent filter unit
    by None = refl
    by (Some unit_scn) =
        ap (by_unit (is_pruned (content_at h view.table extent unit_scn) filter) unit_scn)
        (length-map (fetched_by h view extent (Some unit_scn)) _ ∙ length-map (stale h view.table extent unit_scn view.scn) _)

pub mark-read : (h : History) (view : View) (extent place : ℕ) (filter : Option (CondOf ℕ Value)) (unit : Option Content)
    (fetched : List (ℕ × Option Row)) (mark : Served) → IsRead h view extent place unit fetched
    → mark ≡ record { place = place; extent = extent; how = how_of unit fetched filter } → mark ≡ mark_at h view filter extent
mark-read h view extent place filter unit fetched mark read is =
    is
    ∙ rw (read.place_is, read.unit_is, read.fetched_is)
    (ap (λ (how : How). record { place = length h; extent = extent; how = how }) (how-read h view extent filter))

-- and so many rows were read from the blocks for it
pub rows-read : (h : History) (view : View) (extent place : ℕ) (filter : Option (CondOf ℕ Value)) (unit : Option Content)
    (fetched : List (ℕ × Option Row)) → IsRead h view extent place unit fetched → reads view extent (how_of unit fetched filter) ≡ length fetched
rows-read h view extent place filter unit fetched read =
    rw (read.unit_is, read.fetched_is) (reads-read h view extent filter ∙ sym (fetched-length h view extent))

pub rows-mark : (h : History) (view : View) (extent place before after : ℕ) (filter : Option (CondOf ℕ Value)) (unit : Option Content)
    (fetched : List (ℕ × Option Row)) (mark : Served)
    → IsRead h view extent place unit fetched → mark ≡ record { place = place; extent = extent; how = how_of unit fetched filter }
    → after ≤ before + length fetched → after ≤ before + reads view extent mark.how
rows-mark h view extent place before after filter unit fetched mark read is few = rw (is, rows-read h view extent place filter unit fetched read) few

-- ---- parts

pub seen_in-went : (old new : Known) (view : View) (extent : ℕ) → view.scn ≤ scn old.log → Went old new
    → seen_in new.log view extent ≡ seen_in old.log view extent
seen_in-went old new view extent known went =
    ap (λ (log : History). seen_in log view extent) went.after.log ∙ seen_in-later old.log went.after.between view extent known

-- the parts of all extents
pub part-all : (wanted : Wanted) (who cursor extent : ℕ) (bound : Bound) (view : View) (now : Known) (part : Parts) → IsScan who cursor view now
    → view.extents ≡ extent → part ≡ partial bound (wanted_of wanted (seen_to now.log view extent))
    → part ≡ partial bound (wanted_of wanted (seen_all now.log view))
part-all wanted who cursor extent bound view now part scan all is =
    is ∙ ap (λ (rows : List Numbered). partial bound (wanted_of wanted rows)) (seen_to-all now.log view extent scan.sees.some (sym all ∙ scan.sees.cut))

-- ---- one more extent

-- the next extent of a cursor was served, after others went on
module _ (who : ℕ) (cursor : Cursor) (extent : ℕ) (first old new : Known) (served : Went old new) where
  -- the scan ends there with an error
  pub stops-served : (k : ℕ) (on : List Served → Plan Outcome) (marks : List Served)
      → Comes who k first (serve_from cursor.view cursor.bound.filter cursor.next on) old
      (serve cursor.view cursor.bound.filter (cursor.view.extents - extent) extent marks on)
      → Stops who k first (serve_from cursor.view cursor.bound.filter cursor.next on) new
  stops-served k on marks comes =
      stops-went who k first old new (serve_from cursor.view cursor.bound.filter cursor.next on)
      (serve cursor.view cursor.bound.filter (cursor.view.extents - extent) extent marks on) served comes

  -- those so far and it were read
  module _ (a b c : ℕ) (went : Went first old) (so_far : AreRead who cursor.number cursor.view cursor.next extent a b first.log old.log)
      (more : AreRead who cursor.number cursor.view extent (extent + 1) b c old.log new.log) where
    pub read-served : AreRead who cursor.number cursor.view cursor.next (extent + 1) a c first.log new.log
    read-served =
        more-read who cursor.number cursor.view cursor.next extent (extent + 1) a b c first old new
        (longer-went first old went) (longer-went old new served) so_far more

    pub has-served : extent < cursor.view.extents → HasRead who cursor a c first.log new.log
    has-served within = record { upto = extent + 1; within = omega (arith, within); read = read-served }

-- what is made of the part of all rows is the answer
pub answer_is : (bound : Bound) (rows : List Numbered) → finished bound (partial bound rows) ≡ answer bound rows
answer_is bound rows = sym (answer-finished bound rows)
