-- The rows that scans read from the blocks, counted.
use Rattle.std.proofs.Common.{◌≡◌, ℕ, suc, ◌+◌, ◌*◌, ◌≤◌, Bool, true, false, List, [], ◌∷◌, ◌++◌, length, Option, Some, None, refl, sym, ap, ◌∙◌, arith, append-nil, append_assoc, length-append}
use Rattle.std.specs.List.{AllByRecursion, range_with_len}
use Rattle.std.specs.Option.{option_map}
use Rattle.std.proofs.lemmas.List.{length-map}
use Rattle.std.proofs.lemmas.List.FromFn.{length-range_with_len}
use Rattle.std.proofs.lemmas.List.Sums.{sum-map, sum_by_push}
use Rattle.im_values.specs.declared.content.Content.{Content as Value}
use Rattle.im_syntax.specs.Condition.{CondOf}
use Rattle.im_core.specs.Answers.{cursor_view}
use Rattle.im_history.specs.declared.entry.What.{What}
use Rattle.im_history.specs.declared.view.View.{View}
use Rattle.im_history.specs.History.{History}
use Rattle.im_history.specs.Serving.{fetched_by, fetched_in, read_in, rows_in, serving, serving_content, shown_all}
use Rattle.im_history.specs.Units.{content_at}
use Rattle.im_reach.specs.Sides.{Added, Found, Known, speaks}
use Rattle.im_replies.specs.declared.reply.Reply.{Reply}
use Rattle.im_replies.specs.declared.served.Served.{Served}
use Rattle.im_replies.specs.Mixes.{by_unit, is_pruned, reads}
use Rattle.im_scan.specs.Faces.{how_of}
use Rattle.im_session.specs.inner.Scans.{IsScan, Longer, Went}
use Rattle.im_session.specs.Reads.{AreRead, IsCounted, IsMoment, IsSpan, Lacked, Left, Marked, Next, Nothing, Own, Reading, Span, Unread, reads_of, rows_read}
use Rattle.im_session.proofs.ScanLemmas.{longer-went, scan-went, view-scan, went-found}
use Rattle.im_statements.specs.Outcomes.{State}

-- ---- longer histories

pub longer-found : (old new : Known) (P : History → Type 0) → Found old new P → Longer old new
longer-found old new P found = longer-went old new (went-found old new P found)

pub longer-added : (who : ℕ) (old new : Known) (adds : History → What) (P : History → Type 0) → Added old new who adds P → Longer old new
longer-added who old new adds P added = record {
  more = added.after.between ++ record { who = who; what = adds added.at } ∷ [];
  log =
      ap (λ (s : Known). s.log) added.now
      ∙ (ap (λ (h : History). h ++ record { who = who; what = adds added.at } ∷ []) added.after.log
      ∙ append_assoc old.log added.after.between (record { who = who; what = adds added.at } ∷ []));
}

pub longer-same : (now : Known) → Longer now now
longer-same now = record { more = []; log = sym (append-nil now.log) }

pub longer-longer : (old at new : Known) → Longer old at → Longer at new → Longer old new
longer-longer old at new first second = record {
  more = first.more ++ second.more;
  log = second.log ∙ (ap (λ (h : History). h ++ second.more) first.log ∙ append_assoc old.log first.more second.more);
}

-- ---- moments

module _ (who cursor : ℕ) (view : View) where
  -- a moment stays one of more
  moment-earlier : (first old new : Known) → Longer first old → (at : History) → IsMoment who cursor view old.log new.log at
      → IsMoment who cursor view first.log new.log at
  moment-earlier first old new longer at moment = record {
    before = longer.more ++ moment.before;
    behind = moment.behind;
    at_is = moment.at_is ∙ (ap (λ (h : History). h ++ moment.before) longer.log ∙ append_assoc first.log longer.more moment.before);
    new_is = moment.new_is;
    opened = moment.opened;
  }

  moment-later : (old new last : Known) → Longer new last → (at : History) → IsMoment who cursor view old.log new.log at
      → IsMoment who cursor view old.log last.log at
  moment-later old new last longer at moment = record {
    before = moment.before;
    behind = moment.behind ++ longer.more;
    at_is = moment.at_is;
    new_is = longer.log ∙ (ap (λ (h : History). h ++ longer.more) moment.new_is ∙ append_assoc at moment.behind longer.more);
    opened = moment.opened;
  }

  moments-within : (first old new last : Known) → Longer first old → Longer new last → (moments : List History)
      → AllByRecursion (IsMoment who cursor view old.log new.log) moments → AllByRecursion (IsMoment who cursor view first.log last.log) moments
  moments-within first old new last earlier later [] each = tt
  moments-within first old new last earlier later (at ∷ moments) each = (
    moment-later first new last later at (moment-earlier first old new earlier at each.0),
    moments-within first old new last earlier later moments each.1,
  )

  moments-append : (old new : History) (first second : List History) → AllByRecursion (IsMoment who cursor view old new) first
      → AllByRecursion (IsMoment who cursor view old new) second → AllByRecursion (IsMoment who cursor view old new) (first ++ second)
  moments-append old new [] second each more = more
  moments-append old new (at ∷ first) second each more = (each.0, moments-append old new first second each.1 more)

-- ---- how many rows

rows_read-append : (view : View) (extent : ℕ) (first second : List History)
    → rows_read view extent (first ++ second) ≡ rows_read view extent first + rows_read view (extent + length first) second
rows_read-append view extent [] second =
    let moved : rows_read view (extent + 0) second ≡ rows_read view extent second = ap (λ (n : ℕ). rows_read view n second) (omega arith) in
    omega (arith, moved)
rows_read-append view extent (at ∷ first) second =
    let rest = rows_read-append view (extent + 1) first second in
    let moved : rows_read view (extent + 1 + length first) second ≡ rows_read view (extent + suc (length first)) second
    = ap (λ (n : ℕ). rows_read view n second) (omega arith) in
    omega (arith, rest, moved)

-- nothing was read yet
pub none-read : (who cursor : ℕ) (view : View) (from before after : ℕ) (old new : Known) → after ≤ before
    → AreRead who cursor view from from before after old.log new.log
none-read who cursor view from before after old new few = record { moments = []; each = tt; count = omega arith; few = omega (arith, few) }

-- more extents were read
pub more-read : (who cursor : ℕ) (view : View) (from middle upto a b c : ℕ) (first old new : Known) → Longer first old → Longer old new
    → AreRead who cursor view from middle a b first.log old.log → AreRead who cursor view middle upto b c old.log new.log
    → AreRead who cursor view from upto a c first.log new.log
more-read who cursor view from middle upto a b c first old new earlier later so_far more = record {
  moments = so_far.moments ++ more.moments;
  each = moments-append who cursor view first.log new.log so_far.moments more.moments
      (moments-within who cursor view first first old new (longer-same first) later so_far.moments so_far.each)
      (moments-within who cursor view first old new new earlier (longer-same new) more.moments more.each);
  count =
      let counted = so_far.count in
      let more_counted = more.count in
      let lengths = length-append so_far.moments more.moments in
      omega (arith, counted, more_counted, lengths);
  few =
      let some = so_far.few in
      let few = more.few in
      let at : rows_read view (from + length so_far.moments) more.moments ≡ rows_read view middle more.moments
      = ap (λ (n : ℕ). rows_read view n more.moments) so_far.count in
      let all = rows_read-append view from so_far.moments more.moments in
      omega (arith, some, few, at, all);
}

-- an extent was read, at this history
pub extent-read : (who cursor : ℕ) (view : View) (extent before after : ℕ) (old new : Known) (P : History → Type 0) → speaks old.side who ≡ true
    → IsScan who cursor view old → Found old new P → after ≤ before + length (read_in new.log (cursor_view new.log who cursor) extent)
    → AreRead who cursor view extent (extent + 1) before after old.log new.log
extent-read who cursor view extent before after old new P mine scan found few = record {
  moments = new.log ∷ [];
  each = (
    record {
      before = (longer-went old new went).more;
      behind = [];
      at_is = (longer-went old new went).log;
      new_is = sym (append-nil new.log);
      opened = here.opened;
    },
    tt,
  );
  count = omega arith;
  few =
      let same : length (read_in new.log (cursor_view new.log who cursor) extent) ≡ length (read_in new.log view extent)
      = ap (λ (v : View). length (read_in new.log v extent)) (view-scan who cursor view new here) in
      omega (arith, few, same);
}
  where
    went : Went old new
    went = went-found old new P found

    here : IsScan who cursor view new
    here = scan-went who cursor view old new mine went scan

-- so many rows are fetched as are read
pub fetched-length : (h : History) (view : View) (extent : ℕ) → length (fetched_in h view extent) ≡ length (read_in h view extent)
fetched-length h view extent = length-map (read_in h view extent) _

-- ---- what marks tell of

-- an extent that is served so, pruned or not
reads-unit : (view : View) (extent : ℕ) (pruned : Bool) (unit_scn stale : ℕ) → reads view extent (by_unit pruned unit_scn stale) ≡ stale
reads-unit view extent true unit_scn stale = refl
reads-unit view extent false unit_scn stale = refl

pub reads-read : (h : History) (view : View) (extent : ℕ) (filter : Option (CondOf ℕ Value))
    → reads view extent (how_of (serving_content h view extent) (fetched_in h view extent) filter) ≡ length (read_in h view extent)
reads-read h view extent filter = by (serving h view extent)
  where
    by : (unit : Option ℕ)
        → reads view extent (how_of (option_map (content_at h view.table extent) unit) (shown_all view (fetched_by h view extent unit)) filter)
        ≡ length (fetched_by h view extent unit)
    by None = sym (length-map (range_with_len (extent * view.per) (rows_in view extent)) _ ∙ length-range_with_len (extent * view.per) (rows_in view extent))
    by (Some unit_scn) =
        reads-unit view extent (is_pruned (content_at h view.table extent unit_scn) filter) unit_scn
        (length (shown_all view (fetched_by h view extent (Some unit_scn))))
        ∙ length-map (fetched_by h view extent (Some unit_scn)) _

-- one mark more
reads_of-push : (view : View) (marks : List Served) (mark : Served)
    → reads_of view (marks ++ mark ∷ []) ≡ reads_of view marks + reads view mark.extent mark.how
reads_of-push view marks mark =
    sum-map by (marks ++ mark ∷ [])
    ∙ (sum_by_push by marks mark ∙ ap (λ (n : ℕ). n + reads view mark.extent mark.how) (sym (sum-map by marks)))
  where
    by : Served → ℕ
    by told = reads view told.extent told.how

pub rows-next : (view : View) (extent a b c : ℕ) (marks behind : List Served) (mark : Served) → mark.extent ≡ extent
    → behind ≡ marks ++ mark ∷ [] → b ≤ a + reads_of view marks → c ≤ b + reads view extent mark.how → c ≤ a + reads_of view behind
rows-next view extent a b c marks behind mark same is so_far more =
    let told = reads_of-push view marks mark in
    let here : reads view mark.extent mark.how ≡ reads view extent mark.how = ap (λ (n : ℕ). reads view n mark.how) same in
    rw is (omega (arith, told, here, so_far, more))

-- ---- the steps of a line

span-within : (reading : Reading) (state : State) (who : ℕ) (first old new last : Known) → Longer first old → Longer new last → (span : Span)
    → IsSpan reading state who old.log new.log span → IsSpan reading state who first.log last.log span
span-within Nothing state who first old new last earlier later span is = is
span-within Own state who first old new last earlier later span is = (
  is.0,
  moment-later who 0 span.view first new last later is.0 (moment-earlier who 0 span.view first old new earlier is.0 is.1),
  is.2,
)
span-within (Next cursor) state who first old new last earlier later span is = is
span-within (Left cursor) state who first old new last earlier later span is = is

-- more came before it and behind it
pub counted-within : (reading : Reading) (state : State) (who : ℕ) (reply : Reply) (before after : ℕ) (first old new last : Known) → Longer first old
    → Longer new last → IsCounted reading state who reply before after old.log new.log → IsCounted reading state who reply before after first.log last.log
counted-within reading state who reply before after first old new last earlier later (Unread few) = Unread few
counted-within reading state who reply before after first old new last earlier later (Marked span is few) =
    Marked span (span-within reading state who first old new last earlier later span is) few
counted-within reading state who reply before after first old new last earlier later (Lacked span is lacks upto within read) =
    Lacked span (span-within reading state who first old new last earlier later span is) lacks upto within
    (record {
      moments = read.moments;
      each = moments-within who span.cursor span.view first old new last earlier later read.moments read.each;
      count = read.count;
      few = read.few;
    })
