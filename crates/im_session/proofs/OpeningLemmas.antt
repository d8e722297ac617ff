-- The opening of a cursor over a side of a store, and what it sees.
use Rattle.std.proofs.Common.{◌≡◌, ℕ, zero, suc, ◌+◌, ◌≤◌, ◌||◌, Bool, true, false, if◌then◌else◌, List, [], ◌∷◌, ◌++◌, length, take, drop, Option, Some, None, refl, sym, ap, ◌∙◌, subst, inl, inr, arith}
use Rattle.std.specs.List.{cons_option, find, list_any}
use Rattle.std.specs.Option.{option_map}
use Rattle.im_values.specs.declared.limits.TheConstants.{MOST_ROWS}
use Rattle.im_values.specs.declared.content.Content.{Content as Value}
use Rattle.im_values.specs.declared.schema.Column.{Column}
use Rattle.im_history.specs.declared.cursors.TheConstants.{OWN_CURSOR}
use Rattle.im_history.specs.declared.entry.What.TheVariants.{Open}
use Rattle.im_history.specs.declared.refused.Refused.{Refused}
use Rattle.im_history.specs.declared.refused.Why.{Why}
use Rattle.im_history.specs.declared.refused.Why.TheVariants.{CursorOpen}
use Rattle.im_history.specs.declared.view.View.{View}
use Rattle.im_history.specs.Commits.{scn}
use Rattle.im_history.specs.Cursors.{Opened, cursor_at, has_own_open, is_cursor, is_cursor_open, opened, opened_after}
use Rattle.im_history.specs.History.{History}
use Rattle.im_history.specs.Legal.{Exists, IsLawful, IsLegal}
use Rattle.im_history.specs.Refusals.{altered, open_refusal}
use Rattle.im_history.specs.Rows.{Row, present}
use Rattle.im_history.specs.Tables.{tables}
use Rattle.im_history.specs.Views.{per_at, reads_at, seen_by, view_at}
use Rattle.im_history.proofs.Laws.{IsLegal-pop, opened-push}
use Rattle.im_history.proofs.ViewLaws.{HasColumns-view, asked-reached, open-asked}
use Rattle.im_names.specs.Fitting.{OfTable, QueryServes}
use Rattle.im_plan.specs.Goes.{After}
use Rattle.im_plan.specs.Plan.{Plan, Turn}
use Rattle.im_reach.specs.Sides.{Added, AreOthers, Known, speaks}
use Rattle.im_replies.specs.declared.fault.Fault.{Fault}
use Rattle.im_replies.specs.declared.served.Served.{Served}
use Rattle.im_replies.specs.declared.aim.Aim.TheVariants as aim
use Rattle.im_replies.specs.Causes.{fault_of}
use Rattle.im_scan.specs.Pinned.{seen_all}
use Rattle.im_scan.proofs.ForCallers.{defaults-are, seen_by-later}
use Rattle.im_session.specs.inner.Cursors.{IsUnopened}
use Rattle.im_session.specs.inner.Rests.{IsRest}
use Rattle.im_session.specs.inner.Scans.{IsScan}
use Rattle.im_session.specs.Cursors.{MayAskIn}
use Rattle.im_session.proofs.OtherLemmas.{cursor-after, itself}
use Rattle.im_session.proofs.RestLemmas.{attempt-done, rest-lacks_here, rest-refused}
use Rattle.im_session.proofs.TableLemmas.{asks-own, both-none, exists-longer, exists-of, none-both, of_table-same, opened-columns, per-longer, scn-longer}
use Rattle.im_statements.specs.Outcomes.{Outcome, said}
use Rattle.im_statements.specs.Scans.{opening_refusal, rows_seen, scan, serve_from}
use Rattle.im_statements.specs.Statements.{seen_columns}
use Rattle.im_statements.specs.Turns.{memory_reply, or_refused, refused_reply, unless_refused}
use Rattle.im_syntax.specs.declared.bound.Bound.{Bound}
use Rattle.im_syntax.specs.Condition.{CondOf}

-- ---- the cursor

-- a cursor that may be opened is not open
open_shut : (h : History) (who cursor : ℕ) (asked : Option ℕ) → open_refusal h who cursor asked ≡ None → is_cursor_open h who cursor ≡ false
open_shut h who cursor asked = by (is_cursor_open h who cursor) refl
  where
    by : (b : Bool) → is_cursor_open h who cursor ≡ b → (open_refusal h who cursor asked ≡ None → b ≡ false)
    by true e none = let refused : Some CursorOpen ≡ None = rw e at none in cc
    by false e none = refl

find-last : (p : Opened → Bool) (os : List Opened) (o : Opened) → list_any p os ≡ false → p o ≡ true → find p (os ++ o ∷ []) ≡ Some o
find-last p [] o none it = rw it refl
find-last p (first ∷ os) o none it = by (p first) refl (find-last p os o)
  where
    by : (b : Bool) → p first ≡ b → (list_any p os ≡ false → p o ≡ true → find p (os ++ o ∷ []) ≡ Some o) → find p (first ∷ os ++ o ∷ []) ≡ Some o
    by true e rest = let no : true ≡ false = rw e at none in cc
    by false e rest = rw e (rest (rw e at none) it)

list_any-last : (p : Opened → Bool) (os : List Opened) (o : Opened) → p o ≡ true → list_any p (os ++ o ∷ []) ≡ true
list_any-last p [] o it = rw it refl
list_any-last p (first ∷ os) o it = by (p first) (list_any-last p os o it)
  where
    by : (b : Bool) → list_any p (os ++ o ∷ []) ≡ true → (b || list_any p (os ++ o ∷ [])) ≡ true
    by true rest = refl
    by false rest = rest

-- the cursor with its view
abbrev opened_by : History → ℕ → ℕ → ℕ → Option ℕ → Opened
opened_by at who cursor table asked = record { cursor = cursor; view = view_at at who table asked }

abbrev opening : History → ℕ → ℕ → ℕ → Option ℕ → History
opening at who cursor table asked = at ++ record { who = who; what = Open cursor table asked } ∷ []

opened-opening : (at : History) (who cursor table : ℕ) (asked : Option ℕ) → opened (opening at who cursor table asked) who ≡ opened at who ++ opened_by at who cursor table asked ∷ []
opened-opening at who cursor table asked =
    opened-push at (record { who = who; what = Open cursor table asked }) who
    ∙ ap (λ (b : Bool). if b then opened_after at who (opened at who) (Open cursor table asked) else opened at who) (itself who)

-- ---- its view

pub present-same : (f g : ℕ → Option Row) (first count : ℕ) → ((rid : ℕ) → f rid ≡ g rid) → present f first count ≡ present g first count
present-same f g first zero same = refl
present-same f g first (suc count) same =
    ap (λ (o : Option Row). cons_option (option_map (λ row. (first, row)) o) (present f (first + 1) count)) (same first)
    ∙ ap (cons_option (option_map (λ row. (first, row)) (g first))) (present-same f g (first + 1) count same)

module _ (who cursor table : ℕ) (asked : Option ℕ) (old middle : Known) (at : History) (view : View) (after : After (AreOthers old.side) old.log at)
    (now : middle ≡ record old { log = opening at who cursor table asked }) (view_is : view ≡ view_at at who table asked) where
  log-is : middle.log ≡ opening at who cursor table asked
  log-is = ap (λ (s : Known). s.log) now

  found-at : (P : History → Type 0) → ((more : History) → P (old.log ++ more)) → P at
  found-at P each = subst P (sym after.log) (each after.between)

  -- it is open, with this view
  pub opening-scan : Exists old.log table → open_refusal at who cursor asked ≡ None → view.rows ≤ MOST_ROWS → 1 ≤ view.per → IsScan who cursor view middle
  opening-scan exists allowed few some = record {
    is_open =
        ap (λ (log : History). is_cursor_open log who cursor) log-is
        ∙ (ap (list_any (is_cursor cursor)) (opened-opening at who cursor table asked)
        ∙ list_any-last (is_cursor cursor) (opened at who) (opened_by at who cursor table asked) (itself cursor));
    opened =
        ap (λ (log : History). cursor_at log who cursor) log-is
        ∙ (ap (find (is_cursor cursor)) (opened-opening at who cursor table asked)
        ∙ (find-last (is_cursor cursor) (opened at who) (opened_by at who cursor table asked) (open_shut at who cursor asked allowed) (itself cursor)
        ∙ ap (λ (v : View). Some (record { cursor = cursor; view = v })) (sym view_is)));
    sees = record {
      exists = on_log (λ h. Exists h view.table) (rw view_is (exists-longer at entry table there));
      known = on_log (λ h. view.scn ≤ scn h) (rw view_is (scn-longer at entry (reads_at at who asked) (asked-reached at who asked (open-asked at who cursor asked allowed))));
      per = on_log (λ h. view.per ≡ per_at h view.table) (rw view_is (per-longer at entry table (per_at at table) there refl));
      some = some;
      cut = rw view_is refl;
      few = few;
    };
  }
    where
      entry : History
      entry = record { who = who; what = Open cursor table asked } ∷ []

      there : Exists at table
      there = found-at (λ h. Exists h table) (λ more. exists-longer old.log more table exists)

      on_log : (P : History → Type 0) → P (opening at who cursor table asked) → P middle.log
      on_log P holds = subst P (sym log-is) holds

  -- what fits the table fits it where it has the same columns
  pub opening-fits : (P : List Column → Type 0) → altered at table (seen_columns old.log table) ≡ None → OfTable (tables old.log) table P
      → OfTable (tables at) table P
  opening-fits P same of =
      found-at (λ h. altered h table (seen_columns old.log table) ≡ None → OfTable (tables h) table P)
      (λ more unaltered. of_table-same old.log more table P of unaltered) same

  -- a query may be asked of what it sees
  pub opening-asks : (bound : Bound) → reads_at at who asked ≤ scn at → altered at table (seen_columns old.log table) ≡ None → IsLawful middle.limits middle.log
      → OfTable (tables old.log) table (QueryServes bound) → MayAskIn bound view
  opening-asks bound reached same lawful of = record {
    rows = rw view_is (subst (QueryServes bound) (opened-columns at who table asked there.columns there.are_of) there.is);
    own = rw view_is (asks-own middle.limits at who table asked bound legal there);
    defaults = rw view_is (defaults-are middle.limits at (view_at at who table asked) legal (HasColumns-view at who table asked (exists-of at table (QueryServes bound) there) reached));
  }
    where
      there : OfTable (tables at) table (QueryServes bound)
      there = opening-fits (QueryServes bound) same of

      legal : IsLegal middle.limits at
      legal = (IsLegal-pop middle.limits at (record { who = who; what = Open cursor table asked })
          (subst (IsLegal middle.limits) log-is lawful.legal)).0

  -- it sees what was seen when it was opened
  pub opening-seen : reads_at at who asked ≤ scn at → seen_all middle.log view ≡ rows_seen at (view_at at who table asked)
  opening-seen reached =
      ap (λ (log : History). seen_all log view) log-is
      ∙ (ap (seen_all (opening at who cursor table asked)) view_is
      ∙ present-same (seen_by (opening at who cursor table asked) (view_at at who table asked)) (seen_by at (view_at at who table asked)) 0 (view_at at who table asked).rows
      (λ rid. seen_by-later at (record { who = who; what = Open cursor table asked } ∷ []) (view_at at who table asked) rid reached))

-- ---- what a call that opened a cursor makes known

-- a cursor was opened on a table that had so many columns at the look, with this view
abbrev pub HasOpened : ℕ → ℕ → ℕ → ℕ → Option ℕ → View → History → Type 0
HasOpened who cursor table columns asked view at = (opening_refusal at who cursor table columns asked ≡ None) × (view ≡ view_at at who table asked)

-- the call of the store says both that nothing refused it for other columns, and that nothing else did
pub opened-added : (who cursor table columns : ℕ) (asked : Option ℕ) (old middle : Known) (view : View) → columns ≡ seen_columns old.log table
    → Added old middle who (λ at. Open cursor table asked) (λ at.
    (altered at table columns ≡ None) × (open_refusal at who cursor asked ≡ None) × (view ≡ view_at at who table asked))
    → Added old middle who (λ at. Open cursor table asked) (HasOpened who cursor table (seen_columns old.log table) asked view)
opened-added who cursor table columns asked old middle view seen added = record {
  at = added.at;
  after = added.after;
  now = added.now;
  fact = rw (← seen) (both-none (altered added.at table columns) (open_refusal added.at who cursor asked) added.fact.0 added.fact.1, added.fact.2);
}

module _ (who cursor table columns : ℕ) (asked : Option ℕ) (old middle : Known) (view : View)
    (added : Added old middle who (λ at. Open cursor table asked) (HasOpened who cursor table columns asked view)) where
  allowed : (altered added.at table columns ≡ None) × (open_refusal added.at who cursor asked ≡ None)
  allowed = none-both (altered added.at table columns) (open_refusal added.at who cursor asked) added.fact.0

  pub added-scan : Exists old.log table → view.rows ≤ MOST_ROWS → 1 ≤ view.per → IsScan who cursor view middle
  added-scan exists few some =
      opening-scan who cursor table asked old middle added.at view added.after added.now added.fact.1 exists allowed.1 few some

  -- no cursor of its number was open before
  pub added-fresh : speaks old.side who ≡ true → is_cursor_open old.log who cursor ≡ false
  added-fresh mine = sym (cursor-after old.side who cursor old.log added.at mine added.after) ∙ open_shut added.at who cursor asked allowed.1

module _ (who cursor table : ℕ) (asked : Option ℕ) (old middle : Known) (view : View)
    (added : Added old middle who (λ at. Open cursor table asked) (HasOpened who cursor table (seen_columns old.log table) asked view)) where
  -- what fits the table fitted it then
  pub added-fits : (P : List Column → Type 0) → OfTable (tables old.log) table P → OfTable (tables added.at) table P
  added-fits P of =
      opening-fits who cursor table asked old middle added.at view added.after added.now added.fact.1 P
      (allowed who cursor table (seen_columns old.log table) asked old middle view added).0 of

  pub added-asks : (bound : Bound) → IsLawful middle.limits middle.log → OfTable (tables old.log) table (QueryServes bound) → MayAskIn bound view
  added-asks bound lawful of =
      opening-asks who cursor table asked old middle added.at view added.after added.now added.fact.1 bound
      (asked-reached added.at who asked (open-asked added.at who cursor asked (allowed who cursor table (seen_columns old.log table) asked old middle view added).1))
      (allowed who cursor table (seen_columns old.log table) asked old middle view added).0 lawful of

-- a cursor was opened for a line's own scan, which then goes on
pub scan-opened : (who k table columns : ℕ) (asked : Option ℕ) (old middle new : Known) (view : View) (filter : Option (CondOf ℕ Value))
    (tail : ℕ → View → List (ℕ × Row) → List Served → Plan Outcome) (outcome : Outcome)
    → Added old middle who (λ at. Open OWN_CURSOR table asked) (HasOpened who OWN_CURSOR table columns asked view)
    → IsRest who (k + 1) middle (serve_from view filter 0 (tail view.place view (seen_all middle.log view))) outcome new
    → IsRest who k old (scan who table columns asked filter (λ at view. tail (length at) view (rows_seen at view))) outcome new
scan-opened who k table columns asked old middle new view filter tail outcome added rest =
    attempt-done who k old middle new (fault_of (aim.Opening table OWN_CURSOR)) (λ at. opening_refusal at who OWN_CURSOR table columns asked)
    (λ at. Open OWN_CURSOR table asked) (HasOpened who OWN_CURSOR table columns asked view) on outcome added added.fact.0 (subst (λ (p : Plan Outcome). IsRest who (k + 1) middle p outcome new) same rest)
  where
    on : History → Plan Outcome
    on at = serve_from (view_at at who table asked) filter 0 (tail (length at) (view_at at who table asked) (rows_seen at (view_at at who table asked)))

    at : History
    at = added.at

    same : serve_from view filter 0 (tail view.place view (seen_all middle.log view)) ≡ on at
    same =
        ap (λ (rows : List (ℕ × Row)). serve_from view filter 0 (tail view.place view rows))
        (opening-seen who OWN_CURSOR table asked old middle at view added.after added.now added.fact.1
        (asked-reached at who asked (open-asked at who OWN_CURSOR asked (allowed who OWN_CURSOR table columns asked old middle view added).1)))
        ∙ ap (λ (v : View). serve_from v filter 0 (tail v.place v (rows_seen at (view_at at who table asked)))) added.fact.1

-- a cursor of this number was not opened
pub unopened-rest : (who k number table columns : ℕ) (asked : Option ℕ) (old new : Known) (decides : Bool) (tells : Why → Fault) (on : History → Plan Outcome) (refused : Refused)
    → speaks old.side who ≡ true → has_own_open old.log who ≡ false → IsUnopened who number table columns asked refused old new
    → IsRest who k old
    (Turn decides (λ at. unless_refused (opening_refusal at who number table columns asked) (Open number table asked))
    (λ at. or_refused tells at (opening_refusal at who number table columns asked) (on at)))
    (said (refused_reply tells k refused.place refused.why)) new
unopened-rest who k number table columns asked old new decides tells on refused mine shut unopened = elim unopened.cause [
  | inl lacks ↦
      subst (λ (w : Why). IsRest who k old plan (said (refused_reply tells k refused.place w)) new) (sym lacks.0)
      (subst (λ (s : Known). IsRest who k old plan (said (memory_reply k)) s) (sym lacks.1) (rest-lacks_here who k old plan mine shut))
  | inr found ↦
      rest-refused who k old new decides tells (λ at. opening_refusal at who number table columns asked) (λ at. Open number table asked) on refused mine shut found
]
  where
    plan : Plan Outcome
    plan =
        Turn decides (λ at. unless_refused (opening_refusal at who number table columns asked) (Open number table asked))
        (λ at. or_refused tells at (opening_refusal at who number table columns asked) (on at))
