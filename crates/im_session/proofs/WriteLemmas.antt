-- Changes to rows that a scan saw may be written.
use Rattle.std.proofs.Common.{◌≡◌, ℕ, zero, suc, ◌+◌, ◌<◌, ◌≤◌, ◌==◌, ◌&&◌, ◌⊎◌, inl, inr, Bool, true, false, if◌then◌else◌, IsTrue, List, [], ◌∷◌, ◌++◌, length, map, filter, fold, get_or, Option, Some, None, is_some, refl, sym, ap, ◌∙◌, subst, arith, rules, All}
use Rattle.std.proofs.lemmas.List.Elements.{All-nil, All-cons}
use Rattle.std.specs.List.{AllAdjacentBelow, cons_option}
use Rattle.std.specs.Option.{option_map}
use Rattle.im_values.specs.declared.schema.Column.{Column}
use Rattle.im_values.specs.declared.content.Content.{Content as Value}
use Rattle.im_values.specs.Fits.{fits}
use Rattle.im_group.specs.Partials.{Parts, groups_of, keeps, kept, partial}
use Rattle.std.specs.FinMap as map_of
use Rattle.im_history.specs.declared.cursors.TheConstants.{OWN_CURSOR}
use Rattle.im_history.specs.declared.change.Change.{Change}
use Rattle.im_history.specs.declared.entry.What.TheVariants.{Open}
use Rattle.im_history.specs.declared.view.View.{View}
use Rattle.im_history.specs.Commits.{scn}
use Rattle.im_history.specs.History.{History}
use Rattle.im_history.specs.Legal.{IsLawful, IsLegal, MayWrite, still_seen, row_fits}
use Rattle.im_history.specs.Rows.{Row, rows, row_after, seen, present, own_changes}
use Rattle.im_history.specs.Tables.{tables}
use Rattle.im_history.specs.Transactions.{pending}
use Rattle.im_history.specs.Views.{reads_at, seen_by, shown, shows_own, view_at}
use Rattle.im_history.proofs.FitLaws.{seen-fits}
use Rattle.im_history.proofs.Laws.{IsLegal-pop, pending-push}
use Rattle.im_history.proofs.ViewLaws.{snapshot-reached}
use Rattle.im_names.specs.Fitting.{OfTable, QueryServes}
use Rattle.im_reach.specs.Sides.{Added, Known, speaks}
use Rattle.im_scan.specs.Pinned.{seen_all}
use Rattle.im_scan.proofs.ForCallers.{seen_by-later}
use Rattle.im_session.specs.inner.Scans.{IsScan, Went}
use Rattle.im_session.specs.inner.Writes.{AreRows, AreSeen, MayRewriteIn, RewriteServes, SetsServe, condition_query}
use Rattle.im_session.proofs.OpeningLemmas.{HasOpened, added-fits}
use Rattle.im_session.proofs.AssignLemmas.{fits-assigned}
use Rattle.im_session.proofs.OtherLemmas.{pending-after}
use Rattle.im_session.proofs.TableLemmas.{made_of, opened-columns}
use Rattle.im_statements.specs.declared.rewriting.Rewriting.{Rewriting}
use Rattle.im_statements.specs.declared.rewriting.Rewriting.TheVariants.{Updating, Deleting}
use Rattle.im_statements.specs.Statements.{seen_columns}
use Rattle.im_statements.specs.Writes.{changes_to, kept_rows, rewritten}
use Rattle.im_syntax.specs.declared.bound.Bound.{Bound}
use Rattle.im_syntax.specs.Condition.{CondOf}

-- ---- own changes, applied once more

abbrev touches : ℕ → ℕ → Change → Bool
touches table rid change = (change.table == table) && (change.rid == rid)

-- what changes leave at a row number is the same whatever stood there, or what stood there
abbrev Settles : ℕ → ℕ → List Change → Type 0
Settles table rid changes =
    ((x y : Option Row) → fold (row_after table rid) x changes ≡ fold (row_after table rid) y changes)
    ⊎ ((x : Option Row) → fold (row_after table rid) x changes ≡ x)

settles : (table rid : ℕ) (changes : List Change) → Settles table rid changes
settles table rid [] = inr (λ x. refl)
settles table rid (change ∷ changes) = by (touches table rid change) refl (settles table rid changes)
  where
    skipped : (x : Option Row) → touches table rid change ≡ false → fold (row_after table rid) x (change ∷ changes) ≡ fold (row_after table rid) x changes
    skipped x e = ap (λ (b : Bool). fold (row_after table rid) (if b then change.row else x) changes) e

    put : (x : Option Row) → touches table rid change ≡ true → fold (row_after table rid) x (change ∷ changes) ≡ fold (row_after table rid) change.row changes
    put x e = ap (λ (b : Bool). fold (row_after table rid) (if b then change.row else x) changes) e

    by : (b : Bool) → touches table rid change ≡ b → Settles table rid changes → Settles table rid (change ∷ changes)
    by true e rest = inl (λ x y. put x e ∙ sym (put y e))
    by false e rest = elim rest [
      | inl same ↦ inl (λ x y. skipped x e ∙ (same x y ∙ sym (skipped y e)))
      | inr stays ↦ inr (λ x. skipped x e ∙ stays x)
    ]

-- changes to other tables change nothing
of_table : (table rid : ℕ) (changes : List Change) (x : Option Row) →
    fold (row_after table rid) x (filter (λ change. change.table == table) changes) ≡ fold (row_after table rid) x changes
of_table table rid [] x = refl
of_table table rid (change ∷ changes) x = by (change.table == table) refl (of_table table rid changes (row_after table rid x change))
    (of_table table rid changes x)
  where
    others : List Change
    others = filter (λ c. c.table == table) changes

    by : (b : Bool) → (change.table == table) ≡ b →
        fold (row_after table rid) (row_after table rid x change) others ≡ fold (row_after table rid) (row_after table rid x change) changes →
        fold (row_after table rid) x others ≡ fold (row_after table rid) x changes →
        fold (row_after table rid) x (if b then change ∷ filter (λ c. c.table == table) changes else filter (λ c. c.table == table) changes)
        ≡ fold (row_after table rid) x (change ∷ changes)
    by true e after before = after
    by false e after before = before ∙ ap (λ (b : Bool). fold (row_after table rid) (if b && (change.rid == rid) then change.row else x) changes) (sym e)

-- ---- what a view sees still stands

is_some-some : (o : Option Row) (row : Row) → o ≡ Some row → IsTrue (is_some o)
is_some-some o row e = rw e (the_true)
  where
    the_true : IsTrue true
    the_true = search rules

-- where a view shows a row, there is one
some-shown : (view : View) (o : Option Row) (row : Row) → shown view o ≡ Some row → IsTrue (is_some o)
some-shown view None row e = absurd cc
some-shown view (Some written) row e = search rules

-- the changes that the session has pending leave a row where the view sees one, whatever they are put upon
still : (h : History) (who : ℕ) (cursor : ℕ) (view : View) (rid : ℕ) (row : Row) → view.own ≡ own_changes h who view.table
    → seen_by h view rid ≡ Some row → IsTrue (is_some (still_seen h who (record { cursor = cursor; view = view }) rid))
unfolding seen
still h who cursor view rid row own_is saw = elim (settles view.table rid (pending h who)) [
  | inl same ↦
      ap is_some (same (seen_by h view rid) x)
      ∙ (ap is_some (sym own) ∙ some-shown view (fold (row_after view.table rid) x view.own) row saw)
  | inr stays ↦ is_some-some (still_seen h who (record { cursor = cursor; view = view }) rid) row (stays (seen_by h view rid) ∙ saw)
]
  where
    x : Option Row
    x = rows h view.table view.scn rid

    own : fold (row_after view.table rid) x view.own ≡ fold (row_after view.table rid) x (pending h who)
    own = ap (fold (row_after view.table rid) x) own_is ∙ of_table view.table rid (pending h who) x

-- ---- rows that a view sees

-- those of a stretch of row numbers
present-seen : (h : History) (view : View) (low first count : ℕ) → low ≤ first → first + count ≡ view.rows →
    AreSeen h view low (present (seen_by h view) first count)
present-seen h view low first zero from whole = tt
present-seen h view low first (suc count) from whole =
    by (seen_by h view first) refl (present-seen h view low (first + 1) count (omega (arith, from)) (omega (arith, whole)))
    (present-seen h view (first + 1) (first + 1) count (omega arith) (omega (arith, whole)))
  where
    later : List (ℕ × Row)
    later = present (seen_by h view) (first + 1) count

    by : (o : Option Row) → seen_by h view first ≡ o → AreSeen h view low later → AreSeen h view (first + 1) later →
        AreSeen h view low (cons_option (option_map (λ row. (first, row)) o) later)
    by None e lower higher = lower
    by (Some row) e lower higher = (from, omega (arith, whole), e, higher)

pub seen_all-are : (h : History) (view : View) → AreSeen h view 0 (seen_all h view)
seen_all-are h view = present-seen h view 0 0 view.rows (omega arith) (omega arith)

-- ---- the changes

-- a change of a table's row
abbrev pub to_row : ℕ → (ℕ × Row → Option Row) → ℕ × Row → Change
to_row table put row = record { table = table; rid = row.0; row = put row }

rising-seen : (h : History) (view : View) (low : ℕ) (table : ℕ) (put : ℕ × Row → Option Row) (rows : List (ℕ × Row)) → AreSeen h view low rows →
    AllAdjacentBelow (λ before after. before.rid < after.rid) (map (to_row table put) rows) (length (map (to_row table put) rows))
rising-seen h view low table put [] are = λ k d within. absurd (omega (arith, within))
rising-seen h view low table put (row ∷ []) are = λ k d within. absurd (omega (arith, within))
rising-seen h view low table put (row ∷ next ∷ rows) are = rises (rising-seen h view (row.0 + 1) table put (next ∷ rows) are.3)
  where
    changes : List Change
    changes = map (to_row table put) (next ∷ rows)

    rises : AllAdjacentBelow (λ before after. before.rid < after.rid) changes (length changes) → (k : ℕ) (d : Change) →
        k + 1 < length (to_row table put row ∷ changes) →
        (get_or (to_row table put row ∷ changes) k d).rid < (get_or (to_row table put row ∷ changes) (k + 1) d).rid
    rises rest zero d within = let after = are.3.0 in omega (arith, after)
    rises rest (suc k) d within =
        let past : suc k + 1 ≡ suc (k + 1) = omega arith in
        rw past (rest k d (omega (arith, within)))

all-seen : (h : History) (view : View) (low : ℕ) (table : ℕ) (put : ℕ × Row → Option Row) (P : Change → Type 0) (rows : List (ℕ × Row)) →
    AreSeen h view low rows → ((row : ℕ × Row) → row.0 < view.rows → seen_by h view row.0 ≡ Some row.1 → P (to_row table put row)) →
    All P (map (to_row table put) rows)
all-seen h view low table put P [] are each = All-nil _
all-seen h view low table put P (row ∷ rows) are each =
    All-cons P (to_row table put row) _ (each row are.1 are.2) (all-seen h view (row.0 + 1) table put P rows are.3 each)

-- rows that are kept are still seen ones
seen-lower : (h : History) (view : View) (low least : ℕ) (rows : List (ℕ × Row)) → least ≤ low → AreSeen h view low rows → AreSeen h view least rows
seen-lower h view low least [] le are = tt
seen-lower h view low least (row ∷ rows) le are = (omega (arith, le, are.0), are.1, are.2, are.3)

seen-kept : (h : History) (view : View) (low : ℕ) (test : ℕ × Row → Bool) (rows : List (ℕ × Row)) → AreSeen h view low rows →
    AreSeen h view low (filter test rows)
seen-kept h view low test [] are = tt
seen-kept h view low test (row ∷ rows) are = by (test row) (seen-kept h view (row.0 + 1) test rows are.3)
  where
    by : (b : Bool) → AreSeen h view (row.0 + 1) (filter test rows) → AreSeen h view low (if b then row ∷ filter test rows else filter test rows)
    by true rest = (are.0, are.1, are.2, rest)
    by false rest = seen-lower h view (row.0 + 1) low (filter test rows) (omega (arith, are.0)) rest

-- ---- rows that are rewritten

-- what may be rewritten may be so once others went on
pub rewrites-went : (who : ℕ) (rewriting : Rewriting) (view : View) (old new : Known) → speaks old.side who ≡ true → view.scn ≤ scn old.log
    → Went old new → MayRewriteIn who rewriting view old → MayRewriteIn who rewriting view new
rewrites-went who rewriting view old new mine known went may = record {
  unasked = may.unasked;
  own = may.own ∙ ap (filter (λ change. change.table == view.table)) (sym (pending-after old.side who old.log new.log mine went.after));
  fit = λ rid row saw.
      may.fit rid row (sym (ap (λ (h : History). seen_by h view rid) went.after.log ∙ seen_by-later old.log went.after.between view rid known) ∙ saw);
  values = may.values;
}

-- rows that a view sees are seen once others went on
seen-went : (view : View) (old new : Known) (low : ℕ) (rows : List (ℕ × Row)) → view.scn ≤ scn old.log → Went old new → AreSeen old.log view low rows
    → AreSeen new.log view low rows
seen-went view old new low [] known went are = tt
seen-went view old new low (row ∷ rows) known went are = (
  are.0,
  are.1,
  ap (λ (h : History). seen_by h view row.0) went.after.log ∙ (seen_by-later old.log went.after.between view row.0 known ∙ are.2),
  seen-went view old new (row.0 + 1) rows known went are.3,
)

-- those that a condition keeps of all that a view sees
pub rows-went : (view : View) (old new : Known) (kept : Option (CondOf ℕ Value)) → view.scn ≤ scn old.log → Went old new
    → AreRows new.log view (kept_rows kept (seen_all old.log view))
rows-went view old new kept known went = record {
  seen = seen-went view old new 0 (kept_rows kept (seen_all old.log view)) known went
      (seen-kept old.log view 0 (λ row. keeps kept row.1) (seen_all old.log view) (seen_all-are old.log view));
}

-- what becomes of a row that fits its table fits it
rewritten-fits : (rewriting : Rewriting) (columns : List Column) (row : Row) → SetsServe rewriting columns → fits row columns ≡ true
    → IsTrue (row_fits columns (rewritten rewriting row))
rewritten-fits (Updating sets) columns row serves fit = true_is (fits-assigned columns sets row fit serves)
  where
    true_is : {b : Bool} → b ≡ true → IsTrue b
    true_is e = rw e (the_true)
      where
        the_true : IsTrue true
        the_true = search rules
rewritten-fits Deleting columns row serves fit = search rules

-- rows that the open scan of a session sees may be rewritten
pub may-rewrite : (who : ℕ) (rewriting : Rewriting) (view : View) (rows : List (ℕ × Row)) (now : Known) → IsScan who OWN_CURSOR view now
    → MayRewriteIn who rewriting view now → AreRows now.log view rows → 1 ≤ length (changes_to view.table rewriting rows)
    → MayWrite now.log who OWN_CURSOR (changes_to view.table rewriting rows)
may-rewrite who rewriting view rows now scan may are some = record {
  opened = record { cursor = OWN_CURSOR; view = view };
  is = scan.opened;
  unasked = may.unasked;
  some = some;
  same = all-seen now.log view 0 view.table put (λ (c : Change). c.table ≡ view.table) rows are.seen (λ row inside saw. refl);
  rising = rising-seen now.log view 0 view.table put rows are.seen;
  inside = all-seen now.log view 0 view.table put (λ (c : Change). c.rid < view.rows) rows are.seen (λ row inside saw. inside);
  saw = all-seen now.log view 0 view.table put (λ (c : Change). IsTrue (is_some (seen_by now.log view c.rid))) rows are.seen
      (λ row inside saw. is_some-some (seen_by now.log view row.0) row.1 saw);
  stands = all-seen now.log view 0 view.table put
      (λ (c : Change). IsTrue (is_some (still_seen now.log who (record { cursor = OWN_CURSOR; view = view }) c.rid))) rows are.seen
      (λ row inside saw. still now.log who OWN_CURSOR view row.0 row.1 may.own saw);
  fit = all-seen now.log view 0 view.table put (λ (c : Change). IsTrue (row_fits view.columns c.row)) rows are.seen
      (λ row inside saw. rewritten-fits rewriting view.columns row.1 may.values (may.fit row.0 row.1 saw));
}
  where
    put : ℕ × Row → Option Row
    put row = rewritten rewriting row.1

-- ---- the opening

-- the query of a condition alone may be asked
pub condition-serves : (h : History) (table : ℕ) (filter : Option (CondOf ℕ Value)) (rewriting : Rewriting)
    → OfTable (tables h) table (RewriteServes filter rewriting) → OfTable (tables h) table (QueryServes (condition_query table filter))
condition-serves h table filter rewriting of = record {
  columns = of.columns;
  are_of = of.are_of;
  is = record {
    rows = λ row fit. record { filter = of.is.condition row fit; items = tt; groups = tt; keys = tt };
    query = record { grouped = refl; items = λ grouped. absurd cc; keys = λ grouped. absurd cc };
  };
}

-- the rows that a query of a condition alone keeps
pub kept-rows : (bound : Bound) (rows : List (ℕ × Row)) → bound.grouped ≡ false → (partial bound rows).rows ≡ kept_rows bound.filter rows
kept-rows bound rows plain =
    ap (λ (b : Bool).
    (let parts : Parts = if b then record { rows = []; groups = groups_of bound (map (λ r. r.1) (kept bound rows)) }
    else record { rows = kept bound rows; groups = map_of.empty } in parts).rows) plain

module _ (who table : ℕ) (asked : Option ℕ) (unasked : asked ≡ None) (old middle : Known) (view : View) (filter_is : Option (CondOf ℕ Value))
    (rewriting : Rewriting)
    (added : Added old middle who (λ at. Open OWN_CURSOR table asked) (HasOpened who OWN_CURSOR table (seen_columns old.log table) asked view)) (lawful : IsLawful middle.limits middle.log)
    (of : OfTable (tables old.log) table (RewriteServes filter_is rewriting)) where
  abbrev at : History
  at = added.at

  abbrev entry : History
  entry = record { who = who; what = Open OWN_CURSOR table asked } ∷ []

  log-is : middle.log ≡ at ++ entry
  log-is = ap (λ (s : Known). s.log) added.now

  there : OfTable (tables at) table (RewriteServes filter_is rewriting)
  there = added-fits who OWN_CURSOR table asked old middle view added (RewriteServes filter_is rewriting) of

  legal : IsLegal middle.limits at
  legal = (IsLegal-pop middle.limits at (record { who = who; what = Open OWN_CURSOR table asked }) (subst (IsLegal middle.limits) log-is lawful.legal)).0

  pending-is : pending middle.log who ≡ pending at who
  pending-is =
      ap (λ (h : History). pending h who) log-is
      ∙ (pending-push at (record { who = who; what = Open OWN_CURSOR table asked }) who ∙ if-same (who == who) (pending at who))
    where
      if-same : {A : Type 0} (b : Bool) (x : A) → (if b then x else x) ≡ x
      if-same true x = refl
      if-same false x = refl

  -- it reads at an SCN that was reached
  reached : reads_at at who asked ≤ scn at
  reached = subst (λ (o : Option ℕ). reads_at at who o ≤ scn at) (sym unasked) (snapshot-reached at who)

  table-is : view.table ≡ table
  table-is = ap (λ (v : View). v.table) added.fact.1

  columns-are : there.columns ≡ view.columns
  columns-are = opened-columns at who table asked there.columns there.are_of ∙ ap (λ (v : View). v.columns) (sym added.fact.1)

  -- what was seen when the cursor was opened fits the table
  fit-at : (rid : ℕ) (row : Row) → seen_by at (view_at at who table asked) rid ≡ Some row → fits row there.columns ≡ true
  fit-at rid row saw =
      let m = made_of at table there.columns there.are_of in
      ap (fits row) (sym m.schema) ∙ seen-fits middle.limits at who table asked rid m.made row legal m.is saw

  -- rows that the cursor sees may be rewritten
  pub added-rewrites : MayRewriteIn who rewriting view middle
  added-rewrites = record {
    unasked = ap (λ (v : View). v.asked) added.fact.1 ∙ unasked;
    own =
        ap (λ (v : View). v.own) added.fact.1
        ∙ (ap (shows_own at who table) unasked
        ∙ (ap (filter (λ change. change.table == table)) (sym pending-is)
        ∙ ap (λ (n : ℕ). own_changes middle.log who n) (sym table-is)));
    fit = λ rid row saw.
        ap (fits row) (sym columns-are)
        ∙ fit-at rid row
        (sym (ap (λ (h : History). seen_by h view rid) log-is
        ∙ (ap (λ (v : View). seen_by (at ++ entry) v rid) added.fact.1
        ∙ seen_by-later at entry (view_at at who table asked) rid reached)) ∙ saw);
    values = subst (SetsServe rewriting) columns-are there.is.values;
  }
