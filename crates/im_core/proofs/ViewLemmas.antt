-- What open cursors see was given, one entry on; and what an opening sees.
use Rattle.std.proofs.Common.{◌≡◌, ℕ, zero, suc, ◌-◌, ◌==◌, Bool, true, false, not, if◌then◌else◌, List, [], ◌∷◌, ◌++◌, length, get_or, slice_get, Option, Some, refl, sym, ap, ◌∙◌, arith, All}
use Rattle.std.proofs.lemmas.List.Elements.{All-head, All-tail, All-nil, All-cons, All-append, All-filter}
use Rattle.std.proofs.lemmas.Option.{slice_get_read, slice_get_within}
use Rattle.im_values.specs.declared.content.Content.{Content as Value}
use Rattle.im_values.specs.declared.schema.Column.{Column}
use Rattle.im_history.specs.declared.change.Change.{Change}
use Rattle.im_history.specs.declared.entry.Entry.{Entry}
use Rattle.im_history.specs.declared.entry.What.{What}
use Rattle.im_history.specs.declared.entry.What.TheVariants.{Open, Shut}
use Rattle.im_history.specs.declared.look.TableInfo.{TableInfo}
use Rattle.im_history.specs.Cursors.{Opened, opened, opened_after, is_cursor}
use Rattle.im_history.specs.Grid.{extents_for, per_extent}
use Rattle.im_history.specs.History.{History, replay}
use Rattle.im_history.specs.Tables.{given, table_among, table_at}
use Rattle.im_history.specs.Views.{reads_at, shows_own, view_at}
use Rattle.im_history.proofs.GivenLaws.{given-grows}
use Rattle.im_history.proofs.Laws.{opened-push}
use Rattle.im_core.specs.inner.Kept.{IsView, Views}

-- the cursor's view is one
abbrev Within : History → Opened → Type 0
Within h o = IsView h o.view

later : (h : History) (entry : Entry) (os : List Opened) → All (Within h) os → All (Within (h ++ entry ∷ [])) os
later h entry [] all = All-nil _
later h entry (o ∷ os) all =
    let here : Within h o = All-head (Within h) o os all in
    let more = given-grows h entry o.view.table in
    All-cons (Within (h ++ entry ∷ [])) o os (record { within = let old = here.within in omega (arith, old, more); cut = here.cut })
    (later h entry os (All-tail (Within h) o os all))

after : (h : History) (who : ℕ) (os : List Opened) (what : What) → All (Within h) os → All (Within h) (opened_after h who os what)
after h who os (Open cursor table asked) all =
    All-append (Within h) os (record { cursor = cursor; view = view_at h who table asked } ∷ []) all
    (All-cons (Within h) (record { cursor = cursor; view = view_at h who table asked }) [] (record { within = omega arith; cut = refl }) (All-nil _))
after h who os (Shut cursor) all = All-filter (λ other. not (is_cursor cursor other)) (Within h) os all
after h who os _ all = all

pub Views-push : (h : History) (entry : Entry) → Views h → Views (h ++ entry ∷ [])
Views-push h entry views = record { each = λ who. rw (opened-push h entry who) (later h entry _ (by who (entry.who == who))) }
  where
    by : (who : ℕ) (b : Bool) → All (Within h) (if b then opened_after h who (opened h who) entry.what else opened h who)
    by who true = after h who (opened h who) entry.what (views.each who)
    by who false = views.each who

pub Views-nil : Views []
unfolding opened replay
Views-nil = record { each = λ who. All-nil _ }

-- ---- an opening

-- the table of this number, as a list of tables has it
pub info-there : (catalog : List TableInfo) (table : ℕ) (made info : TableInfo) → table_among catalog table ≡ Some made
    → info ≡ get_or catalog (table - 1) info → info ≡ made
info-there catalog zero made info is found = absurd cc
info-there catalog (suc before) made info is found =
    let inside = slice_get_within catalog before made is in
    let place : suc before - 1 ≡ before = omega arith in
    let there : slice_get catalog before ≡ Some info =
    slice_get_read catalog (length catalog) before info refl inside (found ∙ ap (λ (n : ℕ). get_or catalog n info) place) in
    let same : Some info ≡ Some made = sym there ∙ is in
    cc

-- a view of what is told of a table is the view that an opening has
pub view-made : (h : History) (who table : ℕ) (asked : Option ℕ) (place at rows per : ℕ) (columns : List Column) (defaults : List Value) (own : List Change) (info : TableInfo)
    → table_at h table ≡ Some info → place ≡ length h → at ≡ reads_at h who asked → rows ≡ given h table → per ≡ per_extent info.shape
    → columns ≡ info.schema → defaults ≡ info.defaults → own ≡ shows_own h who table asked
    → record {
      place = place;
      table = table;
      asked = asked;
      scn = at;
      rows = rows;
      per = per;
      extents = extents_for rows per;
      columns = columns;
      defaults = defaults;
      own = own;
    }
    ≡ view_at h who table asked
view-made h who table asked place at rows per columns defaults own info is place_is at_is rows_are per_is columns_are defaults_are own_is =
    rw (is, place_is, at_is, rows_are, per_is, columns_are, defaults_are, own_is) refl
