-- What a pin fetches.
use Rattle.std.proofs.Common.{◌≡◌, ℕ, ◌-◌, ◌*◌, ◌<◌, ◌≤◌, Bool, true, false, min, List, [], ◌∷◌, length, Option, Some, None, refl, sym, ◌∙◌, subst, arith, All}
use Rattle.std.specs.List.{find}
use Rattle.std.specs.Option.{IsSome, option_map}
use Rattle.std.proofs.lemmas.List.Elements.{All-head, All-tail}
use Rattle.im_values.specs.declared.limits.TheConstants.{CHANGE_WEIGHT, MOST_ROWS, MOST_WEIGHT}
use Rattle.im_history.specs.declared.limits.Limits.{Limits}
use Rattle.im_history.specs.declared.view.View.{View}
use Rattle.im_history.specs.Stored.{Stored}
use Rattle.im_history.specs.Cursors.{Opened, opened, cursor_at, is_cursor}
use Rattle.im_history.specs.History.{History}
use Rattle.im_history.specs.Horizon.{horizon}
use Rattle.im_history.specs.Tables.{given}
use Rattle.im_blocks.specs.Chains.{AllVersions, rows_at}
use Rattle.im_blocks.specs.Kept.{IsKept}
use Rattle.im_blocks.proofs.ForCallers.{rows_at_kept}
use Rattle.im_txn.specs.declared.cursor.Cursor.{Cursor}
use Rattle.im_txn.specs.Activity.{cursor_in}
use Rattle.im_txn.specs.Agrees.{kept}
use Rattle.im_txn.specs.Standing.{activity_at}
use Rattle.im_txn.proofs.ForCallers.{cursor-by}
use Rattle.im_history.specs.Units.{Content}
use Rattle.im_history.proofs.GridLaws.{first_within}
use Rattle.im_core.specs.inner.Holds.{Caches, Holds}
use Rattle.im_core.specs.Answers.{cursor_view, view_of}
use Rattle.im_history.specs.Serving.{committed_in, rows_in}
use Rattle.im_core.specs.inner.Kept.{IsView, Views}

-- what is found in a list has what each element has
pub found_has : {X : Type 0} (P : X → Type 0) (q : X → Bool) (xs : List X) (x : X) → All P xs → find q xs ≡ Some x → P x
found_has P q [] x all found = cc
found_has {X} P q (first ∷ xs) x all found = by (q first) refl (All-head P first xs all) (λ rest. found_has P q xs x (All-tail P first xs all) rest)
  where
    some-inj : (a : X) → Some a ≡ Some x → a ≡ x
    some-inj a e = cc

    by : (b : Bool) → q first ≡ b → P first → (find q xs ≡ Some x → P x) → P x
    by true e here rest = subst P (some-inj first (rw e at found)) here
    by false e here rest = rest (rw e at found)

-- the cursor that a session has open is kept with its view
pub record HasView (view : View) (extent : ℕ) (cursor : Cursor) : Type 0 where
  pub table : cursor.table ≡ view.table
  pub scn : cursor.scn ≡ view.scn
  pub rows : cursor.rows ≡ view.rows
  pub per : cursor.per ≡ view.per
  pub columns : cursor.columns ≡ length view.columns
  pub first : extent * cursor.per < cursor.rows
  pub few : cursor.rows ≤ MOST_ROWS

-- the cursor whose view has this extent is found
pub record FindsView (view : View) (extent : ℕ) (found : Option Cursor) : Type 0 where
  pub cursor : Cursor
  pub is : found ≡ Some cursor
  pub has : HasView view extent cursor

pub finds_view : (h : History) (who cursor extent : ℕ) (found : Option Cursor) → Views h → ((table : ℕ) → given h table * CHANGE_WEIGHT ≤ MOST_WEIGHT)
    → found ≡ option_map kept (cursor_at h who cursor) → extent < (cursor_view h who cursor).extents → FindsView (cursor_view h who cursor) extent found
finds_view h who cursor extent found views light found_is within = by (cursor_at h who cursor) refl found_is within
  where
    by : (o : Option Opened) → cursor_at h who cursor ≡ o → found ≡ option_map kept o → extent < (view_of o).extents → FindsView (view_of o) extent found
    by None e is few = absurd (omega (arith, few))
    by (Some opened_one) e is few =
        let view : IsView h opened_one.view = found_has (λ (o : Opened). IsView h o.view) (is_cursor cursor) (opened h who) opened_one (views.each who) e in
        record {
          cursor = kept opened_one;
          is = is;
          has = record {
            table = refl;
            scn = refl;
            rows = refl;
            per = refl;
            columns = refl;
            first = first_within opened_one.view.rows opened_one.view.per extent (rw view.cut at few);
            few = let most = light opened_one.view.table in let old = view.within in omega (arith, most, old);
          };
        }

-- what is read for it
pub fetched_is : (h : History) (blocks : AllVersions) (view : View) (extent count : ℕ) (cursor : Cursor) → IsKept h blocks
    → horizon h ≤ view.scn → HasView view extent cursor → count ≡ min cursor.per (cursor.rows - extent * cursor.per)
    → rows_at blocks cursor.table (extent * cursor.per) count cursor.scn ≡ committed_in h view extent
fetched_is h blocks view extent count cursor keeps old has count_is =
    rows_at_kept h blocks keeps cursor.table (extent * cursor.per) count cursor.scn (rw has.scn old)
    ∙ rw (count_is, has.table, has.scn, has.rows, has.per) refl

pub rows_in_is : (view : View) (extent count : ℕ) (cursor : Cursor) → HasView view extent cursor → count ≡ min cursor.per (cursor.rows - extent * cursor.per)
    → count ≡ rows_in view extent
rows_in_is view extent count cursor has count_is = count_is ∙ rw (has.rows, has.per) refl

-- what a store gave is few row numbers
pub given_few : {U : Type 0} (content : U → Content) (limits : Limits) (history : Stored) (caches : Caches U) → Holds content limits history caches
    → (table : ℕ) → given history.entries table * CHANGE_WEIGHT ≤ MOST_WEIGHT
given_few content limits history caches holds table =
    let light = holds.tables.light table in
    let within = holds.within in
    let store = holds.small.store in
    omega (arith, light, within, store)

-- the view that an open cursor of a store has
pub store_view : {U : Type 0} (content : U → Content) (limits : Limits) (history : Stored) (caches : Caches U) (who cursor extent : ℕ)
    → Holds content limits history caches → extent < (cursor_view history.entries who cursor).extents
    → FindsView (cursor_view history.entries who cursor) extent (cursor_in (activity_at caches.standing who) cursor)
store_view content limits history caches who cursor extent holds within =
    finds_view history.entries who cursor extent (cursor_in (activity_at caches.standing who) cursor) holds.views
    (given_few content limits history caches holds) (cursor-by history.entries caches.standing who cursor holds.sessions) within

-- what a store found where it looked for that cursor
module _ {U : Type 0} {content : U → Content} {limits : Limits} {history : Stored} {caches : Caches U} {found : Option Cursor} {extent : ℕ} (who cursor : ℕ)
    (holds : Holds content limits history caches) (within : extent < (cursor_view history.entries who cursor).extents)
    (found_is : found ≡ cursor_in (activity_at caches.standing who) cursor) where
  finds : FindsView (cursor_view history.entries who cursor) extent (cursor_in (activity_at caches.standing who) cursor)
  finds = store_view content limits history caches who cursor extent holds within

  pub is_found : IsSome found
  is_found = rw (found_is ∙ finds.is) refl

  pub has_view : {one : Cursor} → found ≡ Some one → HasView (cursor_view history.entries who cursor) extent one
  has_view is = subst (HasView (cursor_view history.entries who cursor) extent) (some-inj (sym finds.is ∙ (sym found_is ∙ is))) finds.has
    where
      some-inj : {a b : Cursor} → Some a ≡ Some b → a ≡ b
      some-inj e = cc
