-- What a session keeps of a cursor that stays open between lines, and what that agrees with.
use Rattle.std.specs.Prelude.{◌≡◌, ◌≤◌}
use Rattle.std.specs.List.{AllByRecursion}
use Rattle.im_values.specs.declared.limits.TheConstants.{MOST_ROWS}
use Rattle.im_group.specs.Partials.{partial}
use Rattle.im_history.specs.declared.view.View.{View}
use Rattle.im_history.specs.Commits.{scn}
use Rattle.im_history.specs.Grid.{extents_for}
use Rattle.im_history.specs.Legal.{Exists}
use Rattle.im_history.specs.Views.{per_at}
use Rattle.im_names.specs.Fitting.{QueryServes}
use Rattle.im_reach.specs.Sides.{Known}
use Rattle.im_scan.specs.Parts.{AreDefaults, MayAskShown}
use Rattle.im_scan.specs.Pinned.{seen_to}
use Rattle.im_session.specs.declared.cursor.Cursor.{Cursor}
use Rattle.im_statements.specs.Outcomes.{OpenQuery}
use Rattle.im_syntax.specs.declared.bound.Bound.{Bound}
use Rattle.im_syntax.specs.BoundQuery.{IsQuery}

-- what plans know of a cursor that is kept
abbrev pub query_of : Cursor → OpenQuery
query_of kept = record { cursor = kept.number; bound = kept.bound; view = kept.view; next = kept.next }

-- a view of a table that is there, no newer than what is known, with its row numbers cut into extents
pub record IsView (view : View) (now : Known) : Type 0 where
  pub exists : Exists now.log view.table
  pub known : view.scn ≤ scn now.log
  pub per : view.per ≡ per_at now.log view.table
  pub some : 1 ≤ view.per
  pub cut : view.extents ≡ extents_for view.rows view.per
  pub few : view.rows ≤ MOST_ROWS

-- a query may be asked of what a view sees
pub record MayAskIn (bound : Bound) (view : View) : Type 0 where
  pub rows : QueryServes bound view.columns
  pub own : AllByRecursion (λ change. MayAskShown bound view change.row) view.own
  pub defaults : AreDefaults view

-- what is kept of a cursor: the partial answer of its query over the rows that its view sees in the extents before the next one
pub record IsSound (kept : Cursor) (now : Known) : Type 0 where
  pub sees : IsView kept.view now
  pub asks : MayAskIn kept.bound kept.view
  pub query : IsQuery kept.bound
  pub next : kept.next ≤ kept.view.extents
  pub part : kept.part ≡ partial kept.bound (seen_to now.log kept.view kept.next)
