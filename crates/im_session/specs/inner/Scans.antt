-- A scan over a side of a store, between the opening of its cursor and its end.
use Rattle.std.specs.Prelude.{◌≡◌, ℕ, true, [], ◌∷◌, ◌++◌, List, length, Option, Some}
use Rattle.im_history.specs.declared.cursors.TheConstants.{OWN_CURSOR}
use Rattle.im_history.specs.declared.entry.What.TheVariants.{Shut}
use Rattle.im_history.specs.declared.view.View.{View}
use Rattle.im_history.specs.Cursors.{cursor_at, is_cursor_open}
use Rattle.im_history.specs.History.{History}
use Rattle.im_history.specs.Rows.{Row}
use Rattle.im_history.specs.Serving.{fetched_in, serving_content}
use Rattle.im_history.specs.Units.{Content}
use Rattle.im_plan.specs.Goes.{After}
use Rattle.im_plan.specs.Plan.{Plan}
use Rattle.im_reach.specs.Rests.{Logged}
use Rattle.im_reach.specs.Rests as sides
use Rattle.im_reach.specs.Sides.{AreOthers, Known}
use Rattle.im_session.specs.Cursors.{IsView}
use Rattle.im_session.specs.inner.Rests.{IsRest}
use Rattle.im_statements.specs.Outcomes.{Outcome}

-- the history went on, by whomever
pub record Longer (old new : Known) : Type 0 where
  pub more : History
  pub log : new.log ≡ old.log ++ more

-- others alone went on
abbrev pub Went : Known → Known → Type 0
Went old new = sides.Went Logged old new

-- others went on, and then the cursor of a statement's own scan was shut
pub record IsShut (who : ℕ) (old new : Known) : Type 0 where
  pub at : History
  pub after : After (AreOthers old.side) old.log at
  pub now : new ≡ record old { log = at ++ record { who = who; what = Shut OWN_CURSOR } ∷ [] }

-- an open cursor of a session has this view
pub record IsScan (who cursor : ℕ) (view : View) (now : Known) : Type 0 where
  pub is_open : is_cursor_open now.log who cursor ≡ true
  pub opened : cursor_at now.log who cursor ≡ Some (record { cursor = cursor; view = view })
  pub sees : IsView view now

-- a line came from one plan to another: as it goes by the second there, it goes by the first here
pub record Comes (who k : ℕ) (old : Known) (plan : Plan Outcome) (new : Known) (later : Plan Outcome) : Type 0 where
  pub rest : (outcome : Outcome) (late : Known) → IsRest who k new later outcome late → IsRest who k old plan outcome late

-- it came to some plan
pub record Stops (who k : ℕ) (old : Known) (plan : Plan Outcome) (new : Known) : Type 0 where
  pub later : Plan Outcome
  pub comes : Comes who k old plan new later

-- this was read of an extent, for a view, at this history
pub record IsRead (history : History) (view : View) (extent place : ℕ) (unit : Option Content) (fetched : List (ℕ × Option Row)) : Type 0 where
  pub place_is : place ≡ length history
  pub unit_is : unit ≡ serving_content history view extent
  pub fetched_is : fetched ≡ fetched_in history view extent
