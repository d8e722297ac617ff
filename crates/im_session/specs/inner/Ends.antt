-- What is left of the end of a session, for the proofs of the functions that play it.
use Rattle.std.specs.Prelude.{◌≡◌, ℕ, false, List, map, ⊤}
use Rattle.im_history.specs.Cursors.{opened}
use Rattle.im_history.specs.History.{History}
use Rattle.im_history.specs.Leaves.{has_left}
use Rattle.im_history.specs.Transactions.{is_open}
use Rattle.im_plan.specs.Goes.{Goes, Others}
use Rattle.im_plan.specs.Plan.{Plan}
use Rattle.im_reach.specs.Sides.{Known, speaks}
use Rattle.im_session.specs.declared.cursor.Cursor.{Cursor}
use Rattle.im_session.specs.Ends.{close_each, rising, roll_back_open}
use Rattle.im_session.specs.Sessions.{AreApart, state_of}
use Rattle.im_statements.specs.Agreement.{AreQueriesOf}

-- the end came from one plan to another: as it goes by the second there, it goes by the first here
pub record Leads (who : ℕ) (old : Known) (plan : Plan ⊤) (new : Known) (later : Plan ⊤) : Type 0 where
  pub known : new ≡ record old { log = new.log }
  pub goes : (late : History) → Goes (Others (speaks old.side)) who new.log later tt late → Goes (Others (speaks old.side)) who old.log plan tt late

-- the numbers of cursors that are kept, in rising order
abbrev pub kept_numbers : List Cursor → List ℕ
kept_numbers cursors = rising (map (λ kept. kept.number) cursors)

-- some of the cursors that were kept are closed, and these are left
pub record IsClosing (who : ℕ) (before : List Cursor) (old : Known) (left : List Cursor) (new : Known) : Type 0 where
  pub leads : (on : Plan ⊤) → Leads who old (close_each (kept_numbers before) on) new (close_each (kept_numbers left) on)
  pub queries : AreQueriesOf (state_of left).queries (opened new.log who)
  pub apart : AreApart left
  pub transaction : is_open new.log who ≡ is_open old.log who
  pub stays : has_left new.log who ≡ has_left old.log who

-- no transaction is open any more
pub record IsRolledBack (who : ℕ) (old new : Known) : Type 0 where
  pub leads : (on : Plan ⊤) → Leads who old (roll_back_open who on) new on
  pub cursors : opened new.log who ≡ opened old.log who
  pub idle : is_open new.log who ≡ false
  pub stays : has_left new.log who ≡ has_left old.log who
