-- How a session ends: what it still has open is closed, and it leaves.
use Rattle.std.specs.Prelude.{◌≡◌, ℕ, true, false, nat_le, List, [], ◌∷◌, map, Some, None, if◌then◌else◌, ⊤}
use Rattle.im_history.specs.declared.entry.What.TheVariants.{Shut, Rollback, Leave}
use Rattle.im_history.specs.Cursors.{Opened, opened}
use Rattle.im_history.specs.History.{History}
use Rattle.im_history.specs.Transactions.{is_open}
use Rattle.im_plan.specs.Goes.{Goes, Others}
use Rattle.im_plan.specs.Plan.{Plan, End, Turn}
use Rattle.im_reach.specs.Sides.{Known, speaks}

-- a number in its place among others that rise
abbrev pub placed : ℕ → List ℕ → List ℕ
placed number [] = number ∷ []
placed number (other ∷ others) = if nat_le number other then number ∷ other ∷ others else other ∷ placed number others

-- numbers in rising order
abbrev pub rising : List ℕ → List ℕ
rising [] = []
rising (number ∷ numbers) = placed number (rising numbers)

-- the numbers of the cursors that a session has open, in rising order
abbrev pub open_numbers : History → ℕ → List ℕ
open_numbers history who = rising (map (λ (cursor : Opened). cursor.cursor) (opened history who))

-- the cursors of these numbers are closed, one after the other
abbrev pub close_each : List ℕ → Plan ⊤ → Plan ⊤
close_each [] on = on
close_each (cursor ∷ cursors) on = Turn false (λ at. Some (Shut cursor)) (λ at. close_each cursors on)

-- the transaction is rolled back, where one is open
abbrev pub roll_back_open : ℕ → Plan ⊤ → Plan ⊤
roll_back_open who on = Turn false (λ at. if is_open at who then Some Rollback else None) (λ at. on)

-- what a session has open at this look is closed: its cursors in rising order, and then its transaction
abbrev pub close_all : ℕ → Plan ⊤ → Plan ⊤
close_all who on = Turn false (λ at. None) (λ at. close_each (open_numbers at who) (roll_back_open who on))

-- the end of a session
abbrev pub end_plan : ℕ → Plan ⊤
end_plan who = close_all who (Turn true (λ at. Some Leave) (λ at. End tt))

-- the same where memory ran out: the Leave alone is missing
abbrev pub end_without_leave : ℕ → Plan ⊤
end_without_leave who = close_all who (End tt)

-- a session went by this plan to its end, whatever others did meanwhile
pub record IsEnded (who : ℕ) (old : Known) (plan : Plan ⊤) (new : Known) : Type 0 where
  pub known : new ≡ record old { log = new.log }
  pub goes : Goes (Others (speaks old.side)) who old.log plan tt new.log
