-- What contracts see of a turn.
use Rattle.std.specs.Prelude.{◌≡◌, ℕ}
use Rattle.atomic_table.specs.Seated.{TableId}

-- which turn it is
abbrev pub TurnId : Type 0
TurnId = TableId

-- a turn is known by its id, and its numbers are those below its count
pub record TurnState : Type 0 where
  pub id : TurnId
  pub count : ℕ

-- the table of a turn has two words, the count of entries and the flag, and one slot
abbrev pub IsSized : TurnId → Type 0
IsSized table = (table.words ≡ 2) × (table.slots ≡ 1)
