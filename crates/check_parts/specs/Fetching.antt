-- What is fetched of the row numbers of an extent from 1,000 on.
use Rattle.std.specs.Prelude.{ℕ, ◌+◌, List, Option}
use Rattle.im_history.specs.Rows.{Row}
use Rattle.im_unit.specs.Holding.{AreShort, HaveWidth}
use Rattle.im_unit.specs.Rebuilt.{RiseWithin, fetched_rows}

-- the row numbers rise, before the one that is so far from the first one, and the rows have three short values
pub record AreFetched (fetched : List (ℕ × Option Row)) (count : ℕ) : Type 0 where
  pub rise : RiseWithin 1000 (1000 + count) fetched
  pub width : HaveWidth 3 (fetched_rows fetched)
  pub short : AreShort (fetched_rows fetched)
