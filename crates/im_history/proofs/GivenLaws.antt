-- Row numbers that were given stay given.
use Rattle.std.proofs.Common.{ℕ, ◌+◌, ◌≤◌, ◌==◌, Bool, true, false, if◌then◌else◌, max, List, [], ◌∷◌, ◌++◌, arith}
use Rattle.im_history.specs.declared.change.Change.{Change}
use Rattle.im_history.specs.declared.entry.Entry.{Entry}
use Rattle.im_history.specs.declared.entry.What.{What}
use Rattle.im_history.specs.declared.entry.What.TheVariants.{Write}
use Rattle.im_history.specs.History.{History}
use Rattle.im_history.specs.Tables.{given, given_by, given_after}
use Rattle.im_history.proofs.Laws.{given-push}

pub given_by-grows : (table n : ℕ) (changes : List Change) → n ≤ given_by table n changes
given_by-grows table n [] = omega arith
given_by-grows table n (change ∷ changes) = by (change.table == table) (given_by-grows table n changes) (given_by-grows table (max n (change.rid + 1)) changes)
  where
    by : (b : Bool) → n ≤ given_by table n changes → max n (change.rid + 1) ≤ given_by table (max n (change.rid + 1)) changes
        → n ≤ given_by table (if b then max n (change.rid + 1) else n) changes
    by true same more = omega (arith, more)
    by false same more = same

given_after-grows : (table n : ℕ) (what : What) → n ≤ given_after table n what
given_after-grows table n (Write changes) = given_by-grows table n changes
given_after-grows table n _ = omega arith

pub given-grows : (h : History) (entry : Entry) (table : ℕ) → given h table ≤ given (h ++ entry ∷ []) table
given-grows h entry table = rw (given-push h entry table) (given_after-grows table (given h table) entry.what)
