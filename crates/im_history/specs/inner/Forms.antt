-- How changes are kept.
use Rattle.std.specs.Prelude.{◌+◌, ◌^◌, ◌≤◌, List, length}
use Rattle.im_history.specs.declared.change.Change.{Change}
use Rattle.im_history.specs.declared.changes.Form.{Form}
use Rattle.im_history.specs.declared.changes.Form.TheVariants.{Put, Each}
use Rattle.im_history.specs.Puts.{put_from}

-- the changes that are kept so
abbrev pub changes_in : Form → List Change
changes_in (Put table first rows) = put_from table first rows
changes_in (Each changes) = changes.items

-- the row numbers are numbers of 64 bits
abbrev pub HasNumbers : Form → Type 0
HasNumbers (Put table first rows) = first + length rows ≤ 2 ^ 63
HasNumbers (Each changes) = Unit {0}
