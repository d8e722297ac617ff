-- Rows that are lengthened by defaults.
use Rattle.std.specs.Prelude.{List, ◌++◌, drop, length}
use Rattle.im_values.specs.declared.content.Content.{Content as Value}

-- a row with these defaults from its length on: a row that is as long as they are stays as it is
abbrev pub widened : List Value → List Value → List Value
widened defaults row = row ++ drop (length row) defaults
