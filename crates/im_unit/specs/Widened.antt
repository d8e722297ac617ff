-- A unit with more columns than it was built with.
use Rattle.std.specs.Prelude.{List, length, map}
use Rattle.std.specs.Option.{option_map}
use Rattle.im_values.specs.declared.content.Content.{Content as Value}
use Rattle.im_values.specs.Widened.{widened}
use Rattle.im_history.specs.Units.{Content}

-- what a unit holds with as many columns as there are defaults: each row that is present is lengthened by these
abbrev pub widened_content : List Value → Content → Content
widened_content defaults content = record {
  scn = content.scn;
  first = content.first;
  columns = length defaults;
  rows = map (option_map (widened defaults)) content.rows;
}
