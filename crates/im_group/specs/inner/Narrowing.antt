-- What a query asks of counts that say more.
use Rattle.std.specs.Prelude.{List, map, get_or, if◌then◌else◌}
use Rattle.im_values.specs.declared.content.Content.{Content as Value}
use Rattle.im_values.specs.declared.content.Content.TheVariants.{Null}
use Rattle.im_group.specs.declared.asked.Asked.{Asked}
use Rattle.im_group.specs.Sums.{SumsOf, no_sums}
use Rattle.im_group.specs.Tallies.{Tallied}

-- a summary without the ends that are not asked for
abbrev pub narrowed : Asked → SumsOf → SumsOf
narrowed asked s = record {
  values = s.values;
  total = s.total;
  least = if asked.least then s.least else Null;
  greatest = if asked.greatest then s.greatest else Null;
}

-- of the summaries of all columns that of one
abbrev pub picked : List SumsOf → Asked → SumsOf
picked ss asked = narrowed asked (get_or ss asked.column no_sums)

-- a group with the summaries of the columns that are asked for
abbrev pub narrowed_group : List Asked → List Value × Tallied → List Value × Tallied
narrowed_group asked g = (g.0, record { rows = g.1.rows; sums = map (picked g.1.sums) asked })
