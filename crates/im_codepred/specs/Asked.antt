-- What a test asks of the values of a column.
use Rattle.std.specs.Prelude.{Bool, true, false, if◌then◌else◌}
use Rattle.im_values.specs.declared.content.Content.{Content as Value}
use Rattle.im_values.specs.declared.truth.Truth.{Truth}
use Rattle.im_values.specs.declared.truth.Truth.TheVariants.{Yes, No, Unknown}
use Rattle.im_values.specs.Order.{compare}
use Rattle.im_eval.specs.Holds.{null_truth, between_truth, within_truth}
use Rattle.im_codepred.specs.declared.asked.Wanted.{Wanted}
use Rattle.im_codepred.specs.declared.asked.Wanted.TheVariants.{Held, Failed}
use Rattle.im_codepred.specs.declared.asked.Asked.{Asked}
use Rattle.im_codepred.specs.declared.asked.Asked.TheVariants as ask

-- the truth is the one that is wanted: Unknown never is
abbrev pub met : Wanted → Truth → Bool
met Held Yes = true
met Held No = false
met Held Unknown = false
met Failed Yes = false
met Failed No = true
met Failed Unknown = false

-- what is wanted behind a NOT
abbrev pub swapped : Wanted → Wanted
swapped Held = Failed
swapped Failed = Held

-- what is wanted behind a NOT, where one is written
abbrev pub turned : Bool → Wanted → Wanted
turned negated wanted = if negated then swapped wanted else wanted

-- the truth of what is asked, of a value
abbrev pub truth_of : Asked → Value → Truth
truth_of (ask.Compare cmp other) value = compare value cmp other.now
truth_of ask.IsNull value = null_truth value
truth_of (ask.Between low high) value = between_truth value low.now high.now
truth_of (ask.Within choices) value = within_truth value choices.now

-- the value has the truth that is wanted
abbrev pub is_met : Wanted → Asked → Value → Bool
is_met wanted asked value = met wanted (truth_of asked value)
