-- How parts of an answer are kept where a contract compares them.
use Rattle.std.specs.Prelude.{List}
use Rattle.std.specs.Coded.{Coded, coded_ℕ, coded_list, coded×, code_by}
use Rattle.std.specs.FinMap as map_of
use Rattle.std.proofs.Common.{refl}
use Rattle.im_values.specs.contracts.value.Value as value
use Rattle.im_group.specs.contracts.tallies.Tallies as tallies
use Rattle.im_group.specs.Partials.{Numbered, Groups, Parts}

abbrev pub coded_parts : Coded Parts
coded_parts =
    code_by (List Numbered × Groups)
    (coded×
    (coded_list (coded× coded_ℕ (coded_list value.the_row.coded)))
    (map_of.code (coded_list value.the_row.coded) tallies.the_row.coded))
    (λ p. (p.rows, p.groups)) (λ p. record { rows = p.0; groups = p.1 }) (λ _. refl)
