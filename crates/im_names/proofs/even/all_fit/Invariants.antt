use Rattle.std.proofs.Common.{◌≡◌, drop}
use Rattle.std.specs.List.{list_all}
use Rattle.im_values.specs.Fits.{fits}
use Rattle.im_names.proofs.even.all_fit.Given as goal

-- all fit exactly where those that are left do
abbrev pub invariant-loop-at : goal.invariant-loop-at
invariant-loop-at l = list_all (λ row. fits row l.schema) (drop l.at l.tuples) ≡ list_all (λ row. fits row l.schema) l.tuples
