use Rattle.std.proofs.Common.{◌≡◌, map, take}
use Rattle.im_names.specs.Lookups.{number_of}
use Rattle.im_names.proofs.targets.listed.Given as goal

abbrev pub invariant-loop-name : goal.invariant-loop-name
invariant-loop-name l = l.numbers.items ≡ map (number_of l.schema) (take l.name-index l.names)
