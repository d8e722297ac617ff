use Rattle.std.proofs.Common.{map}
use Rattle.std.specs.List.{flat_map}
use Rattle.im_names.specs.Lookups.{unknown_fault}
use Rattle.im_names.specs.Queries.{item_names}
use Rattle.im_names.proofs.FaultLemmas.{From}
use Rattle.im_names.proofs.queries.check_items.Given as goal

abbrev pub invariant-loop-part : goal.invariant-loop-part
invariant-loop-part g l = From (λ i parts. unknown_fault l.schema (flat_map item_names (map g.T.HasItem.own_item parts))) l.parts l.part-index
