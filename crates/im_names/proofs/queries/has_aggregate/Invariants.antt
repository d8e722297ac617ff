use Rattle.std.proofs.Common.{map}
use Rattle.std.specs.List.{list_any}
use Rattle.im_syntax.specs.Functions.{is_aggregate}
use Rattle.im_names.proofs.FaultLemmas.{From}
use Rattle.im_names.proofs.queries.has_aggregate.Given as goal

abbrev pub invariant-loop-part : goal.invariant-loop-part
invariant-loop-part g l = From (λ i parts. list_any is_aggregate (map g.T.HasItem.own_item parts)) l.parts l.part-index
