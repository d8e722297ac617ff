use Rattle.std.specs.Prelude.{◌≡◌, take}
use Rattle.im_history.specs.Tables.{nulls}
use Rattle.im_history.proofs.look.nulls_for.Given as goal

abbrev pub invariant-loop-column : goal.invariant-loop-column
invariant-loop-column l = l.values.items ≡ nulls (take l._column-index l.columns)
