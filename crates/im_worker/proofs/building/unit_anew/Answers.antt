use Rattle.std.proofs.Common.{◌≡◌, ◌++◌, ◌-◌, ◌*◌, ◌∙◌, List, Option, IfOk, ap, length, sym, subst}
use Rattle.im_history.specs.Fetched.{in_pieces}
use Rattle.im_history.specs.Rows.{Row}
use Rattle.im_history.specs.Units.{Content}
use Rattle.im_unit.specs.Holding.{AreShort, HaveWidth, lent_slots, wide_slots}
use Rattle.im_unit.specs.Rebuilt.{fetched_rows}
use Rattle.im_worker.specs.inner.Built.{nones}
use Rattle.im_worker.proofs.FitLemmas.{padded-rows, short-padded, width-padded}
use Rattle.im_worker.proofs.building.unit_anew.Goals as goal
use Rattle.im_worker.proofs.building.unit_anew.Goals.{After-as_slice}

-- the rows that the unit is made of
rows_are : (c : After-as_slice) →
    wide_slots c.lying.result.defaults.now c.as_slice.result.now
    ≡ fetched_rows c.args.fetched.now ++ nones (c.args.task.now.per - length c.args.fetched.now)
rows_are c =
    let defaults = c.lying.result.defaults.now in
    ap (wide_slots defaults) c.as_slice.ensures.value
    ∙ padded-rows defaults (lent_slots c.in_ok-rows.rows.items) (in_pieces c.lying.result.pieces.now) c.args.fetched.now c.args.task.now.per c.len.result
    c.in_ok-rows.ensures c.lying.ensures.rows c.len.ensures

pub unit_of_rows-requires-clause-width : goal.unit_of_rows-requires-clause-width
unit_of_rows-requires-clause-width c =
    subst (HaveWidth c.args.task.now.columns) (sym (rows_are (goal.at.unit_of_rows-requires-clause-width c).After-as_slice))
    (width-padded c.args.task.now.columns (c.args.task.now.per - length c.args.fetched.now) (fetched_rows c.args.fetched.now) c.requires.taken.0)

pub unit_of_rows-requires-clause-short : goal.unit_of_rows-requires-clause-short
unit_of_rows-requires-clause-short c =
    subst AreShort (sym (rows_are (goal.at.unit_of_rows-requires-clause-short c).After-as_slice))
    (short-padded (c.args.task.now.per - length c.args.fetched.now) (fetched_rows c.args.fetched.now) c.requires.taken.1)

pub returns : goal.returns
returns c =
    let task = c.args.task.now in
    subst
    (λ (l : List (Option Row)). IfOk c.unit_of_rows.result (λ (unit : Content). unit ≡
    record { scn = task.scn; first = task.extent * task.per; columns = task.columns; rows = l }))
    (rows_are (goal.at.returns c).After-as_slice) c.unit_of_rows.ensures
