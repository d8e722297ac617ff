use Rattle.std.proofs.lemmas.List.{take_all}
use Rattle.std.proofs.lemmas.Simd.{map-map}
use Rattle.im_text.proofs.rows.put_rows.Goals as goal

pub returns : goal.returns
returns c =
    let whole = take_all c.loop-cells.cells-index c.records-cells-items.result.now c.loop-cells-test.false in
    let all = rw whole at c.loop-cells.invariant in
    rw (← c.records-cells-items.ensures, map-map) all
