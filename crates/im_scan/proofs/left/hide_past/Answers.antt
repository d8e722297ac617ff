use Rattle.std.proofs.Common.{◌∙◌, ◌&&◌, false, ap, length, sym, take, arith}
use Rattle.std.proofs.lemmas.List.{length-replicate, take_all}
use Rattle.im_lanes.specs.Masks.{filled, joined}
use Rattle.im_unit.specs.Holding.{count_present}
use Rattle.im_scan.specs.inner.Left.{cut_at}
use Rattle.im_scan.proofs.LeftLemmas.{cut-joined, cut-none, length-filled}
use Rattle.im_scan.proofs.left.hide_past.Goals as goal

pub returns-then-len-count : goal.returns-then-len-count
returns-then-len-count c =
    let rows = c.args.unit.now.rows in
    let all = ap count_present (take_all c.args.count rows (omega (arith, c.if-len-count.true, c.len.ensures.len))) in
    cut-none (count_present (take c.args.count rows)) c.args.spots.now (omega (arith, all, c.requires))

pub returns-then-below-len : goal.returns-then-below-len
returns-then-below-len c =
    cut-none (count_present (take c.args.count c.args.unit.now.rows)) c.args.spots.now
    (omega (arith, c.if-below-len.true, c.before-below.ensures, c.len-len.ensures.len))

pub fill-requires-clause-within : goal.fill-requires-clause-within
fill-requires-clause-within c =
    omega (arith, ap length c.in_ok-first.ensures, length-replicate c.len-len.result false, c.if-below-len.false)

pub and_with-requires : goal.and_with-requires
and_with-requires c =
    let below = c.before-below.result in
    let len = c.len-len.result in
    sym c.len-len.ensures.len
    ∙ sym (ap length (c.fill.ensures ∙ ap (filled 0 below) c.in_ok-first.ensures) ∙ length-filled below len (omega (arith, c.if-below-len.false)))

pub returns : goal.returns
returns c =
    let below = c.before-below.result in
    let spots = c.args.spots.now in
    c.and_with.ensures
    ∙ (ap (joined (λ a b. a && b) spots) (c.fill.ensures ∙ ap (filled 0 below) c.in_ok-first.ensures)
    ∙ (cut-joined below c.len-len.result spots c.len-len.ensures.len (omega (arith, c.if-below-len.false))
    ∙ ap (λ n. cut_at n spots) c.before-below.ensures))
