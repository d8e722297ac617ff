use Rattle.std.proofs.Common.{◌++◌, arith, length-append, take}
use Rattle.std.proofs.lemmas.List.{length-take}
use Rattle.std.proofs.lemmas.Result.{err_from_is_err_and}
use Rattle.im_edge.proofs.ForCallers.{Gave-append}
use Rattle.im_edge.proofs.reading.read_through.Goals as goal

pub returns-in-Bytes-clause-limit : goal.returns-in-Bytes-clause-limit
returns-in-Bytes-clause-limit g c =
    let came = take c.in-Bytes.count c.read_front.new.buffer in
    record {
      bytes = c.loop-count.bytes.items ++ came;
      size = omega (
        arith,
        length-append c.loop-count.bytes.items came,
        length-take c.in-Bytes.count c.read_front.new.buffer,
        c.loop-count.bytes.ok.0,
        c.in-Bytes.ensures.count,
      );
      gave = Gave-append _ _ _ _ _ c.loop-count.invariant.gave c.in-Bytes.ensures.content;
    }

pub returns-in_err-extend_from_slice-in-Bytes-2-clause-limit :
    goal.returns-in_err-extend_from_slice-in-Bytes-2-clause-limit
returns-in_err-extend_from_slice-in-Bytes-2-clause-limit g c =
    let came = take c.in-Bytes-2.count c.read_front.new.buffer in
    let p = err_from_is_err_and c.from_residual-in_err-extend_from_slice-in-Bytes-2.result c.from_residual-in_err-extend_from_slice-in-Bytes-2.ensures.1 in
    rw (p.1, p.2) (record {
      bytes = c.loop-count.bytes.items ++ came;
      few = omega (
        arith,
        length-append c.loop-count.bytes.items came,
        length-take c.in-Bytes-2.count c.read_front.new.buffer,
        c.loop-count.bytes.ok.0,
        c.in-Bytes-2.ensures.count,
      );
      gave = Gave-append _ _ _ _ _ c.loop-count.invariant.gave c.in-Bytes-2.ensures.content;
    })

pub returns-in_err-make_room-in-Bytes-2-clause-limit : goal.returns-in_err-make_room-in-Bytes-2-clause-limit
returns-in_err-make_room-in-Bytes-2-clause-limit g c =
    let came = take c.in-Bytes-2.count c.read_front.new.buffer in
    let p = err_from_is_err_and c.from_residual.result c.from_residual.ensures.1 in
    rw (p.1, p.2) (record {
      bytes = c.loop-count.bytes.items ++ came;
      few = omega (
        arith,
        length-append c.loop-count.bytes.items came,
        length-take c.in-Bytes-2.count c.read_front.new.buffer,
        c.loop-count.bytes.ok.0,
        c.in-Bytes-2.ensures.count,
      );
      gave = Gave-append _ _ _ _ _ c.loop-count.invariant.gave c.in-Bytes-2.ensures.content;
    })
