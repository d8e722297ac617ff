use Rattle.std.proofs.Common.{◌≡◌, ◌+◌, ◌/◌, ◌%◌, length, min, rules}
use Rattle.std.proofs.lemmas.Iterator.Adapters.{YieldsList-from_vec}
use Rattle.std.proofs.lemmas.Iterator.Consumers.{YieldsList-end, YieldsList-turn}
use Rattle.std.proofs.lemmas.List.{length_push}
use Rattle.std.specs.Vec.Iter.{into_iter_len}
use Rattle.im_session.proofs.PinLemmas.{before-kept, chunk-goes, chunk-merges, chunks-done}
use Rattle.im_session.proofs.parts.merged_chunks.Goals as goal

pub merge-requires : goal.merge-requires
merge-requires g c =
    let made = c.in_ok-chunks.chunks.items in
    let count : length made ≡ length c.args.pins.now / c.chunk_size-size.result + min 1 (length c.args.pins.now % c.chunk_size-size.result) = search rules in
    let long : into_iter_len c.into_iter-chunk-iterator.result ≡ length made = search rules in
    let turn = YieldsList-turn (YieldsList-from_vec {s = c.into_iter-chunk-iterator.result} made c.into_iter-chunk-iterator.ensures.into_iter_gives.0 long)
    c.loop-chunk.yielded c.loop-chunk.chunk-iterator c.loop-chunk.yielded_by c.next.result c.next.new.self c.in-Some.chunk c.in-Some.is c.next.ensures.steps in
    record {
      few =
          chunk-merges c.args.cursor.now.bound c.args.cursor.now.view c.args.cursor.now.next c.chunk_size-size.result (length c.loop-chunk.yielded)
          c.args.pins.now made c.in-Some.chunk c.args.cursor.now.part c.loop-chunk.all c.in-Ok.more c.loop-chunk.all c.chunk_size-size.ensures count
          c.in_ok-chunks.ensures.parts turn c.in-Ok.is c.loop-chunk.invariant c.requires.asked.few
          (before-kept c.args.cursor.now c.requires.left.0 c.args.pins.now c.requires.left.1) c.requires.left.0 c.requires.left.1.are;
    }

pub loop-chunk-preserved : goal.loop-chunk-preserved
loop-chunk-preserved g c =
    let made = c.in_ok-chunks.chunks.items in
    let count : length made ≡ length c.args.pins.now / c.chunk_size-size.result + min 1 (length c.args.pins.now % c.chunk_size-size.result) = search rules in
    let long : into_iter_len c.into_iter-chunk-iterator.result ≡ length made = search rules in
    let turn = YieldsList-turn (YieldsList-from_vec {s = c.into_iter-chunk-iterator.result} made c.into_iter-chunk-iterator.ensures.into_iter_gives.0 long)
    c.loop-chunk.yielded c.loop-chunk.chunk-iterator c.loop-chunk.yielded_by c.next.result c.next.new.self c.in-Some.chunk c.in-Some.is c.next.ensures.steps in
    chunk-goes c.args.cursor.now.bound c.args.cursor.now.view c.args.cursor.now.next c.chunk_size-size.result (length c.loop-chunk.yielded)
    c.args.pins.now made c.in-Some.chunk c.args.cursor.now.part c.loop-chunk.all c.in-Ok.more c.merge.new.self c.chunk_size-size.ensures count
    c.in_ok-chunks.ensures.parts turn c.in-Ok.is c.loop-chunk.invariant _ (length_push c.loop-chunk.yielded c.in-Some.chunk)
    c.in-Ok-merge.ensures.merged

pub returns : goal.returns
returns g c =
    let made = c.in_ok-chunks.chunks.items in
    let count : length made ≡ length c.args.pins.now / c.chunk_size-size.result + min 1 (length c.args.pins.now % c.chunk_size-size.result) = search rules in
    let long : into_iter_len c.into_iter-chunk-iterator.result ≡ length made = search rules in
    let last = YieldsList-end (YieldsList-from_vec {s = c.into_iter-chunk-iterator.result} made c.into_iter-chunk-iterator.ensures.into_iter_gives.0 long)
    c.loop-chunk.yielded c.loop-chunk.chunk-iterator c.loop-chunk.yielded_by c.next.result c.next.new.self c.in-None.is c.next.ensures.steps in
    chunks-done c.args.cursor.now.bound c.args.cursor.now.view c.args.cursor.now.next c.chunk_size-size.result (length c.loop-chunk.yielded)
    (length made) c.args.pins.now c.args.cursor.now.part c.loop-chunk.all c.chunk_size-size.ensures count last.1 c.loop-chunk.invariant
