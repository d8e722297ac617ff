use Rattle.std.proofs.Common.{◌+◌, ◌*◌, [], length, refl, rules}
use Rattle.std.proofs.lemmas.Result.{IfOk-weaker}
use Rattle.std.specs.Prelude.{slice_index_or, IfOk}
use Rattle.im_group.specs.Partials.{partial}
use Rattle.im_session.specs.inner.Pins.{GoesOnBy}
use Rattle.im_session.proofs.PinLemmas.{part-chunk}
use Rattle.im_session.proofs.parts.chunk_parts.Goals as goal

pub returns-clause-parts : goal.returns-clause-parts
returns-clause-parts g c = record {
  each = λ n other less.
      let bound = c.args.cursor.now.bound in
      let view = c.args.cursor.now.view in
      let gives = (c.in_ok-made.ensures.each n other less).1 in
      let made : IfOk (slice_index_or c.in_ok-made.made.items n other) (GoesOnBy bound view (c.args.cursor.now.next + n * c.args.size)
      gives.argument.now (length gives.argument.now) (partial bound [])) = search (rules, gives.call) in
      IfOk-weaker (slice_index_or c.in_ok-made.made.items n other) _ _
      (λ part goes.
      part-chunk bound view c.args.cursor.now.next c.args.size (n * c.args.size) c.args.pins.now gives.argument.now (partial bound []) part
      gives.argument_is refl goes)
      made;
}
