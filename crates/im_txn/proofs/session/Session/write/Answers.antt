use Rattle.std.proofs.Common.{◌≡◌, ◌++◌, ◌∷◌, [], length, ap, arith}
use Rattle.im_history.specs.Puts.{all_changes}
use Rattle.im_txn.specs.Activity.{Activity}
use Rattle.im_txn.proofs.LastsLemmas.{AreLasts-written, length-written}
use Rattle.im_txn.proofs.session.Session.write.Goals as goal

pub invariant_of-self : goal.invariant_of-self
invariant_of-self c =
    let old = c.self.inside.pending.items in
    let made : c.push.new.self.items ≡ old ++ c.args.changes ∷ [] = rw c.unwrap.ensures at c.push.ensures.items in
    let longer = rw c.unwrap.ensures at c.push.ensures.len in
    let long = length-written old c.push.new.self.items c.args.changes made in
    let count = c.len.ensures in
    let was = c.self.invariant.2 in
    let few = c.requires.fits in
    let pending : length (all_changes old) ≡ length c.args.self.now.pending = ap (λ (a : Activity). length a.pending) c.self.view_is in
    let room : c.self.inside.room ≡ c.args.self.now.room = ap (λ (a : Activity). a.room) c.self.view_is in
    let some = c.requires.room in
    let spare = c.self.invariant.0 in
    let kept = c.push.ensures.capacity in (
      omega (arith, longer, room, some, spare, kept),
      c.self.invariant.1,
      omega (arith, long, count, was),
      omega (arith, pending, count, was, few),
      AreLasts-written c.self.inside.lasts.known c.self.inside.lasts.part c.self.inside.lasts.tables.items old c.push.new.self.items c.args.changes made
          c.self.invariant.4,
    )
