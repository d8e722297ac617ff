use Rattle.std.proofs.Common.{◌≡◌, ◌<◌, arith, refl, ap, ◌∙◌}
use Rattle.im_txn.specs.Activity.{Activity, with_cursor}
use Rattle.im_txn.specs.Standing.{Standing, activity_at}
use Rattle.im_txn.proofs.StandingLemmas.{Turns-fits, Turns-counted, Turns-becomes, open-turns, reads}
use Rattle.im_txn.proofs.sessions.Sessions.open_cursor.Goals as goal

pub open_cursor-requires : goal.open_cursor-requires
open_cursor-requires c =
    let is = reads _ c.index.result c.index_mut.result.now c.self.invariant c.index.ensures.few c.index_mut.ensures.value in
    let has : 0 < (activity_at c.args.self.now c.index.result).cursor_room = rw c.index.ensures.same c.requires.room in
    let room : c.index_mut.result.now.cursor_room ≡ (activity_at c.args.self.now c.index.result).cursor_room =
    ap (λ (a : Activity). a.cursor_room) is ∙ ap (λ (s : Standing). (activity_at s c.index.result).cursor_room) c.self.view_is in
    omega (arith, room, has)

pub overflow_add-self : goal.overflow_add-self
overflow_add-self c =
    let is = reads _ c.index.result c.index_mut.result.now c.self.invariant c.index.ensures.few c.index_mut.ensures.value in
    let has : 0 < (activity_at c.args.self.now c.index.result).cursor_room = rw c.index.ensures.same c.requires.room in
    let room : c.index_mut.result.now.cursor_room ≡ (activity_at c.args.self.now c.index.result).cursor_room =
    ap (λ (a : Activity). a.cursor_room) is ∙ ap (λ (s : Standing). (activity_at s c.index.result).cursor_room) c.self.view_is in
    let turns =
    open-turns _ c.index.result c.args.cursor c.index_mut.result.now c.open_cursor.new.self c.self.invariant c.index.ensures.few
    c.index_mut.ensures.value c.open_cursor.ensures (omega (arith, room, has)) in
    omega (arith, Turns-fits _ _ _ _ _ turns)

pub invariant_of-self : goal.invariant_of-self
invariant_of-self c =
    let is = reads _ c.index.result c.index_mut.result.now c.self.invariant c.index.ensures.few c.index_mut.ensures.value in
    let has : 0 < (activity_at c.args.self.now c.index.result).cursor_room = rw c.index.ensures.same c.requires.room in
    let room : c.index_mut.result.now.cursor_room ≡ (activity_at c.args.self.now c.index.result).cursor_room =
    ap (λ (a : Activity). a.cursor_room) is ∙ ap (λ (s : Standing). (activity_at s c.index.result).cursor_room) c.self.view_is in
    let turns =
    open-turns _ c.index.result c.args.cursor c.index_mut.result.now c.open_cursor.new.self c.self.invariant c.index.ensures.few
    c.index_mut.ensures.value c.open_cursor.ensures (omega (arith, room, has)) in
    Turns-counted _ _ _ _ c.self.inside.locks _ turns

pub returns : goal.returns
returns c =
    let is = reads _ c.index.result c.index_mut.result.now c.self.invariant c.index.ensures.few c.index_mut.ensures.value in
    let has : 0 < (activity_at c.args.self.now c.index.result).cursor_room = rw c.index.ensures.same c.requires.room in
    let room : c.index_mut.result.now.cursor_room ≡ (activity_at c.args.self.now c.index.result).cursor_room =
    ap (λ (a : Activity). a.cursor_room) is ∙ ap (λ (s : Standing). (activity_at s c.index.result).cursor_room) c.self.view_is in
    let turns =
    open-turns _ c.index.result c.args.cursor c.index_mut.result.now c.open_cursor.new.self c.self.invariant c.index.ensures.few
    c.index_mut.ensures.value c.open_cursor.ensures (omega (arith, room, has)) in
    rw (← c.index.ensures.same, ← c.self.view_is) (record {
      activity =
          Turns-becomes _ _ _ _ c.self.inside.locks _ (with_cursor c.args.cursor) turns c.open_cursor.ensures;
      locks = refl;
    })
