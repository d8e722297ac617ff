use Rattle.std.proofs.Common.{◌≡◌}
use Rattle.im_turn.proofs.hold.seize.Given as goal

-- each exchange that found the value out left the seat as it was
abbrev pub invariant-loop : goal.invariant-loop
invariant-loop g l = record {
  can_next : (goal.iterator-loop g).can_next l.iterator';
  is_finite : (goal.iterator-loop g).is_finite l.iterator';
  turn : l.seat.table_id ≡ l.initial.seat.table_id;
  id : l.seat.id ≡ l.initial.seat.id;
  me : l.seat.me ≡ l.initial.seat.me;
}
