use Rattle.std.proofs.Common.{subst}
use Rattle.im_history.specs.declared.member.Member.{Member}
use Rattle.im_standby.specs.Standing.{IsNext}
use Rattle.im_standby.proofs.LawfulLemmas.{room_for_column, room_for_table}
use Rattle.im_standby.proofs.standby.Standby.take_in.Goals as goal

pub create-requires : goal.create-requires
create-requires c = record {
  room = room_for_table c.args.self.now _ _ _ (subst (λ (m : Member). IsNext c.args.self.now m) c.in-Create.is c.requires.next);
}

pub add_column-requires : goal.add_column-requires
add_column-requires c = record {
  room = room_for_column c.args.self.now c.in-Add.table _ _ (subst (λ (m : Member). IsNext c.args.self.now m) c.in-Add.is c.requires.next);
}
