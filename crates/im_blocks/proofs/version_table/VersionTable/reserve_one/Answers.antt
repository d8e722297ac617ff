use Rattle.std.proofs.Common.{Bool, subst}
use Rattle.im_blocks.specs.declared.ready.Ready.TheVariants.{One}
use Rattle.im_blocks.specs.Chains.{IsReady}
use Rattle.im_blocks.proofs.RoomLemmas.{AreReady-push}
use Rattle.im_blocks.proofs.version_table.VersionTable.reserve_one.Goals as goal

pub returns-clause-more : goal.returns-clause-more
returns-clause-more c =
    let change = c.args.change in
    let new = c.reserve_row.new.self in
    let place = subst (λ (put : Bool). IsReady new change.table change.rid put) c.is_some.ensures c.in_ok-reserve_row.ensures.room in
    AreReady-push c.args.self.now new c.args.ready.now.items c.push.new.self.items (One change) c.in_ok-reserve_row.ensures.same c.requires place
    c.in_ok-push.ensures.items
