use Rattle.im_turn.proofs.Ends.{opens_at}
use Rattle.im_turn.proofs.turn.Turn.new.Goals as goal

-- a new turn keeps the rule
pub new-requires : goal.new-requires
new-requires g c =
    let v = g.V.Logged in
    let pushed = c.push_reserved in
    opens_at v.log v.who v.fixed c.args.v c.of-key.result.value c.entries.result c.in-Ok.slots.items pushed.new.self.items c.entries.ensures
    c.in-Ok.ensures.items pushed.ensures.items c.of-key.ensures
