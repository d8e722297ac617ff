use Rattle.im_blocks.proofs.PageLemmas.{AreShown-same, AreShown-within}
use Rattle.im_blocks.proofs.blocks.Blocks.reserve.Goals as goal

pub invariant_of-self : goal.invariant_of-self
invariant_of-self c = AreShown-same c.self.inside.versions c.reserve.new.self c.self.inside.floor c.self.inside.pages c.in_err-ready.ensures.same c.self.invariant

pub invariant_of-self-2 : goal.invariant_of-self-2
invariant_of-self-2 c =
    AreShown-within c.reserve.new.self c.self.inside.floor c.self.inside.pages c.reserve_each.new.pages
    (AreShown-same c.self.inside.versions c.reserve.new.self c.self.inside.floor c.self.inside.pages c.in_ok-ready.ensures.same c.self.invariant) c.reserve_each.ensures
