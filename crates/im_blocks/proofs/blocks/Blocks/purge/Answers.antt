use Rattle.std.proofs.Common.{ℕ, sym, subst}
use Rattle.im_blocks.specs.inner.Pages.{AreShown}
use Rattle.im_blocks.proofs.PageLemmas.{AreShown-purged}
use Rattle.im_blocks.proofs.blocks.Blocks.purge.Goals as goal

pub invariant_of-self : goal.invariant_of-self
invariant_of-self c =
    let new = c.purge.new.self in
    subst (λ (floor : ℕ). AreShown new floor c.self.inside.pages) (sym c.max-self-inside.ensures)
    (AreShown-purged c.self.inside.versions new c.self.inside.floor c.args.floor c.self.inside.pages c.purge.ensures c.self.invariant)
