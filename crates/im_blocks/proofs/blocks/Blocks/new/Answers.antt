use Rattle.std.proofs.Common.{List, sym, subst}
use Rattle.im_blocks.specs.declared.pages.Page.{Page}
use Rattle.im_blocks.specs.Chains.{AllVersions, no_versions}
use Rattle.im_blocks.specs.inner.Pages.{AreShown}
use Rattle.im_blocks.proofs.PageLemmas.{AreShown-none}
use Rattle.im_blocks.proofs.blocks.Blocks.new.Goals as goal

pub invariant_of-result : goal.invariant_of-result
invariant_of-result c =
    subst (λ (b : AllVersions). AreShown b 0 c.new-2.result) (sym c.new.ensures)
    (subst (λ (pages : List (List Page)). AreShown no_versions 0 pages) (sym c.new-2.ensures) (AreShown-none 0))
