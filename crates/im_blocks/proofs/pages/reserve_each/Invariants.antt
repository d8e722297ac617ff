use Rattle.im_blocks.specs.inner.Pages.{ShowWithin}
use Rattle.im_blocks.proofs.pages.reserve_each.Given as goal

-- nothing is shown that was not before
abbrev pub invariant-loop-one : goal.invariant-loop-one
invariant-loop-one l = ShowWithin l.fn.pages l.pages
