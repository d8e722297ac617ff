use Rattle.im_blocks.specs.inner.Pages.{StayShown}
use Rattle.im_blocks.proofs.pages.renew_each.Given as goal

-- what pages show is still what the versions have
abbrev pub invariant-loop-number : goal.invariant-loop-number
invariant-loop-number l = StayShown l.versions l.fn.pages l.pages
