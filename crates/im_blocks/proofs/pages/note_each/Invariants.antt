use Rattle.std.proofs.Common.{take}
use Rattle.std.specs.List.{All}
use Rattle.im_blocks.specs.inner.Pages.{HidesOne, ShowWithin}
use Rattle.im_blocks.proofs.pages.note_each.Given as goal

-- the changes so far are noted
abbrev pub invariant-loop-one : goal.invariant-loop-one
invariant-loop-one l = record {
  within : ShowWithin l.fn.pages l.pages;
  gone : All (HidesOne l.pages) (take l.one-index l.ready);
}
