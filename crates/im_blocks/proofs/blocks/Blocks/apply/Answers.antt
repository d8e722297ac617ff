use Rattle.std.proofs.Common.{List, sym, subst}
use Rattle.std.specs.List.{All}
use Rattle.im_blocks.specs.declared.ready.Ready.{Ready}
use Rattle.im_blocks.specs.Chains.{AllVersions}
use Rattle.im_blocks.specs.Readied.{HasPlace}
use Rattle.im_blocks.specs.inner.Pages.{AreNoted}
use Rattle.im_blocks.proofs.PageLemmas.{AreShown-applied}
use Rattle.im_blocks.proofs.blocks.Blocks.apply.Goals as goal

pub invariant_of-self : goal.invariant_of-self
invariant_of-self c =
    let ready = c.args.ready.items in
    let places = subst (λ (b : AllVersions). All (HasPlace b) ready) (sym c.self.view_is) c.requires.room.each in
    let noted = subst (λ (l : List Ready). AreNoted c.self.inside.pages c.note_each.new.pages l) c.as_slice.ensures.value c.note_each.ensures in
    AreShown-applied c.self.inside.versions c.apply.new.self c.self.inside.floor c.args.scn c.self.inside.pages c.note_each.new.pages ready c.self.invariant places noted c.apply.ensures
