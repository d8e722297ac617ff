use Rattle.std.proofs.Common.{◌/◌, ap, sym, subst, ◌∙◌}
use Rattle.std.specs.Option.{option_copied}
use Rattle.im_blocks.specs.Chains.{AllVersions}
use Rattle.im_blocks.specs.inner.Reading.{IsReadable}
use Rattle.im_blocks.proofs.PageLemmas.{IsReadable-shown, page_found}
use Rattle.im_blocks.proofs.blocks.Blocks.image_at.Goals as goal

pub returns : goal.returns
returns c =
    let pages = c.self.inside.pages in
    let number = c.args.rid / 2048 in
    let page = c.in_ok-page.page.now in
    let image = c.in_ok-image.image.now in
    let found = page_found pages c.args.table number page (sym c.get.ensures ∙ ap option_copied c.in_ok-page.was) in
    let is = sym c.as_ref.ensures.value ∙ ap option_copied c.in_ok-image.was in
    subst (λ (b : AllVersions). IsReadable b c.args.table number c.args.scn image) c.self.view_is
    (IsReadable-shown c.self.inside.versions c.self.inside.floor pages c.args.table number c.args.scn page image c.self.invariant found is c.if-scn-self.false
    c.if-image-scn.false)
