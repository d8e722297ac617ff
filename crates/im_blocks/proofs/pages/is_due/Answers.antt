use Rattle.std.proofs.Common.{◌∙◌, ap}
use Rattle.im_tables.proofs.ForCallers.{HasCell-with_cell}
use Rattle.im_blocks.specs.declared.pages.Page.{Page}
use Rattle.im_blocks.specs.inner.Pages.{page_at}
use Rattle.im_blocks.proofs.PageLemmas.{ShowWithin-set, ShowsWithin-same}
use Rattle.im_blocks.proofs.pages.is_due.Goals as goal

pub returns-clause-there : goal.returns-clause-there
returns-clause-there c =
    HasCell-with_cell c.args.pages.now c.args.asked.table c.args.number c.is_due.new.self c.args.asked.table c.args.number c.requires

pub returns-clause-within : goal.returns-clause-within
returns-clause-within c =
    let pages = c.args.pages.now in
    let page = c.is_due.new.self in
    ShowWithin-set pages c.args.asked.table c.args.number page c.requires
    (ShowsWithin-same (page_at pages c.args.asked.table c.args.number) page (c.is_due.ensures ∙ ap (λ (p : Page). p.image) c.cell_mut.ensures.value))
