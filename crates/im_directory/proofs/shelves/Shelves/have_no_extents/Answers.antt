use Rattle.std.proofs.Common.{◌∙◌, sym}
use Rattle.im_tables.proofs.Tests.{eq-true}
use Rattle.im_directory.proofs.WritesLemmas.{HaveNoExtents-put}
use Rattle.im_directory.proofs.shelves.Shelves.have_no_extents.Goals as goal

pub returns-in-Some : goal.returns-in-Some
returns-in-Some g c = λ none.
    HaveNoExtents-put c.args.self.now c.args.changes.now c.in-Some.put.table c.in-Some.put.first c.in-Some.put.rows.now c.in-Some.ensures.put
    (sym c.extents.ensures ∙ eq-true c.extents.result 0 none)
