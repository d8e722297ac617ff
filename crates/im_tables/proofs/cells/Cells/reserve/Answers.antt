use Rattle.im_tables.proofs.GrowthLemmas.{AddsUpTo-line, AddsUpTo-padded, IsGrown-line, IsGrown-padded}
use Rattle.im_tables.proofs.cells.Cells.reserve.Goals as goal

pub returns-in_err-grow-clause-same : goal.returns-in_err-grow-clause-same
returns-in_err-grow-clause-same g c = IsGrown-padded g.T.Cell.blank _ _ c.grow.ensures.same

pub returns-clause-same : goal.returns-clause-same
returns-clause-same g c =
    IsGrown-line g.T.Cell.blank _ c.self.inside.lines.items c.args.table c.index_mut.result.now c.grow-2.new.self
    (rw c.self.view_is c.grow.ensures.same) (rw c.self.view_is c.in_ok-grow.ensures.there) c.index_mut.ensures.value c.grow-2.ensures.same

pub returns-in_err-grow-clause-only : goal.returns-in_err-grow-clause-only
returns-in_err-grow-clause-only g c = AddsUpTo-padded _ _ c.args.table c.args.number c.grow.ensures.same

pub returns-clause-only : goal.returns-clause-only
returns-clause-only g c =
    AddsUpTo-line _ c.self.inside.lines.items c.args.table c.args.number c.index_mut.result.now c.grow-2.new.self
    (rw c.self.view_is c.grow.ensures.same) (rw c.self.view_is c.in_ok-grow.ensures.there) c.index_mut.ensures.value c.grow-2.ensures.most
