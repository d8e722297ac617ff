use Rattle.std.proofs.Common.{false}
use Rattle.im_tables.proofs.GrowthLemmas.{IsGrown-line, IsGrown-padded}
use Rattle.im_tables.proofs.flags.Flags.reserve.Goals as goal

pub returns-in_err-grow-clause-same : goal.returns-in_err-grow-clause-same
returns-in_err-grow-clause-same c = IsGrown-padded false _ _ c.grow.ensures.same

pub returns-clause-same : goal.returns-clause-same
returns-clause-same c =
    IsGrown-line false _ c.self.inside.lines.items c.args.table c.index_mut.result.now c.grow-2.new.self
    (rw c.self.view_is c.grow.ensures.same) (rw c.self.view_is c.in_ok-grow.ensures.there) c.index_mut.ensures.value c.grow-2.ensures.same
