use Rattle.std.proofs.Common.{◌∙◌}
use Rattle.im_core.proofs.LendLemmas.{keeps_stale}
use Rattle.im_core.proofs.SeenLemmas.{Holds-seen}
use Rattle.im_core.proofs.store.Core.fetch_stale.Goals as goal

pub returns-in_err-fetched-clause-steps : goal.returns-in_err-fetched-clause-steps
returns-in_err-fetched-clause-steps g c at is =
    let stale = keeps_stale c.args.table c.args.extent c.args.scn at (Holds-seen c.self.invariant c.self.view_is) c.requires.old is
    (c.as_slice.ensures.value ∙ c.in_ok-stale.ensures) in
    rw stale.long at c.rows_of.ensures.few

pub returns-clause-fetched : goal.returns-clause-fetched
returns-clause-fetched g c at is =
    let stale = keeps_stale c.args.table c.args.extent c.args.scn at (Holds-seen c.self.invariant c.self.view_is) c.requires.old is
    (c.as_slice.ensures.value ∙ c.in_ok-stale.ensures) in
    c.in_ok-fetched.ensures.rows ∙ stale.rows

pub returns-clause-steps : goal.returns-clause-steps
returns-clause-steps g c at is =
    let stale = keeps_stale c.args.table c.args.extent c.args.scn at (Holds-seen c.self.invariant c.self.view_is) c.requires.old is
    (c.as_slice.ensures.value ∙ c.in_ok-stale.ensures) in
    rw stale.long at c.rows_of.ensures.few
