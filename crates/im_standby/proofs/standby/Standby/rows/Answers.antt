use Rattle.std.proofs.Common.{sym, subst, ◌∙◌}
use Rattle.im_standby.specs.Standing.{IsOf, Standing}
use Rattle.im_standby.proofs.StandingLemmas.{rows_at_are}
use Rattle.im_standby.proofs.standby.Standby.rows.Goals as goal

pub returns-clause-rows : goal.returns-clause-rows
returns-clause-rows g c = λ members is.
    c.in_ok-rows.ensures.rows
    ∙ rows_at_are _ members (subst (λ (s : Standing). IsOf s members) (sym c.self.view_is) is) c.args.table c.args.first c.args.count
