use Rattle.std.proofs.Common.{sym, subst, ◌∙◌}
use Rattle.im_standby.specs.Standing.{IsOf, Standing}
use Rattle.im_standby.proofs.StandingLemmas.{row_is}
use Rattle.im_standby.proofs.standby.Standby.row.Goals as goal

pub returns-clause-row : goal.returns-clause-row
returns-clause-row g c = λ members is.
    c.at.ensures.row
    ∙ row_is _ members (subst (λ (s : Standing). IsOf s members) (sym c.self.view_is) is) c.args.table c.args.rid
