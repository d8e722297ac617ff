use Rattle.std.proofs.Common.{◌∙◌, sym, ap, subst}
use Rattle.check_store.specs.Going.{IsUnderWay}
use Rattle.check_store.proofs.builds.ends_late.Goals as goal
use Rattle.im_history.specs.Legal.{IsLawful}
use Rattle.im_reach.specs.Sides.{Known}

pub reads-anew-requires-clause-sole : goal.reads-anew-requires-clause-sole
reads-anew-requires-clause-sole g c = ap (λ (k : Known). k.side) c.look_on.ensures.same ∙ c.requires.sole

pub reads-anew-requires-clause-under_way : goal.reads-anew-requires-clause-under_way
reads-anew-requires-clause-under_way g c = subst (IsUnderWay 18 c.args.task) (sym c.look_on.ensures.same) c.requires.under_way

pub finish-switched-requires-clause-sole : goal.finish-switched-requires-clause-sole
finish-switched-requires-clause-sole g c = ap (λ (k : Known). k.side) (c.reads-anew.ensures ∙ c.look_on.ensures.same) ∙ c.requires.sole

pub finish-switched-requires-clause-lawful : goal.finish-switched-requires-clause-lawful
finish-switched-requires-clause-lawful g c = subst (λ (k : Known). IsLawful k.limits k.log) (sym c.reads-anew.ensures) c.look_on.ensures.lawful

pub finish-switched-requires-clause-under_way : goal.finish-switched-requires-clause-under_way
finish-switched-requires-clause-under_way g c =
    subst (IsUnderWay 18 c.args.task) (sym (c.reads-anew.ensures ∙ c.look_on.ensures.same)) c.requires.under_way
