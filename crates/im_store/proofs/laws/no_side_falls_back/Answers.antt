use Rattle.std.proofs.Common.{◌≡◌, ◌≢◌, ℕ, ◌≤◌, Some, refl, sym, ap, ◌∙◌, subst}
use Rattle.im_history.specs.declared.entry.Mode.{Mode}
use Rattle.im_history.specs.declared.entry.Mode.TheVariants.{Committed, Serializable, ReadOnly}
use Rattle.im_history.specs.Commits.{scn}
use Rattle.im_history.specs.History.{History}
use Rattle.im_history.specs.Rows.{scn_at, snapshot_under}
use Rattle.im_history.specs.Transactions.{begun, mode}
use Rattle.im_plan.specs.Goes.{After}
use Rattle.im_reach.specs.Sides.{AreOthers, StoreSide}
use Rattle.im_store.proofs.OtherLaws.{scn-longer}
use Rattle.im_store.proofs.laws.no_side_falls_back.Goals as goal

grown : (side : StoreSide) (old at : History) → After (AreOthers side) old at → scn old ≤ scn at
grown side old at after = subst (λ (h : History). scn old ≤ scn h) (sym after.log) (scn-longer old after.between)

began_there : (at : History) (m : Mode) (place : ℕ) → m ≢ Committed → snapshot_under at m (Some place) ≡ scn_at at place
began_there at Committed place other = absurd (other refl)
began_there at Serializable place other = refl
began_there at ReadOnly place other = refl

pub returns-clause-opened : goal.returns-clause-opened
returns-clause-opened c old new who cursor opening asked view added = grown old.side old.log added.at added.after

pub returns-clause-begun : goal.returns-clause-begun
returns-clause-begun c old new who m begun added = grown old.side old.log added.at added.after

pub returns-clause-committed : goal.returns-clause-committed
returns-clause-committed c at who is = ap (λ (m : Mode). snapshot_under at m (begun at who)) is

pub returns-clause-fixed : goal.returns-clause-fixed
returns-clause-fixed c at who place other is =
    ap (snapshot_under at (mode at who)) is ∙ began_there at (mode at who) place other
