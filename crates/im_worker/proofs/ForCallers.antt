-- What callers of a background need between its lines.
use Rattle.std.proofs.Common.{◌≡◌, ◌==◌, false, [], ◌++◌, All, sym, subst}
use Rattle.im_history.specs.History.{History}
use Rattle.im_history.specs.Legal.{IsLawful, IsLegal}
use Rattle.im_reach.specs.Sides.{Known}
use Rattle.im_worker.specs.Background.{Agrees, Kept}
use Rattle.im_worker.specs.inner.Standing.{Stands}
pub use Rattle.im_worker.proofs.RestLemmas.{agrees-stands}
use Rattle.im_worker.proofs.RestLemmas.{stands-agrees}
use Rattle.im_worker.proofs.StandingLaws.{legal-behind, stands-other}

-- a background agrees still when entries of other numbers came: of others, or of sessions of its own side
pub agrees-behind : (kept : Kept) (old new : Known) (between : History) → IsLawful new.limits new.log → new.log ≡ old.log ++ between
    → All (λ entry. (entry.who == kept.who) ≡ false) between → Agrees kept old → Agrees kept new
agrees-behind kept old new between lawful is apart agrees =
    stands-agrees kept new
    (subst (Stands kept.who kept.builds []) (sym is)
    (legal-behind new.limits kept.who (Stands kept.who kept.builds [])
    (λ h entry legal other stands. stands-other new.limits h entry kept.who kept.builds [] legal other stands) old.log between
    (subst (IsLegal new.limits) is lawful.legal) apart (agrees-stands kept old agrees)))
