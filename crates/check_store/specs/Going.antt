-- How a store that nobody else has goes on in these tests.
use Rattle.std.specs.Prelude.{◌≡◌, ℕ, ◌==◌, false, [], ◌∷◌, ◌++◌, All}
use Rattle.im_history.specs.declared.task.Task.{Task}
use Rattle.im_history.specs.History.{History}
use Rattle.im_history.specs.Legal.{IsLawful}
use Rattle.im_reach.specs.Sides.{Known, sole}
use Rattle.im_session.specs.Sessions.{Agrees, Kept}
use Rattle.im_worker.specs.inner.Beginning.{IsJust}
use Rattle.im_worker.specs.inner.Standing.{Stands}

-- it went on by entries of this number alone
pub record WentOn (who : ℕ) (old new : Known) : Type 0 where
  pub kept : new ≡ record old { log = new.log }
  pub more : History
  pub own : All (λ entry. entry.who ≡ who) more
  pub log : new.log ≡ old.log ++ more

-- it went on by entries of other numbers alone
pub record WentBeside (who : ℕ) (old new : Known) : Type 0 where
  pub kept : new ≡ record old { log = new.log }
  pub more : History
  pub apart : All (λ entry. (who == entry.who) ≡ false) more
  pub log : new.log ≡ old.log ++ more

-- a build of this number began, as its first one, and since then others alone went on
pub record IsUnderWay (who : ℕ) (task : Task) (now : Known) : Type 0 where
  pub begun : Known
  pub just : IsJust who task begun
  pub stands : Stands who [] (task ∷ []) begun.log
  pub went : WentBeside who begun now

-- nobody else has the store, and session 1 agrees with it
pub record IsStage (session : Kept) (now : Known) : Type 0 where
  pub who : session.who ≡ 1
  pub sole : now.side ≡ sole
  pub agrees : Agrees session now
  pub lawful : IsLawful now.limits now.log
