-- Lists of members that a store may have committed.
use Rattle.std.specs.Prelude.{◌≡◌, List, ◌++◌}
use Rattle.im_history.specs.declared.limits.Limits.{Limits}
use Rattle.im_history.specs.declared.member.Member.{Member}
use Rattle.im_history.specs.Commits.{members}
use Rattle.im_history.specs.History.{History}
use Rattle.im_history.specs.Legal.{IsLawful}

-- the whole list is these members and then others
pub record IsBeginning (first whole : List Member) : Type 0 where
  pub rest : List Member
  pub is : whole ≡ first ++ rest

-- these members begin those of some lawful history
pub record AreLawful (sent : List Member) : Type 0 where
  pub limits : Limits
  pub history : History
  pub lawful : IsLawful limits history
  pub begins : IsBeginning sent (members history)
