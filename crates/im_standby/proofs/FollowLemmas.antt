-- A follower, as it takes members in.
use Rattle.std.proofs.Common.{◌≡◌, List, [], ◌++◌, Option, None, option_to_list, refl, sym, ap, subst, ◌∙◌, arith, append-nil, append_assoc}
use Rattle.im_feed.specs.Lawful.{AreLawful, IsBeginning}
use Rattle.im_history.specs.declared.member.Member.{Member}
use Rattle.im_history.specs.Commits.{members}
use Rattle.im_history.specs.History.{replay}
use Rattle.im_standby.specs.Following.{Following, Follows, HasApplied}
use Rattle.im_standby.specs.Standing.{IsOf, Standing}

-- no members are lawful
none_lawful : AreLawful []
unfolding members replay
none_lawful = record {
  limits = record { area = 0; store = 0; changes = 0 };
  history = [];
  lawful = record { small = record { store = omega arith; changes = omega arith }; legal = record { each = tt } };
  begins = record { rest = []; is = refl };
}

-- a follower that begins
pub follows-nothing : (standing : Standing) → IsOf standing [] → Follows (record { standby = standing; hand = None }) []
follows-nothing standing is = record { applied = []; is_of = is; all = refl; lawful = none_lawful }

-- where no member is in hand, all are applied
pub has-applied : (follower : Following) (popped : List Member) → Follows follower popped → follower.hand ≡ None → HasApplied follower popped
has-applied follower popped follows free = record {
  free = free;
  is_of = subst (IsOf follower.standby)
      (sym (follows.all ∙ (ap (λ (hand : Option Member). follows.applied ++ option_to_list hand) free ∙ append-nil follows.applied))) follows.is_of;
}

-- ---- lists that begin others

pub IsBeginning-refl : (list : List Member) → IsBeginning list list
IsBeginning-refl list = record { rest = []; is = sym (append-nil list) }

pub IsBeginning-trans : (first more whole : List Member) → IsBeginning first more → IsBeginning more whole → IsBeginning first whole
IsBeginning-trans first more whole before after = record {
  rest = before.rest ++ after.rest;
  is = after.is ∙ (ap (λ (l : List Member). l ++ after.rest) before.is ∙ append_assoc first before.rest after.rest);
}
