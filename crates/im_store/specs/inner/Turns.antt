-- What a call of a shared store finds when it takes the store, and what it leaves when it gives it back.
use Rattle.std.specs.Prelude.{◌≡◌, ◌++◌, true, false, drop, length}
use Rattle.im_core.specs.Seen.{Seen}
use Rattle.im_history.specs.declared.entry.Entry.{Entry}
use Rattle.im_history.specs.Legal.{IsLawful}
use Rattle.im_plan.specs.Goes.{After}
use Rattle.im_reach.specs.Sides.{AreOthers}
use Rattle.im_store.specs.Sides.{fixed_of, limits_of, side_of, who_of}
use Rattle.im_turn.specs.Logs.{GrewByOwn}
use Rattle.im_turn.specs.Passes.{PassState}

-- the store was taken: others may have gone on, and this is it
pub record Took (old new : PassState Entry) (core : Seen) : Type 0 where
  pub pass : new ≡ record old { holding = true; seen = core.log }
  pub after : After (AreOthers (side_of old)) old.seen core.log
  pub limits : core.limits ≡ limits_of old.fixed
  pub fixed : fixed_of core.limits ≡ old.fixed
  pub lawful : IsLawful core.limits core.log

-- the store went on by entries of the pass that has it, and its limits stayed
pub record Grew (pass : PassState Entry) (core : Seen) : Type 0 where
  pub own : GrewByOwn who_of pass.who pass.seen core.log
  pub fixed : fixed_of core.limits ≡ pass.fixed

-- the store was given back, as this
pub record Gave (old new : PassState Entry) (core : Seen) : Type 0 where
  pub pass : new ≡ record old { holding = false; seen = core.log; mine = old.mine ++ drop (length old.seen) core.log }
  pub lawful : IsLawful (limits_of new.fixed) new.seen
