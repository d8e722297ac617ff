use Rattle.std.proofs.Common.{◌≡◌, ◌++◌, All, map}
use Rattle.im_turn.specs.Logs.{Begins}
use Rattle.im_turn.proofs.turn.Turn.join_all.Given as goal

-- the passes that were joined so far are kept, and what they have seen is seen
abbrev pub invariant-loop-other : goal.invariant-loop-other
invariant-loop-other g l = record {
  pass : l.pass ≡ record l.initial.pass { seen = l.pass.seen; olds = l.initial.pass.olds ++ map (λ other. (other.who, other.mine)) l.yielded };
  begins : Begins l.initial.pass.seen l.pass.seen;
  others_begin : All (λ other. Begins other.seen l.pass.seen) l.yielded;
}
