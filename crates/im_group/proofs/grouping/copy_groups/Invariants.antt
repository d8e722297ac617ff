use Rattle.std.proofs.Common.{◌≡◌, map}
use Rattle.im_group.specs.Partials.{keyed}
use Rattle.im_group.proofs.grouping.copy_groups.Given as goal

abbrev pub invariant-loop-key : goal.invariant-loop-key
invariant-loop-key l = keyed (λ k. k.items) l.copies.entries ≡ map (λ e. (e.0.now.items, e.1.now)) l.yielded
