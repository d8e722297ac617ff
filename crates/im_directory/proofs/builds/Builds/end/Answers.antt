use Rattle.std.proofs.Common.{◌-◌, IsSome, set, ap}
use Rattle.im_directory.specs.Slots.{build_among}
use Rattle.im_directory.proofs.BuildLemmas.{count-end}
use Rattle.im_directory.proofs.builds.Builds.end.Goals as goal

pub invariant_of-self : goal.invariant_of-self
invariant_of-self c =
    let held : IsSome (build_among c.self.inside.list.items c.args.id) = rw (← c.self.view_is) at c.requires in
    count-end c.self.inside.list.items _ c.args.id c.self.inside.held held
    (ap (set c.self.inside.list.items (c.args.id - 1)) c.replace.ensures.after) c.self.invariant
