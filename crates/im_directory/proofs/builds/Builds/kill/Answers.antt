use Rattle.std.proofs.Common.{IsSome, arith}
use Rattle.im_directory.specs.Slots.{build_among}
use Rattle.im_directory.proofs.BuildLemmas.{build_inside}
use Rattle.im_directory.proofs.builds.Builds.kill.Goals as goal

pub overflow_sub-id : goal.overflow_sub-id
overflow_sub-id c = (build_inside c.args.self.now c.in-Some.id (c.requires c.in-Some.id c.in-Some.is)).0

pub index_mut-requires : goal.index_mut-requires
index_mut-requires c =
    let held : IsSome (build_among c.self.inside.list.items c.in-Some.id) = rw (← c.self.view_is) at (c.requires c.in-Some.id c.in-Some.is) in
    let inside = build_inside c.self.inside.list.items c.in-Some.id held in
    omega (arith, inside.1, c.self.inside.list.ok.0)
