use Rattle.std.proofs.Common.{◌≡◌, [], length, ap, ◌∙◌, subst, arith}
use Rattle.std.specs.Prelude.{slice_index_or}
use Rattle.im_directory.specs.Slots.{Kept}
use Rattle.im_directory.specs.inner.Placed.{IsPlaced}
use Rattle.im_directory.proofs.DropLemmas.{Dropping, Dropping-all, Dropping-next, Dropping-none}
use Rattle.im_directory.proofs.EffectLemmas.{kept_of}
use Rattle.im_directory.proofs.PlacedLemmas.{IsPlaced-rested}
use Rattle.im_directory.proofs.directory.Directory.drop_table.Goals as goal

pub loop-extent-init : goal.loop-extent-init
loop-extent-init g c = Dropping-none c.args.self.now c.args.place c.args.table

pub loop-extent-preserved : goal.loop-extent-preserved
loop-extent-preserved g c =
    Dropping-next c.args.self.now c.loop-extent.self c.take_out.new.self c.args.place c.args.table c.loop-extent.extent c.loop-extent.invariant
    c.take_out.ensures.out

pub invariant_of-self : goal.invariant_of-self
invariant_of-self g c = IsPlaced-rested _ _ c.rest.ensures c.self-2.invariant

pub returns : goal.returns
returns g c =
    let last : c.loop-extent.extent ≡ c.extents-extent-end.result = omega (arith, c.loop-extent-test.false, c.loop-extent.auto.extent-end) in
    let long = last ∙ (c.extents-extent-end.ensures ∙ ap (λ (k : Kept g.row.U.Denot). length (slice_index_or k.slots c.args.table [])) c.self.view_is) in
    let sound : IsPlaced c.args.self.now = subst IsPlaced c.self.view_is c.self.invariant in
    let out : Dropping c.args.self.now (kept_of c.self-2.inside.shelves c.self-2.inside.builds) c.args.place c.args.table c.loop-extent.extent =
    rw c.self-2.view_is c.loop-extent.invariant in
    Dropping-all _ _ _ c.args.place c.args.table c.loop-extent.extent long sound.sound out c.rest.ensures
