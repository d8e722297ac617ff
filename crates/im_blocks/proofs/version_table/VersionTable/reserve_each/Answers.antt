use Rattle.std.proofs.Common.{List, sym, subst, arith}
use Rattle.std.proofs.lemmas.List.{take_all}
use Rattle.im_history.specs.declared.change.Change.{Change}
use Rattle.im_blocks.specs.inner.Readying.{AreReady}
use Rattle.im_blocks.proofs.Places.{take-got}
use Rattle.im_blocks.proofs.RoomLemmas.{AreReady-more, AreReady-none, SameVersions-refl, SameVersions-trans}
use Rattle.im_blocks.proofs.version_table.VersionTable.reserve_each.Goals as goal

pub loop-place-init : goal.loop-place-init
loop-place-init c = record {
  same = SameVersions-refl c.args.self.now;
  ready = AreReady-none c.args.self.now c.args.ready.now.items c.requires;
}

pub returns-in_err-reserve_one-clause-same : goal.returns-in_err-reserve_one-clause-same
returns-in_err-reserve_one-clause-same c = SameVersions-trans _ c.loop-place.self _ c.loop-place.invariant.same c.reserve_one.ensures.same

pub loop-place-preserved : goal.loop-place-preserved
loop-place-preserved c =
    let new = c.reserve_one.new.self in
    let next = take-got c.args.piece.now c.loop-place.place c.in_ok-change.change c.in_ok-change.ensures in
    record {
      same = SameVersions-trans _ c.loop-place.self _ c.loop-place.invariant.same c.in_ok-reserve_one.ensures.same;
      ready = subst (λ (l : List Change). AreReady new c.args.ready.now.items c.reserve_one.new.ready.items l) (sym next)
          (AreReady-more c.loop-place.self new c.args.ready.now.items c.loop-place.ready.items c.reserve_one.new.ready.items _ _
          c.loop-place.invariant.ready c.in_ok-reserve_one.ensures.more);
    }

pub returns-clause-more : goal.returns-clause-more
returns-clause-more c =
    let test = c.loop-place-test.false in
    let long = c.len-place-end.ensures in
    subst (λ (l : List Change). AreReady c.loop-place.self c.args.ready.now.items c.loop-place.ready.items l)
    (take_all c.loop-place.place c.args.piece.now (omega (arith, test, long))) c.loop-place.invariant.ready
