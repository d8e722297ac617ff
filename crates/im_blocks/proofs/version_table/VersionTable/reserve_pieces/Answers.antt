use Rattle.std.proofs.Common.{◌≡◌, ◌+◌, List, [], ◌∷◌, ◌++◌, take, sym, ap, ◌∙◌, subst, arith}
use Rattle.std.proofs.lemmas.List.{take_all}
use Rattle.im_history.specs.declared.change.Change.{Change}
use Rattle.im_history.specs.Puts.{all_changes}
use Rattle.im_blocks.specs.inner.Readying.{AreReady}
use Rattle.im_blocks.proofs.Places.{take-next}
use Rattle.im_blocks.proofs.RoomLemmas.{AreReady-more, IsReadyFor-all, SameVersions-trans, all_changes-push}
use Rattle.im_blocks.proofs.version_table.VersionTable.reserve_pieces.Goals as goal

pub returns-in_err-reserve_piece-clause-same : goal.returns-in_err-reserve_piece-clause-same
returns-in_err-reserve_piece-clause-same c = SameVersions-trans _ c.loop-piece.self _ c.loop-piece.invariant.same c.reserve_piece.ensures.same

pub loop-piece-preserved : goal.loop-piece-preserved
loop-piece-preserved c =
    let new = c.reserve_piece.new.self in
    let pieces = c.args.pieces.now in
    let at = c.loop-piece.piece-index in
    let piece : List Change = c.piece-item.result in
    let next : take (at + 1) pieces ≡ take at pieces ++ piece ∷ [] =
    take-next pieces at piece c.loop-piece-test.true ∙ ap (λ (x : List Change). take at pieces ++ x ∷ []) (sym c.piece-item.is) in
    record {
      same = SameVersions-trans _ c.loop-piece.self _ c.loop-piece.invariant.same c.in_ok-reserve_piece.ensures.same;
      ready = subst (λ (l : List Change). AreReady new [] c.reserve_piece.new.ready.items l)
          (sym (ap all_changes next ∙ all_changes-push (take at pieces) piece))
          (AreReady-more c.loop-piece.self new [] c.loop-piece.ready.items c.reserve_piece.new.ready.items _ _ c.loop-piece.invariant.ready
          c.in_ok-reserve_piece.ensures.more);
    }

pub returns-in_err-reserve_runs-clause-same : goal.returns-in_err-reserve_runs-clause-same
returns-in_err-reserve_runs-clause-same c = SameVersions-trans _ c.loop-piece.self _ c.loop-piece.invariant.same c.reserve_runs.ensures.same

pub returns-clause-same : goal.returns-clause-same
returns-clause-same c = SameVersions-trans _ c.loop-piece.self _ c.loop-piece.invariant.same c.in_ok-reserve_runs.ensures.same

pub returns-clause-ready : goal.returns-clause-ready
returns-clause-ready c =
    let pieces = c.args.pieces.now in
    let ready = c.loop-piece.ready.items in
    let all = subst (λ (l : List (List Change)). AreReady c.loop-piece.self [] ready (all_changes l))
    (take_all c.loop-piece.piece-index pieces c.loop-piece-test.false) c.loop-piece.invariant.ready in
    let room = c.in_ok-reserve_runs.ensures.room in
    let long = c.len.ensures in
    let count = c.loop-piece.ready.ok.0 in
    IsReadyFor-all c.loop-piece.self c.reserve_runs.new.self ready (all_changes pieces) c.in_ok-reserve_runs.ensures.same all
    (omega (arith, room, long, count))
