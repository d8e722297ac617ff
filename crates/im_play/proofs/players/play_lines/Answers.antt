use Rattle.std.proofs.Common.{◌≡◌, [], ◌++◌}
use Rattle.im_play.specs.Machine.{put}
use Rattle.im_play.proofs.LinesLemmas.{IsGoing-end, IsGoing-next, IsGoing-start, put-none, put-some}
use Rattle.im_play.proofs.players.play_lines.Goals as goal
use Rattle.im_play.proofs.players.play_lines.Goals.{in-Some+in_ok-push, in_default}

pub loop-line-init : goal.loop-line-init
loop-line-init g c = IsGoing-start c.args.lines.now _ _ _ _ _ c.new-replies.ensures.items c.requires.between

pub loop-line-preserved : goal.loop-line-preserved
loop-line-preserved g c =
    let put_is : c.match-play_line.replies.items ≡ c.loop-line.replies.items ++ put c.line-item.result.number c.play_line.result [] =
    elim c.match-play_line.branch [
      | in-Some+in_ok-push w ↦ put-some _ _ _ w.push.new.self _ w.in-Some.reply w.in-Some.is w.replies-is w.in_ok-push.ensures.items
      | in_default w ↦ put-none _ _ c.loop-line.replies _ w.in_default.is w.replies-is
    ] in
    IsGoing-next c.args.lines.now c.loop-line.line-index _ _ _ _ _ _ _ _ _ _ _ _ _ c.line-item.result c.play_line.result c.loop-line-test.true
    c.line-item.is c.loop-line.invariant c.play_line.ensures.between c.play_line.ensures.limits c.play_line.ensures.answers put_is

pub returns-clause-comes : goal.returns-clause-comes
returns-clause-comes g c = IsGoing-end _ _ _ _ _ _ _ _ _ _ c.loop-line-test.false c.loop-line.invariant
