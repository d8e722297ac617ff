use Rattle.im_turn.specs.Logs.{longer}
use Rattle.im_turn.proofs.LogLemmas.{begins_trans}
use Rattle.im_turn.proofs.ListOfPasses.{joined_more, begins_more}
use Rattle.im_turn.proofs.turn.Turn.join_all.Goals as goal

pub loop-other-preserved : goal.loop-other-preserved
loop-other-preserved g c =
    let first = c.args.pass.now in
    let before = c.loop-other.pass in
    let after = c.join.new.pass in
    let other = c.in-Some.other in
    let done = c.loop-other.yielded in
    let kept = c.loop-other.invariant in
    let joined = c.join.ensures in
    record {
      pass = joined_more first before after other (longer before.seen other.seen) done kept.pass joined.pass;
      begins = begins_trans kept.begins joined.begins;
      others_begin = begins_more before.seen after.seen done other joined.begins joined.other_begins kept.others_begin;
    }
