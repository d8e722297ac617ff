-- A session among its lines.
use Rattle.std.specs.Prelude.{◌≡◌, ℕ, false, List, take}
use Rattle.im_history.specs.Leaves.{has_left}
use Rattle.im_race.specs.inner.Doing.{HavePlayed}
use Rattle.im_reach.specs.Sides.{Known}
use Rattle.im_replies.specs.declared.reply.Reply.{Reply}
use Rattle.im_script.specs.declared.line.Line.{Line}
use Rattle.im_session.specs.Sessions.{Agrees, Kept, state_of}

-- a session went on with its lines from where this was known, `old`: now it keeps `after`, this is known, `new`, and it has not left
pub record Went (who : ℕ) (old : Known) (after : Kept) (new : Known) : Type 0 where
  pub number : after.who ≡ who
  pub known : new ≡ record old { log = new.log }
  pub agrees : Agrees after new
  pub stays : has_left new.log who ≡ false

-- a session that kept `before` played those of the first so many lines in which it speaks, with these replies
pub record IsAmong (who : ℕ) (before : Kept) (old : Known) (lines : List Line) (index : ℕ) (replies : List Reply) (after : Kept) (new : Known) :
    Type 0 where
  pub went : Went who old after new
  pub have : HavePlayed old.limits.area who (state_of before.cursors) old.log (take index lines) replies (state_of after.cursors) new.log
