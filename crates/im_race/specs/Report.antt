-- What a race shows.
use Rattle.std.specs.Prelude.{ℕ, List}
use Rattle.im_history.specs.History.{History}
use Rattle.im_replies.specs.declared.reply.Reply.{Reply}
use Rattle.im_worker.specs.declared.work.Ended.{Ended}

-- the replies to its prelude, the history, how each worker ended, and the replies to the lines behind the prelude, each reply with the
-- number of its line
pub record Report : Type 0 where
  pub prelude : List (ℕ × Reply)
  pub history : History
  pub ends : List Ended
  pub answers : List (ℕ × Reply)
