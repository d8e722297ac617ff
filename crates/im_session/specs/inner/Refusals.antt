-- What a line answers whose call was refused.
use Rattle.std.specs.Prelude.{ℕ, List}
use Rattle.im_history.specs.declared.refused.Why.{Why}
use Rattle.im_history.specs.declared.refused.Why.TheVariants as why
use Rattle.im_replies.specs.declared.body.Body.TheVariants.{Error}
use Rattle.im_replies.specs.declared.fault.Fault.{Fault}
use Rattle.im_replies.specs.declared.reply.Reply.{Reply}
use Rattle.im_replies.specs.declared.served.Served.{Served}
use Rattle.im_statements.specs.Turns.{memory_reply, served_reply}

-- the reply with this fault, which was served so, unless memory was out once k entries were made
abbrev pub refused_so : ℕ → ℕ → List Served → Fault → Why → Reply
refused_so k place marks fault why.NoMemory = memory_reply k
refused_so k place marks fault cause = served_reply place marks (Error fault)
