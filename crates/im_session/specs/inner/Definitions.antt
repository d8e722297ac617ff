-- What a line that created a table answers.
use Rattle.im_core.specs.declared.answers.Made.{Made}
use Rattle.im_replies.specs.declared.body.Body.TheVariants.{Created}
use Rattle.im_replies.specs.declared.reply.Reply.{Reply}
use Rattle.im_statements.specs.Turns.{settled_reply}

-- the reply that a table was created
abbrev pub created_reply : Made → Reply
created_reply made = settled_reply made.place (Created made.table made.scn)
