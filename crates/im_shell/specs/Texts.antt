-- The text of the replies to lines.
use Rattle.std.specs.Prelude.{ℕ, Bool, true, false, List, [], ◌∷◌, ◌++◌, if◌then◌else◌}
use Rattle.im_replies.specs.declared.body.Body.{Body}
use Rattle.im_replies.specs.declared.body.Body.TheVariants as body
use Rattle.im_replies.specs.declared.reply.Reply.{Reply}
use Rattle.im_shell.specs.declared.shown.Shown.{Shown}
use Rattle.im_shell.specs.declared.shown.Shown.TheVariants.{All, Outcomes}
use Rattle.im_text.specs.Replies.{reply_text}

-- the reply is an answer to a query or says that a line was refused
abbrev pub is_outcome : Body → Bool
is_outcome (body.Answer scn records) = true
is_outcome (body.Error fault) = true
is_outcome said = false

-- the reply is shown
abbrev pub is_shown : Shown → Body → Bool
is_shown All body = true
is_shown Outcomes body = is_outcome body

-- the text of a reply to the line of this number, where it is shown
abbrev pub text_shown : Shown → ℕ → Body → List ℕ
text_shown shown number body = if is_shown shown body then reply_text number body else []

-- the text of the replies to lines, each with its line's number
abbrev pub text_of : Shown → List (ℕ × Reply) → List ℕ
text_of shown [] = []
text_of shown ((number, reply) ∷ replies) = text_shown shown number reply.body ++ text_of shown replies
