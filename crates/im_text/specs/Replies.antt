-- The text of a reply: its records, each behind the number of the line.
use Rattle.std.specs.Prelude.{ℕ, List}
use Rattle.im_text.specs.Records.{numbered}
use Rattle.im_text.specs.Bodies.{records_of}
use Rattle.im_replies.specs.declared.body.Body.{Body}

-- the reply to a line
unfoldable pub reply_text : ℕ → Body → List ℕ
reply_text line body = numbered line (records_of body)
