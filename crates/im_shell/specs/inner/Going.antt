-- A script that is read, played and written line by line: how far it is.
use Rattle.std.specs.Prelude.{◌≡◌, ℕ, List, [], ◌++◌, Option, Some, None}
use Rattle.im_play.specs.Between.{Answers}
use Rattle.im_play.specs.Lines.{IsRead}
use Rattle.im_play.specs.Machine.{Comes, Machine}
use Rattle.im_play.specs.Requests.{demands_of}
use Rattle.im_replies.specs.declared.reply.Reply.{Reply}
use Rattle.im_script.specs.declared.line.Line.{Line}
use Rattle.im_script.specs.Forms.{lines_of}
use Rattle.im_script.specs.Lines.{AreLines}
use Rattle.im_shell.specs.declared.shown.Shown.{Shown}
use Rattle.im_shell.specs.Play.{ComesOf}
use Rattle.im_shell.specs.Texts.{text_shown}
use Rattle.im_shell.specs.inner.Sent.{Sends, SendsPart}

-- the script is played up to the rest, with these replies so far: whatever lines of some bytes come to from here, these lines behind
-- those so far come to the replies so far and then theirs
pub record IsSoFar (area : ℕ) (script : List ℕ) (answers : List (ℕ × Reply)) (number : ℕ) (machine : Machine) (rest : List ℕ) (before now : ℕ) : Type 0 where
  pub done : List (List ℕ)
  pub split : lines_of script ≡ done ++ lines_of rest
  pub on : (bytes : List (List ℕ)) (lines : List Line) → AreLines number bytes lines
      → (more : List (ℕ × Reply)) (end : Machine) (after : ℕ) → Comes machine (demands_of area lines) more end now after
      → ComesOf area (done ++ bytes) (answers ++ more) end before after

-- what comes behind the text that waits: the reply to a line, where there is one that is shown
abbrev pub text_put : Shown → ℕ → Option Reply → List ℕ
text_put shown number None = []
text_put shown number (Some reply) = text_shown shown number reply.body

-- a line was read and played to its reply, where it has one, and the steps grew so
pub record PlaysBytes (area : ℕ) (bytes : List ℕ) (number : ℕ) (old : Machine) (reply : Option Reply) (new : Machine) (before after : ℕ) : Type 0 where
  pub line : Line
  pub read : IsRead number bytes line
  pub answers : Answers area before after line old reply new

-- a line was played, and the sink took a prefix of what waited
pub record PlaysNextPart (area : ℕ) (bytes : List ℕ) (number : ℕ) (old new : Machine) (before after : Option (List ℕ)) (waiting : List ℕ)
    (steps_before steps_after : ℕ) : Type 0 where
  pub reply : Option Reply
  pub plays : PlaysBytes area bytes number old reply new steps_before steps_after
  pub sends : SendsPart before after waiting

-- a line was played, and the text of its reply came behind what waits to be written, of which the sink may have taken some
pub record PlaysNext (shown : Shown) (area : ℕ) (bytes : List ℕ) (number : ℕ) (old new : Machine)
    (before after : Option (List ℕ)) (waiting new_waiting : List ℕ)
    (steps_before steps_after : ℕ) : Type 0 where
  pub reply : Option Reply
  pub plays : PlaysBytes area bytes number old reply new steps_before steps_after
  pub sends : Sends before after (waiting ++ text_put shown number reply) new_waiting
