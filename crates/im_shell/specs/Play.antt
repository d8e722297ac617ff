-- What a script comes to: the text of its replies or the report of its race, and what the sink took of it.
use Rattle.std.specs.Prelude.{◌≡◌, ◌⊎◌, ℕ, List, ◌++◌, IfSome, Option}
use Rattle.im_edge.specs.Writing.{Took}
use Rattle.im_play.specs.Machine.{Comes, Machine, idle}
use Rattle.im_play.specs.Requests.{demands_of}
use Rattle.im_race.specs.Race.{IsRaceOf}
use Rattle.im_race.specs.Report.{Report}
use Rattle.im_replies.specs.declared.reply.Reply.{Reply}
use Rattle.im_script.specs.declared.line.Line.{Line}
use Rattle.im_script.specs.Forms.{lines_of}
use Rattle.im_script.specs.Generated.{generated}
use Rattle.im_script.specs.Lines.{AreLines}
use Rattle.im_shell.specs.declared.shown.Shown.{Shown}
use Rattle.im_shell.specs.declared.shown.Shown.TheVariants.{All, Outcomes}
use Rattle.im_shell.specs.Reports.{report_text}
use Rattle.im_shell.specs.Texts.{text_of}
use Rattle.im_words.specs.declared.asked.Asked.{Asked}
use Rattle.im_words.specs.declared.mode.Mode.{Mode}
use Rattle.im_words.specs.declared.mode.Mode.TheVariants.{Run, Race, Gen}
use Rattle.im_words.specs.Command.{Takes}
use Rattle.im_words.specs.Good.{IsGood}

-- the lines of these bytes come to these replies and this machine, and the steps grew so
pub record ComesOf (area : ℕ) (lines : List (List ℕ)) (answers : List (ℕ × Reply)) (end : Machine) (before after : ℕ) : Type 0 where
  pub read : List Line
  pub are : AreLines 1 lines read
  pub comes : Comes idle (demands_of area read) answers end before after

-- this is the text of the replies to a script that are shown, and the steps grow so
pub record IsScriptPlayed (shown : Shown) (area : ℕ) (script : List ℕ) (before after : ℕ) (text : List ℕ) : Type 0 where
  pub answers : List (ℕ × Reply)
  pub end : Machine
  pub comes : ComesOf area (lines_of script) answers end before after
  pub text_is : text ≡ text_of shown answers

-- this is the text of the report of a lawful race of a script, with this area, so many workers, and so many turns for each
pub record IsRaced (area workers turns : ℕ) (script text : List ℕ) : Type 0 where
  pub report : Report
  pub lawful : IsRaceOf area workers turns script report
  pub text_is : text ≡ report_text report

-- ---- what the sink took of it

-- it took such a text
pub record Writes (IsText : List ℕ → Type 0) (before after : Option (List ℕ)) : Type 0 where
  pub text : List ℕ
  pub is : IsText text
  pub took : Took before after text

-- it took a prefix of such a text, perhaps all of it. So the steps grew by at most what that play counts: a line that was not played
-- is in it one whose reading ran out of memory, and which reads no row
pub record WritesPart (IsText : List ℕ → Type 0) (before after : Option (List ℕ)) : Type 0 where
  pub text : List ℕ
  pub rest : List ℕ
  pub is : IsText (text ++ rest)
  pub took : Took before after text

-- ---- what words ask for

-- a fact of the script: a mode makes it, or reads it, and then it is what the source had left, where the source shows that
abbrev pub OfScript : Mode → Asked → Option (List ℕ) → (List ℕ → Type 0) → Type 0
OfScript Run asked left P = IfSome left P
OfScript Race asked left P = IfSome left P
OfScript Gen asked left P = P (generated asked.seed asked.rows)

-- this is the text of a mode with a script, and the steps grow so, of which a race says nothing
abbrev pub IsTextOf : Mode → Asked → List ℕ → ℕ → ℕ → List ℕ → Type 0
IsTextOf Run asked script before after text = IsScriptPlayed All asked.area script before after text
IsTextOf Race asked script before after text = IsRaced asked.area asked.workers asked.turns script text
IsTextOf Gen asked script before after text = IsScriptPlayed Outcomes asked.area script before after text

-- good words ask for what stands in them
abbrev pub AreMeant : List (List ℕ) → Asked → Type 0
AreMeant words asked = (good : Asked) → IsGood words good → asked ≡ good

-- this holds of what the words ask for and of its script, where the source had this left
pub record Asks (words : List (List ℕ)) (left : Option (List ℕ)) (P : Asked → List ℕ → Type 0) : Type 0 where
  pub asked : Asked
  pub taken : Takes words asked
  pub meant : AreMeant words asked
  pub holds : OfScript asked.mode asked left (P asked)

-- what the words ask for was done, from where the source had this left
abbrev pub DoneFor : List (List ℕ) → Option (List ℕ) → Option (List ℕ) → Option (List ℕ) → ℕ → ℕ → Type 0
DoneFor words left before after steps_before steps_after =
    Asks words left (λ asked script. Writes (IsTextOf asked.mode asked script steps_before steps_after) before after)

-- and in part
abbrev pub InPartFor : List (List ℕ) → Option (List ℕ) → Option (List ℕ) → Option (List ℕ) → ℕ → ℕ → Type 0
InPartFor words left before after steps_before steps_after =
    Asks words left (λ asked script. WritesPart (IsTextOf asked.mode asked script steps_before steps_after) before after)

-- the words ask for a race. How much it reads is bounded nowhere: each job has a counter of its own, and the printing of the history
-- reads every entry
pub record AskForRace (words : List (List ℕ)) : Type 0 where
  pub asked : Asked
  pub taken : Takes words asked
  pub race : asked.mode ≡ Race

-- no step was made, but perhaps in a race
abbrev pub IsUncounted : List (List ℕ) → ℕ → ℕ → Type 0
IsUncounted words before after = (after ≡ before) ⊎ AskForRace words
