-- The text of the report of a race.
use Rattle.std.specs.Prelude.{ℕ, ◌+◌, true, false, List, [], ◌∷◌, ◌++◌, length, Some}
use Rattle.im_history.specs.declared.entry.Entry.{Entry}
use Rattle.im_history.specs.History.{History}
use Rattle.im_race.specs.Race.{FIRST_WORKER}
use Rattle.im_race.specs.Report.{Report}
use Rattle.im_replies.specs.declared.reply.Reply.{Reply}
use Rattle.im_shell.specs.declared.shown.Shown.TheVariants.{All}
use Rattle.im_shell.specs.Texts.{text_of}
use Rattle.im_text.specs.Report.{entry_text, history_text, line_text, worker_text}
use Rattle.im_worker.specs.declared.work.Ended.{Ended}
use Rattle.im_worker.specs.declared.work.Ended.TheVariants.{Over, Spent}

-- the text of entries, the first of them at this place
abbrev pub entries_text : ℕ → List Entry → List ℕ
entries_text place [] = []
entries_text place (entry ∷ entries) = entry_text place entry ++ entries_text (place + 1) entries

-- the text of a history: how many entries it has, and then each
abbrev pub recorded_text : History → List ℕ
recorded_text history = history_text (length history) ++ entries_text 0 history

-- the text of how the worker of this number ended
abbrev pub end_text : ℕ → Ended → List ℕ
end_text who (Over place) = worker_text who true 0 (Some place)
end_text who (Spent lacks idle) = worker_text who false lacks idle

-- the text of how workers ended, the first of whom has this number
abbrev pub ends_text : ℕ → List Ended → List ℕ
ends_text who [] = []
ends_text who (ended ∷ ends) = end_text who ended ++ ends_text (who + 1) ends

-- the text of lines that were raced, each with its line's number
abbrev pub answers_text : List (ℕ × Reply) → List ℕ
answers_text [] = []
answers_text ((line, reply) ∷ answers) = line_text line reply ++ answers_text answers

-- the text of a report: the replies to the prelude, the history, the workers, and the lines
abbrev pub report_text : Report → List ℕ
report_text report =
    text_of All report.prelude ++ (recorded_text report.history ++ (ends_text FIRST_WORKER report.ends ++ answers_text report.answers))
