-- What is put at once behind the text that waits.
use Rattle.std.specs.Prelude.{ℕ, List}
use Rattle.im_text.specs.Replies.{reply_text}
use Rattle.im_text.specs.Report.{history_text, entry_text, worker_text, line_text}
use Rattle.im_text.specs.declared.passage.Passage.{Passage}
use Rattle.im_text.specs.declared.passage.Passage.TheVariants.{Reply, History, Entry, Worker, Line}

-- its text
abbrev pub passage_text : Passage → List ℕ
passage_text (Reply line body) = reply_text line body.now
passage_text (History count) = history_text count
passage_text (Entry place entry) = entry_text place entry.now
passage_text (Worker who over lacks place) = worker_text who over lacks place
passage_text (Line line reply) = line_text line reply.now
