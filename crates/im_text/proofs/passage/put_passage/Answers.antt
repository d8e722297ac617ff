use Rattle.im_text.specs.Report.{history_text, entry_text, worker_text}
use Rattle.im_text.proofs.PageLemmas.{shows}
use Rattle.im_text.proofs.passage.put_passage.Goals as goal

pub returns-in-History : goal.returns-in-History
unfolding history_text
returns-in-History c = rw c.in-History.is (shows _ c.args.page.now _ _ c.requires c.put_history.ensures)

pub returns-in-Entry : goal.returns-in-Entry
unfolding entry_text
returns-in-Entry c = rw c.in-Entry.is (shows _ c.args.page.now _ _ c.requires c.put_entry.ensures)

pub returns-in-Worker : goal.returns-in-Worker
unfolding worker_text
returns-in-Worker c = rw c.in-Worker.is (shows _ c.args.page.now _ _ c.requires c.put_worker.ensures)
