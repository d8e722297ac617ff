use Rattle.std.proofs.Common.{◌∙◌, ap, length}
use Rattle.im_journal.specs.Stale.{stale_rows}
use Rattle.im_journal.proofs.JournalLemmas.{count_is_stale}
use Rattle.im_journal.proofs.journal.Journal.stale_count.Goals as goal

pub returns : goal.returns
returns c = c.len.ensures.len ∙ (count_is_stale c.self.inside.first.entries c.len.ensures.unique ∙ ap (λ n. length (stale_rows n.notes)) c.self.view_is)
