use Rattle.std.proofs.Common.{[]}
use Rattle.std.proofs.lemmas.List.Sums.{fold_push}
use Rattle.im_journal.specs.Stale.{noted}
use Rattle.im_journal.proofs.ForCallers.{stale_rows_at-first_notes, stale_rows-first_notes}
use Rattle.im_journal.proofs.laws.first_notes_suffice.Goals as goal

pub returns-clause-kept : goal.returns-clause-kept
returns-clause-kept c notes note = fold_push noted [] notes note

pub returns-clause-answers : goal.returns-clause-answers
returns-clause-answers c notes = record {
  at = λ scn rising. stale_rows_at-first_notes notes scn rising;
  ever = λ rising. stale_rows-first_notes notes rising;
}
