use Rattle.std.proofs.Common.{sym, ap, subst, ◌∙◌}
use Rattle.im_group.specs.Counts.{counts_in}
use Rattle.check_queries.specs.Sample.{HasCounts, query}
use Rattle.check_queries.proofs.SampleLaws.{has_counts}
use Rattle.check_queries.proofs.group.rows_counts_and_kept_rows_give_one_answer.Goals as goal

pub part_of_counts-requires-clause-counted : goal.part_of_counts-requires-clause-counted
part_of_counts-requires-clause-counted g c =
    subst (λ b. HasCounts b (counts_in c.as_slice-2.result.now)) (sym c.in_ok-bound.ensures)
    (subst (HasCounts query) (sym (ap counts_in c.as_slice-2.ensures.value ∙ c.in_ok-found.ensures)) has_counts)
