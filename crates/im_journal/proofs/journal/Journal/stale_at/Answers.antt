use Rattle.std.proofs.Common.{◌≡◌, ℕ, List, length, map, take, nat_le, rules, of_calls, ap, ◌∙◌}
use Rattle.std.specs.List.Sorted.{IsPartitionedBy}
use Rattle.std.proofs.lemmas.Fn.{always_returns_same}
use Rattle.std.proofs.lemmas.List.Sorted.{IsPartitionedBy-leb}
use Rattle.std.proofs.lemmas.Result.{IfOk-weaker}
use Rattle.im_journal.specs.Stale.{Note, stale_rows_at, rows_of}
use Rattle.im_journal.proofs.GatherLemmas.{gathered-first}
use Rattle.im_journal.proofs.JournalLemmas.{sorted_is_stale, scns_rise}
use Rattle.im_journal.proofs.journal.Journal.stale_at.Goals as goal

pub in_order-requires : goal.in_order-requires
in_order-requires c =
    let notes = c.self.inside.first.entries in
    let rows : c.as_slice-2.result.now ≡ rows_of notes = c.as_slice-2.ensures ∙ c.keys.ensures.rest in
    rw (c.as_slice-3.ensures.value, rows)
    (gathered-first (rows_of notes) c.self.inside.rising.items c.partition_point-count.result c.self.invariant.1.1.1)

pub returns : goal.returns
returns c =
    let notes = c.self.inside.first.entries in
    let scns : c.as_slice.result.now ≡ map (λ (note : Note). note.1) notes = c.as_slice.ensures ∙ c.values.ensures.rest in
    let rows : c.as_slice-2.result.now ≡ rows_of notes = c.as_slice-2.ensures ∙ c.keys.ensures.rest in
    let picked = ap (take c.partition_point-count.result) rows in
    let parted : IsPartitionedBy (λ s. nat_le s c.args.scn) c.as_slice.result.now =
    rw scns (IsPartitionedBy-leb (λ (s : ℕ). s) (map (λ (note : Note). note.1) notes) c.args.scn (scns_rise notes c.self.invariant.1.0)) in
    let point =
    c.partition_point-count.ensures.partitioned (λ (s : ℕ). nat_le s c.args.scn)
    (always_returns_same _ _ _ (λ a r f k. search (rules, of_calls))) parted in
    IfOk-weaker c.in_order.result _ _ (λ ordered is.
    sorted_is_stale c.args.scn notes c.partition_point-count.result (take c.partition_point-count.result c.as_slice-2.result.now) ordered.items c.keys.ensures.unique
    (rw scns at point) picked is.same is.rising
    ∙ ap (λ n. stale_rows_at n.notes c.args.scn) c.self.view_is) c.in_order.ensures
