use Rattle.std.proofs.Common.{◌++◌, ◌∙◌, List, ℕ, sym, ap}
use Rattle.im_text.proofs.Inserted.{inserted_text, by_pieces}
use Rattle.im_text.proofs.waiting.put_inserted.Goals as goal

pub returns-clause-ok : goal.returns-clause-ok
returns-clause-ok c =
    let line = c.as_bytes.ensures.value ∙ c.format.ensures.text in
    let rows = c.as_bytes-2.ensures.value ∙ c.format-2.ensures.text in
    let first = c.as_bytes-3.ensures.value ∙ c.format-3.ensures.text in
    let text = inserted_text c.args.line c.args.rows c.args.first c.ranges.line.fits c.ranges.rows.fits c.ranges.first.fits in
    rw (
      c.in_ok-push-2.ensures.items,
      c.in_ok-extend_from_slice-4.ensures.items,
      c.in_ok-push.ensures.items,
      c.in_ok-extend_from_slice-3.ensures.items,
      c.in_ok-extend_from_slice-2.ensures.items,
      c.in_ok-extend_from_slice.ensures.items,
      line,
      rows,
      first,
    )
    (by_pieces c.args.text.now.items _ _ _ ∙ ap (λ (t : List ℕ). c.args.text.now.items ++ t) (sym text))
