use Rattle.std.proofs.Common.{◌+◌, ◌++◌, ◌∙◌, List, ℕ, sym, ap, append_assoc}
use Rattle.im_script.specs.inner.Putting.{further_row, further_rows}
use Rattle.im_script.proofs.Generating.{further-more}
use Rattle.im_script.proofs.generated.put_further_rows.Goals as goal

pub loop-place-preserved : goal.loop-place-preserved
loop-place-preserved c =
    let old = c.args.script.now.items in
    let rows = further_rows c.args.seed c.args.first c.loop-place.place in
    let row = further_row c.args.seed (c.args.first + c.loop-place.place) in
    c.in_ok-put_further.ensures ∙ ap (λ (t : List ℕ). t ++ row) c.loop-place.invariant ∙ append_assoc old rows row
    ∙ ap (λ (t : List ℕ). old ++ t) (sym (further-more c.args.seed c.args.first c.loop-place.place))
