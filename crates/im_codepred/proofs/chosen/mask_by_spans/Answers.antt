use Rattle.std.proofs.Common.{◌≡◌, ◌||◌, ℕ, map, refl, ap, ◌∙◌}
use Rattle.im_lanes.specs.Masks.{is_within, joined}
use Rattle.im_codepred.specs.inner.Spans.{is_in}
use Rattle.im_codepred.proofs.SpanLemmas.{either-codes, first-codes, within-empty}
use Rattle.im_codepred.proofs.chosen.mask_by_spans.Goals as goal
use Rattle.im_codepred.proofs.chosen.mask_by_spans.Goals.{then-spans+in_ok-second, else-spans}

pub returns : goal.returns
returns c =
    let spans = c.args.spans.now in
    let codes = c.args.bits.now.codes in
    let first = is_within spans.first.low spans.first.end in
    let second = is_within spans.second.low spans.second.end in
    elim c.if-spans.branch [
      | then-spans+in_ok-second w ↦
          w.mask-is ∙ (w.or_with.ensures ∙ (ap (λ m. joined (λ a b. a || b) m w.in_ok-second.second) c.in_ok-mask.ensures
          ∙ (ap (joined (λ a b. a || b) (map first codes)) w.in_ok-second.ensures ∙ either-codes first second (is_in spans) codes (λ (code : ℕ). let same : is_in spans code ≡ (first code || second code) = refl in same))))
      | else-spans w ↦
          w.mask-is ∙ (c.in_ok-mask.ensures
          ∙ first-codes first (is_in spans) codes (λ code. within-empty spans.second.low spans.second.end code (first code) w.if-spans.false))
    ]
