use Rattle.std.proofs.Common.{◌+◌, cond, ap, ◌∙◌, arith}
use Rattle.im_codepred.proofs.SpanLemmas.{place-is, byte-is, byte-few}
use Rattle.im_codepred.proofs.spans.place_among.Goals as goal

pub overflow_add-end : goal.overflow_add-end
overflow_add-end c = record { fits = omega (arith, c.from.ensures, byte-few c.is_at.result, c.lower-low.ensures.most, c.len-most.ensures.few) }

pub returns : goal.returns
returns c =
    place-is c.args.dict.now c.args.value.now _ c.len-most.ensures.dictionary c.requires c.lower-low.ensures.lower c.lower-low.ensures.most
    (ap (λ n. c.lower-low.result + n) (c.from.ensures ∙ (byte-is c.is_at.result ∙ ap (λ b. cond b 1 0) c.is_at.ensures)))
    (ap (λ n. n + 1) c.len-most.ensures.len)
