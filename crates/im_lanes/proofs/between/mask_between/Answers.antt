use Rattle.std.proofs.Common.{map, ap, replicate, false, sym, ◌∙◌}
use Rattle.std.proofs.lemmas.List.{length-map}
use Rattle.im_lanes.specs.Masks.{is_between}
use Rattle.im_lanes.proofs.MaskLemmas.{words-whole, words-hold, none-pass, between-none}
use Rattle.im_lanes.proofs.between.mask_between.Goals as goal

pub of_words-requires-clause-whole : goal.of_words-requires-clause-whole
of_words-requires-clause-whole c =
    let p = is_between c.args.low c.args.high in
    words-whole _ _ (map p c.args.bits.now.codes) c.in_ok-words.ensures (length-map c.args.bits.now.codes p ∙ sym c.len-2.ensures.len)

pub returns : goal.returns
returns c =
    let p = is_between c.args.low c.args.high in
    c.of_words.ensures ∙ words-hold _ _ (map p c.args.bits.now.codes) c.in_ok-words.ensures (length-map c.args.bits.now.codes p ∙ sym c.len-2.ensures.len)

pub returns-then-high-low : goal.returns-then-high-low
returns-then-high-low c =
    let p = is_between c.args.low c.args.high in
    c.in_ok-mask.ensures ∙ (ap (λ n. replicate n false) c.len.ensures.len
    ∙ none-pass p c.args.bits.now.codes (λ x. between-none c.args.low c.args.high x c.if-high-low.true))
