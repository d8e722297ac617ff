use Rattle.std.proofs.Common.{ℕ, Bool, get_or, map, false, sym, ◌∙◌}
use Rattle.std.proofs.lemmas.List.{length-map}
use Rattle.im_lanes.proofs.MaskLemmas.{words-whole, words-hold}
use Rattle.im_lanes.proofs.flags.mask_by_flags.Goals as goal

pub of_words-requires-clause-whole : goal.of_words-requires-clause-whole
of_words-requires-clause-whole c =
    let p : ℕ → Bool = λ code. get_or c.args.flags.now code false in
    words-whole _ _ (map p c.args.bits.now.codes) c.in_ok-words.ensures (length-map c.args.bits.now.codes p ∙ sym c.len.ensures.len)

pub returns : goal.returns
returns c =
    let p : ℕ → Bool = λ code. get_or c.args.flags.now code false in
    c.of_words.ensures ∙ words-hold _ _ (map p c.args.bits.now.codes) c.in_ok-words.ensures (length-map c.args.bits.now.codes p ∙ sym c.len.ensures.len)
