use Rattle.std.proofs.Common.{◌≡◌, [], ◌∷◌, ◌++◌, Bool, List, map, sym, ap, ◌∙◌, arith}
use Rattle.std.proofs.lemmas.List.{length-map}
use Rattle.im_values.specs.declared.content.Content.{Content as Value}
use Rattle.im_eval.specs.Holds.{truth_of}
use Rattle.im_lanes.specs.Masks.{words_of}
use Rattle.im_lanes.proofs.ForCallers.{words-whole, words-hold}
use Rattle.im_codepred.specs.declared.asked.Wanted.TheVariants.{Held}
use Rattle.im_codepred.specs.Asked.{met}
use Rattle.im_codepred.proofs.RowLemmas.{one-word}
use Rattle.im_codepred.proofs.selection.mask_by_row.Goals as goal

pub of_words-requires-clause-whole : goal.of_words-requires-clause-whole
of_words-requires-clause-whole c =
    let p : List Value → Bool = λ row. met Held (truth_of c.args.filter.now row) in
    let bits = map p c.args.rows.now in
    let size = length-map c.args.rows.now p in
    let are : c.push.new.self.items ≡ words_of bits =
    c.in_ok-push.ensures.items
    ∙ (ap (λ l. l ++ c.word_by_row-word.result ∷ []) c.in_ok-words.ensures.items
    ∙ one-word bits c.word_by_row-word.result (omega (arith, size, c.requires.some)) (omega (arith, size, c.requires.few)) c.word_by_row-word.ensures) in
    words-whole c.push.new.self.items c.len.result bits are (size ∙ sym c.len.ensures)

pub returns : goal.returns
returns c =
    let p : List Value → Bool = λ row. met Held (truth_of c.args.filter.now row) in
    let bits = map p c.args.rows.now in
    let size = length-map c.args.rows.now p in
    let are : c.push.new.self.items ≡ words_of bits =
    c.in_ok-push.ensures.items
    ∙ (ap (λ l. l ++ c.word_by_row-word.result ∷ []) c.in_ok-words.ensures.items
    ∙ one-word bits c.word_by_row-word.result (omega (arith, size, c.requires.some)) (omega (arith, size, c.requires.few)) c.word_by_row-word.ensures) in
    c.of_words.ensures ∙ words-hold c.push.new.self.items c.len.result bits are (size ∙ sym c.len.ensures)
