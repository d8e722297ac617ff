use Rattle.std.proofs.Common.{◌%◌, ℕ, ◌∙◌, sym, ap}
use Rattle.im_tables.specs.inner.Words.{is_up}
use Rattle.im_tables.proofs.FlagLemmas.{get_or-flags_of}
use Rattle.im_tables.proofs.flag_line.FlagLine.get.Goals as goal

pub returns : goal.returns
returns c =
    rw (← c.self.view_is) (c.flag_at.ensures ∙ (ap (λ (w : ℕ). is_up w (c.args.number % 64)) (rw c.deref.ensures.value at c.word_at.ensures)
    ∙ sym (get_or-flags_of c.self.inside.words.items c.args.number)))
