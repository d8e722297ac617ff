use Rattle.im_tables.proofs.FlagLemmas.{first-down, word-not_up}
use Rattle.im_tables.proofs.flag_line.FlagLine.first_down.Goals as goal

pub lowest_down-requires : goal.lowest_down-requires
lowest_down-requires c =
    word-not_up c.self.inside.words.items c.self.inside.down c.word_at.result c.self.invariant.first_down (rw c.deref.ensures.value at c.word_at.ensures)

pub returns : goal.returns
returns c =
    let words = c.self.inside.words.items in
    rw (← c.self.view_is, c.from.ensures)
    (first-down words c.self.inside.down c.word_at.result c.lowest_down.result c.self.invariant.first_down (rw c.deref.ensures.value at c.word_at.ensures)
    c.lowest_down.ensures)
