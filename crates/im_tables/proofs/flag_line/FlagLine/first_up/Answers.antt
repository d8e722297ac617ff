use Rattle.std.proofs.Common.{◌≡◌, ◌≤◌, length, get_or}
use Rattle.im_tables.proofs.FlagLemmas.{down-all, first-up}
use Rattle.im_tables.proofs.flag_line.FlagLine.first_up.Goals as goal

pub returns-in_err-word-clause-none : goal.returns-in_err-word-clause-none
returns-in_err-word-clause-none c _ =
    let words = c.self.inside.words.items in
    let past : length words ≤ c.self.inside.up = rw c.deref.ensures.value at c.in_err-word.ensures.lookup.3 in
    rw (← c.self.view_is) (down-all words c.self.inside.up c.self.invariant.first_up past)

pub returns-clause-up : goal.returns-clause-up
returns-clause-up c =
    let words = c.self.inside.words.items in
    let word : c.in_ok-word.field-0.now ≡ get_or words c.self.inside.up 0 = rw c.deref.ensures.value at (c.in_ok-word.ensures.lookup.3.1 0) in
    rw (← c.self.view_is, c.from.ensures)
    (first-up words c.self.inside.up c.in_ok-word.field-0.now c.lowest_up.result c.self.invariant.first_up word c.lowest_up.ensures)
