use Rattle.std.proofs.Common.{map, decimal, ◌∷◌}
use Rattle.im_text.proofs.PageLemmas.{whole-ok}
use Rattle.im_text.proofs.page.Page.put_numbers.Goals as goal

pub returns : goal.returns
returns c =
    whole-ok _ _ _ _ _ (c.args.word.now ∷ map decimal c.args.numbers.now) c.in_ok-begin.ensures c.in_ok-put_phrase.ensures c.end.ensures
