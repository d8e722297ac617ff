use Rattle.std.proofs.Common.{fold, ap, ◌∙◌}
use Rattle.im_codepred.specs.inner.Tallying.{with_value}
use Rattle.im_codepred.proofs.GatherLemmas.{word-full, word-all}
use Rattle.im_codepred.proofs.rows.gather_word.Goals as goal

pub gather_all-requires-clause-within : goal.gather_all-requires-clause-within
gather_all-requires-clause-within c =
    word-full c.args.rows.now c.args.column c.args.first c.args.word c.if-word-eq18446744073709551615.true c.requires.word

pub returns-then-word-eq18446744073709551615 : goal.returns-then-word-eq18446744073709551615
returns-then-word-eq18446744073709551615 c =
    c.gather_all.ensures
    ∙ ap (fold with_value c.args.gathered.now)
    (word-all c.args.rows.now c.args.column c.args.first c.args.word c.if-word-eq18446744073709551615.true c.requires.word)
