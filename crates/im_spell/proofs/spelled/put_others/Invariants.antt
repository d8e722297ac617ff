use Rattle.std.proofs.Common.{◌≡◌, ◌++◌, drop}
use Rattle.im_readers.specs.Grammar.{spell_others}
use Rattle.im_syntax.specs.Spelling as spell
use Rattle.im_spell.proofs.spelled.put_others.Given as goal

abbrev pub invariant-loop-part : goal.invariant-loop-part
invariant-loop-part g l =
    l.out.items ++ spell_others spell.comma g.T.Spelled.tokens (drop l.part-index l.parts)
    ≡ l.fn.out.items ++ spell_others spell.comma g.T.Spelled.tokens l.parts
