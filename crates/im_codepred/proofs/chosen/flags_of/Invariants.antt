use Rattle.std.proofs.Common.{◌≡◌, ◌∷◌, map, take}
use Rattle.im_values.specs.declared.content.Content.TheVariants.{Null}
use Rattle.im_codepred.specs.Asked.{is_met}
use Rattle.im_codepred.proofs.chosen.flags_of.Given as goal

abbrev pub invariant-loop-value : goal.invariant-loop-value
invariant-loop-value l = l.flags.items ≡ is_met l.wanted l.asked Null ∷ map (is_met l.wanted l.asked) (take l.value-index l.dict)
