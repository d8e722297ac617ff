use Rattle.std.proofs.Common.{◌≡◌, take, map}
use Rattle.im_eval.specs.Holds.{truth_of}
use Rattle.im_lanes.specs.Masks.{word_of}
use Rattle.im_codepred.specs.declared.asked.Wanted.TheVariants.{Held}
use Rattle.im_codepred.specs.Asked.{met}
use Rattle.im_codepred.proofs.selection.word_by_row.Given as goal

abbrev pub invariant-loop-i : goal.invariant-loop-i
invariant-loop-i l = l.word ≡ word_of (take l.i (map (λ row. met Held (truth_of l.filter row)) l.rows))
