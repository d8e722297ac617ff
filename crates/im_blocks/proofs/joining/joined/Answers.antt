use Rattle.std.proofs.Common.{◌≡◌, ◌+◌, ◌-◌, ◌++◌, List, take, drop, ap, sym, ◌∙◌, arith}
use Rattle.std.proofs.lemmas.List.{length-drop}
use Rattle.std.proofs.lemmas.Grind.{flat_map-append}
use Rattle.std.proofs.Math.Seq.{take-add}
use Rattle.im_history.specs.declared.change.Change.{Change}
use Rattle.im_history.specs.Puts.{all_changes}
use Rattle.im_blocks.proofs.joining.joined.Goals as goal

pub loop-from-preserved : goal.loop-from-preserved
loop-from-preserved c =
    let pieces = c.args.pieces.now in
    let from = c.loop-from.from in
    let count = c.adjoining-count.result in
    let within = c.adjoining-count.ensures.within in
    let rest = length-drop from pieces in
    let before = c.loop-from.invariant.within in
    let some : from + count - from ≡ count = omega arith in
    record {
      within = omega (arith, within, rest, before);
      so_far =
          c.in_ok-put_joined.ensures
          ∙ (ap (λ (changes : List Change). changes ++ all_changes (take (from + count - from) (drop from pieces))) c.loop-from.invariant.so_far
          ∙ (ap (λ (n : _). all_changes (take from pieces) ++ all_changes (take n (drop from pieces))) some
          ∙ (sym (flat_map-append (λ (changes : List Change). changes) (take from pieces) (take count (drop from pieces)))
          ∙ ap all_changes (sym (take-add from count pieces)))));
    }
