use Rattle.std.proofs.Common.{◌≤◌, ◌+◌, length}
use Rattle.std.specs.List.{All}
use Rattle.im_script.specs.Lines.{NamesOneOf16}
use Rattle.im_script.proofs.Cuts.{SoFar}
use Rattle.im_script.proofs.script.lines.Given as goal

abbrev pub invariant-loop-rest : goal.invariant-loop-rest
invariant-loop-rest l =
    SoFar l.number l.script l.rest l.lines.items × (l.number + length l.rest ≤ length l.script) × All NamesOneOf16 l.lines.items

abbrev pub decreases-loop-rest : goal.decreases-loop-rest
decreases-loop-rest l = length l.rest
