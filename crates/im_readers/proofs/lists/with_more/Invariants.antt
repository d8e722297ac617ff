use Rattle.std.proofs.Common.{◌∷◌, ◌≡◌, ◌-◌}
use Rattle.im_readers.specs.Reading.{Found, and_then, further}
use Rattle.im_readers.proofs.Steps.{with_front}
use Rattle.im_readers.proofs.lists.with_more.Given as goal

abbrev pub invariant-loop : goal.invariant-loop
invariant-loop g l =
    with_front l.values.items (further g.P.Part.marks (g.P.Part.reads l.part) (l.most - l.counter) l.rest)
    ≡ and_then (further g.P.Part.marks (g.P.Part.reads l.part) l.most l.tokens) (λ xs rest. Found (l.fn.first ∷ xs) rest)
