use Rattle.std.proofs.Common.{sym, arith}
use Rattle.im_queue.specs.inner.Search.{first_of_rank}
use Rattle.im_queue.proofs.SearchLemmas.{first_some-found, first_some-none}
use Rattle.im_queue.proofs.sources.Sources.most_urgent.Goals as goal

pub returns-in-Some : goal.returns-in-Some
returns-in-Some g c history is =
    sym (first_some-found (first_of_rank c.args.reason history) 0 5 c.loop-rank.rank c.in-Some.choice (omega arith) (omega arith)
    (λ n low high. c.loop-rank.invariant history is n high) (sym (c.in-Some.ensures history is)))

pub returns : goal.returns
returns g c history is =
    sym (first_some-none (first_of_rank c.args.reason history) 0 5
    (λ n low high. c.loop-rank.invariant history is n (omega (arith, high))))
