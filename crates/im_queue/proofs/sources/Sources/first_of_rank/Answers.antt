use Rattle.std.proofs.Common.{◌+◌, List, length, sym, ap, arith}
use Rattle.im_history.specs.declared.look.TableInfo.{TableInfo}
use Rattle.im_history.specs.Tables.{tables}
use Rattle.im_queue.specs.inner.Search.{ranked_in}
use Rattle.im_queue.proofs.SearchLemmas.{first_some-found, first_some-none}
use Rattle.im_queue.proofs.sources.Sources.first_of_rank.Goals as goal

pub returns-in-Some : goal.returns-in-Some
returns-in-Some g c history is =
    let long = ap (λ (ts : List TableInfo). length ts) is.made in
    sym (first_some-found (ranked_in c.args.reason history c.args.rank) 1 (length (tables history)) (c.loop-place.place + 1) c.in-Some.choice
    (omega arith) (omega (arith, long)) (λ n low high. c.loop-place.invariant history is n low (omega (arith, high))) (sym (c.in-Some.ensures history is)))

pub returns : goal.returns
returns g c history is =
    let long = ap (λ (ts : List TableInfo). length ts) is.made in
    sym (first_some-none (ranked_in c.args.reason history c.args.rank) 1 (length (tables history))
    (λ n low high. c.loop-place.invariant history is n low (omega (arith, high, long))))
