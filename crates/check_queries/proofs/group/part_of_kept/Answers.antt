use Rattle.std.proofs.Common.{[], ◌∷◌, ◌++◌, sym, ap, ◌∙◌, arith}
use Rattle.std.proofs.lemmas.List.{length-append}
use Rattle.im_group.specs.Partials.{partial}
use Rattle.check_queries.proofs.group.part_of_kept.Goals as goal

pub take_made-requires-clause-few : goal.take_made-requires-clause-few
take_made-requires-clause-few c =
    let front = c.args.front.now in
    let lent = (1, c.of-values.result) ∷ [] in
    let few = c.requires.few in
    record {
      rows = front ++ lent;
      is = c.in_ok-take_kept.ensures.goes front (c.in_ok-part.ensures ∙ ap (λ b. partial b front) (sym c.in_ok-asking.ensures));
      few = omega (arith, length-append front lent, few);
    }
