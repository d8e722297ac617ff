use Rattle.std.proofs.Common.{All, subst, sym}
use Rattle.im_play.specs.Lines.{IsKnown}
use Rattle.im_race.proofs.RaceLemmas.{known-lines, raced-script}
use Rattle.im_script.specs.declared.line.Line.{Line}
use Rattle.im_script.specs.Lines.{NamesOneOf16}
use Rattle.im_race.proofs.racing.race.Goals as goal

pub race_lines-raced-requires-clause-known : goal.race_lines-raced-requires-clause-known
race_lines-raced-requires-clause-known g c κs within =
    subst (All (λ (line : Line). IsKnown line.kind)) (sym c.as_slice.ensures.value)
    (known-lines 1 _ c.in_ok-lines.lines.items c.in_ok-lines.ensures.are c.in_ok-lines.ensures.names)

pub race_lines-raced-requires-clause-names : goal.race_lines-raced-requires-clause-names
race_lines-raced-requires-clause-names g c κs within = subst (All NamesOneOf16) (sym c.as_slice.ensures.value) c.in_ok-lines.ensures.names

pub returns : goal.returns
returns g c =
    raced-script c.args.options.area c.args.options.workers c.args.options.turns c.args.script.now c.in_ok-lines.lines.items _ c.race_lines-raced.result
    c.in_ok-lines.ensures.are c.as_slice.ensures.value c.race_lines-raced.ensures
