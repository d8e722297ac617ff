use Rattle.std.proofs.Common.{All, ap, subst, sym}
use Rattle.im_play.specs.Lines.{IsKnown}
use Rattle.im_play.proofs.ForCallers.{between-start, machine-start}
use Rattle.im_race.proofs.RaceLemmas.{all-behind, all-prelude, both-ok, raced-prelude}
use Rattle.im_reach.specs.Sides.{Known, sole}
use Rattle.im_script.specs.declared.line.Line.{Line}
use Rattle.im_script.specs.Lines.{NamesOneOf16}
use Rattle.im_race.proofs.racing.race_lines.Goals as goal

pub play_lines-requires-clause-known : goal.play_lines-requires-clause-known
play_lines-requires-clause-known g c κs within =
    subst (All (λ (line : Line). IsKnown line.kind)) (sym c.split_race.ensures.prelude)
    (all-prelude (λ (line : Line). IsKnown line.kind) c.args.lines.now c.requires.known)

pub play_lines-requires-clause-between : goal.play_lines-requires-clause-between
play_lines-requires-clause-between g c κs within =
    between-start c.args.options.area _ c.in_ok-players.players.sessions.items c.in_ok-players.players.background c.in_ok-store.ensures
    c.in_ok-players.ensures.sessions c.in_ok-players.ensures.background

pub play_beside-requires-clause-known : goal.play_beside-requires-clause-known
play_beside-requires-clause-known g c κs within =
    subst (All (λ (line : Line). IsKnown line.kind)) (sym c.split_race.ensures.behind)
    (all-behind (λ (line : Line). IsKnown line.kind) c.args.lines.now c.requires.known)

pub play_beside-requires-clause-names : goal.play_beside-requires-clause-names
play_beside-requires-clause-names g c κs within =
    subst (All NamesOneOf16) (sym c.split_race.ensures.behind) (all-behind NamesOneOf16 c.args.lines.now c.requires.names)

pub returns : goal.returns
returns g c =
    both-ok c.play_beside.result c.play_beside.ensures.beside c.play_beside.ensures.prelude (λ report beside prelude.
    raced-prelude c.args.options.area c.args.options.workers c.args.options.turns _ c.args.lines.now c.split_race.result.0.now
    c.split_race.result.1.now _ _
    (record { side = sole; limits = c.drop_held.new.reach.core.limits; log = c.drop_held.new.reach.core.log; misses = c.drop_held.new.reach.misses })
    c.drop_held.new.self.sessions.items c.drop_held.new.self.background report c.in_ok-replies.replies.items _ _
    (ap (λ (k : Known). k.limits.area) c.in_ok-store.ensures) c.split_race.ensures.prelude c.split_race.ensures.behind
    (machine-start c.args.options.area _ c.in_ok-players.players.sessions.items c.in_ok-players.players.background c.in_ok-store.ensures
    c.in_ok-players.ensures.sessions c.in_ok-players.ensures.background) c.in_ok-replies.ensures.comes c.drop_held.ensures.dropped beside prelude)
