use Rattle.std.specs.Arc.{arc_value}
use Rattle.std.specs.Option.{option_map}
use Rattle.im_session.proofs.ScanLemmas.{scan-went, went-found, went-log}
use Rattle.im_session.proofs.ReadsLemmas.{extent-read, fetched-length}
use Rattle.im_session.proofs.ServingLemmas.{read-of}
use Rattle.im_session.proofs.serving.read.Goals as goal

pub returns-in-Ok-clause-read : goal.returns-in-Ok-clause-read
returns-in-Ok-clause-read g c =
    let found = went-log (g.H.Reach.known c.args.reach.now) (g.H.Reach.known c.pin-pinned.new.self) _ c.in-Ok.ensures.ok in
    read-of c.args.context.now.who c.args.cursor.now.number c.args.extent c.in-Ok.pin.place c.args.cursor.now.view
    (option_map arc_value c.in-Ok.pin.unit) c.in-Ok.pin.fetched
    (g.H.Reach.known c.pin-pinned.new.self)
    (scan-went c.args.context.now.who c.args.cursor.now.number c.args.cursor.now.view
    (g.H.Reach.known c.args.reach.now) (g.H.Reach.known c.pin-pinned.new.self) c.requires.speaks
    (went-found (g.H.Reach.known c.args.reach.now) (g.H.Reach.known c.pin-pinned.new.self) _ c.in-Ok.ensures.ok) c.requires.kept.scan)
    found.0 found.1 found.2

pub returns-in-Ok-clause-ticks : goal.returns-in-Ok-clause-ticks
returns-in-Ok-clause-ticks g c =
    extent-read c.args.context.now.who c.args.cursor.now.number c.args.cursor.now.view c.args.extent
    c.args.steps.now c.pin-pinned.new.steps (g.H.Reach.known c.args.reach.now)
    (g.H.Reach.known c.pin-pinned.new.self) _ c.requires.speaks c.requires.kept.scan c.in-Ok.ensures.ok
    (went-log (g.H.Reach.known c.args.reach.now) (g.H.Reach.known c.pin-pinned.new.self) _ c.in-Ok.ensures.ok).3

pub returns-in-Err-clause-ticks : goal.returns-in-Err-clause-ticks
returns-in-Err-clause-ticks g c =
    extent-read c.args.context.now.who c.args.cursor.now.number c.args.cursor.now.view c.args.extent
    c.args.steps.now c.pin-pinned.new.steps (g.H.Reach.known c.args.reach.now)
    (g.H.Reach.known c.pin-pinned.new.self) _ c.requires.speaks c.requires.kept.scan c.in-Err.ensures.err
    (went-log (g.H.Reach.known c.args.reach.now) (g.H.Reach.known c.pin-pinned.new.self) _ c.in-Err.ensures.err).1

pub returns-in-Ok-clause-rows : goal.returns-in-Ok-clause-rows
returns-in-Ok-clause-rows g c =
    let found = went-log (g.H.Reach.known c.args.reach.now) (g.H.Reach.known c.pin-pinned.new.self) _ c.in-Ok.ensures.ok in
    rw (found.2, fetched-length _ _ _) found.3
