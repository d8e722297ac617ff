use Rattle.std.specs.Arc.{arc_value}
use Rattle.std.specs.Option.{option_map}
use Rattle.im_session.proofs.PinLemmas.{pin-read}
use Rattle.im_session.proofs.ServingLemmas.{mark-read, rows-mark}
use Rattle.im_session.proofs.serving.served_pin.Goals as goal

pub returns-clause-mark : goal.returns-clause-mark
returns-clause-mark g c =
    mark-read (g.H.Reach.known c.read.new.reach).log c.args.cursor.now.view c.args.extent c.in_ok-pin.pin.place c.args.cursor.now.bound.filter
    (option_map arc_value c.in_ok-pin.pin.unit) c.in_ok-pin.pin.fetched c.mark-mark.result c.in_ok-pin.ensures.read c.mark-mark.ensures

pub returns-clause-pin : goal.returns-clause-pin
returns-clause-pin g c =
    pin-read c.args.context.now.who c.args.cursor.now c.args.extent c.in_ok-pin.pin (g.H.Reach.known c.args.reach.now)
    (g.H.Reach.known c.read.new.reach) c.requires.speaks c.requires.kept c.in_ok-pin.ensures.went c.in_ok-pin.ensures.lawful c.in_ok-pin.ensures.read

pub returns-clause-rows : goal.returns-clause-rows
returns-clause-rows g c =
    rows-mark (g.H.Reach.known c.read.new.reach).log c.args.cursor.now.view c.args.extent c.in_ok-pin.pin.place c.args.steps.now c.read.new.steps
    c.args.cursor.now.bound.filter (option_map arc_value c.in_ok-pin.pin.unit) c.in_ok-pin.pin.fetched c.mark-mark.result c.in_ok-pin.ensures.read c.mark-mark.ensures
    c.in_ok-pin.ensures.rows
