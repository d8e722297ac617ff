use Rattle.std.proofs.Common.{◌∙◌, sym, ap}
use Rattle.im_lex.specs.Bytes.{only_ends}
use Rattle.im_lex.proofs.StraightLaws.{empty_stops, end_stops}
use Rattle.im_lex.proofs.places.stops.Goals as goal

pub returns-then-bytes-eq0 : goal.returns-then-bytes-eq0
returns-then-bytes-eq0 c = λ is. empty_stops c.args.bytes.now c.if-bytes-eq0.true

pub returns-then-first-eq59 : goal.returns-then-first-eq59
returns-then-first-eq59 c =
    λ is. end_stops c.args.bytes.now (sym c.first.ensures ∙ c.if-first-eq59.true)
    (ap only_ends (sym c.behind.ensures) ∙ sym c.only_ends.ensures ∙ is)
