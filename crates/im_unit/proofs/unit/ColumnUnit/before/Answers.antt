use Rattle.std.proofs.Common.{◌∙◌, length, map, take, sym, ap, arith}
use Rattle.std.specs.Arc.{arc_value}
use Rattle.im_history.specs.Units.{Content}
use Rattle.im_unit.specs.Holding.{count_present}
use Rattle.im_unit.proofs.KeptLemmas.{length-kept}
use Rattle.im_unit.proofs.RankLemmas.{count-kept}
use Rattle.im_unit.proofs.unit.ColumnUnit.before.Goals as goal

pub before-present-requires : goal.before-present-requires
before-present-requires c =
    let u = c.self.inside in
    omega (arith, c.requires, ap (λ (k : Content). length k.rows) c.self.view_is, length-kept u.presence (map arc_value u.columns.items))

pub returns : goal.returns
returns c =
    let u = c.self.inside in
    c.before-present.ensures
    ∙ (sym (count-kept u.presence (map arc_value u.columns.items) c.args.place)
    ∙ ap (λ (k : Content). count_present (take c.args.place k.rows)) c.self.view_is)
