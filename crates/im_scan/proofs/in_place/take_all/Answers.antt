use Rattle.std.proofs.Common.{map, true, ap, sym, ◌∙◌}
use Rattle.std.specs.Prelude.{replicate}
use Rattle.im_group.specs.Partials.{keeps}
use Rattle.im_scan.proofs.KeptPlaces.{all-true}
use Rattle.im_scan.proofs.in_place.take_all.Goals as goal

pub take_kept-requires-clause-mask : goal.take_kept-requires-clause-mask
take_kept-requires-clause-mask c =
    c.mask.ensures
    ∙ (c.in_ok-fit.ensures
    ∙ (ap (λ n. replicate n true) c.len.ensures
    ∙ (all-true c.args.rows.now ∙ ap (λ filter. map (keeps filter) c.args.rows.now) (sym c.requires.filter))))
