use Rattle.std.proofs.Common.{◌≡◌, map, true, None, ap, sym, ◌∙◌}
use Rattle.std.specs.Prelude.{replicate}
use Rattle.im_group.specs.Partials.{keeps}
use Rattle.im_scan.proofs.KeptPlaces.{all-true}
use Rattle.im_scan.proofs.in_place.take_scattered.Goals as goal

pub take_picked-requires-in-None-clause-mask : goal.take_picked-requires-in-None-clause-mask
take_picked-requires-in-None-clause-mask c =
    let none : c.args.asking.now.filter ≡ None = sym (ap (λ b. b.filter) c.bound.ensures) ∙ c.in-None.is in
    c.mask-in-None.ensures
    ∙ (c.in_ok-fit-in-None.ensures
    ∙ (ap (λ n. replicate n true) c.len-in-None.ensures
    ∙ (all-true c.args.rows.now ∙ ap (λ filter. map (keeps filter) c.args.rows.now) (sym none))))
