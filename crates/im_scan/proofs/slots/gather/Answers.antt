use Rattle.std.proofs.Common.{ap, ◌∙◌}
use Rattle.im_scan.specs.Faces.{unit_of}
use Rattle.im_scan.specs.inner.Steps.{with_fetched}
use Rattle.im_scan.proofs.SlotLemmas.{fetched-back}
use Rattle.im_scan.proofs.slots.gather.Goals as goal

pub returns : goal.returns
returns c =
    fetched-back (unit_of c.args.face) c.args.others.now c.args.first c.args.count
    c.in_ok-slots.slots.len c.in_ok-slots.slots.items c.put_fetched.new.slots c.in_ok-slots.slots.ok.0 c.in_ok-slots.ensures
    (c.put_fetched.ensures ∙ ap (λ slots. with_fetched c.args.first slots c.args.others.now) c.as_mut_slice.ensures.value)
