use Rattle.std.proofs.Common.{◌∙◌, sym, append_assoc}
use Rattle.im_script.specs.Generated.{opening, closing, ended, text_of}
use Rattle.im_script.specs.inner.Putting.{orders_text}
use Rattle.im_script.proofs.Generating.{whole-script}
use Rattle.im_script.proofs.Lengths.{within}
use Rattle.im_script.proofs.generated.generate.Goals as goal

pub returns-clause-script : goal.returns-clause-script
returns-clause-script c =
    rw (
      c.in_ok-extend_from_slice-2.ensures.items,
      c.as_bytes-2.ensures.value,
      c.in_ok-put_orders.ensures,
      c.in_ok-extend_from_slice.ensures.items,
      c.as_bytes.ensures.value,
      c.in_ok-script.ensures.items,
    )
    (append_assoc (ended opening) (orders_text c.args.seed 1 c.args.rows) (text_of closing) ∙ sym (whole-script c.args.seed c.args.rows))

pub returns-clause-within : goal.returns-clause-within
returns-clause-within c few =
    rw (returns-clause-script c) (within c.args.seed c.args.rows few)
