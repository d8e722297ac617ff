use Rattle.std.proofs.Common.{sym, ◌∙◌}
use Rattle.std.proofs.lemmas.List.{length-map}
use Rattle.im_syntax.specs.BoundFits.{value_at}
use Rattle.im_group.specs.Partials.{key_of}
use Rattle.im_group.proofs.Agreement.{keys_tie}
use Rattle.im_group.proofs.NearLaws.{unlike}
use Rattle.im_group.proofs.near.has_key.Goals as goal

pub returns-then-columns-key : goal.returns-then-columns-key
returns-then-columns-key c =
    let key = key_of c.args.columns.now c.args.row.now in
    sym (sym (keys_tie key c.args.key.now) ∙ unlike key c.args.key.now (λ e. c.if-columns-key.true (sym (length-map c.args.columns.now (value_at c.args.row.now)) ∙ e)))

pub loop-i-init : goal.loop-i-init
loop-i-init c = sym (keys_tie (key_of c.args.columns.now c.args.row.now) c.args.key.now)
