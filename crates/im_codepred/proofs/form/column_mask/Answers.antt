use Rattle.std.proofs.Common.{[], ◌<◌, length, map, ap, ◌∙◌, arith}
use Rattle.std.specs.Arc.{arc_value}
use Rattle.std.proofs.lemmas.List.{length-map, get_or_read}
use Rattle.im_codepred.specs.Asked.{is_met}
use Rattle.im_codepred.proofs.form.column_mask.Goals as goal

pub returns : goal.returns
returns c =
    let columns = map arc_value c.args.columns.now in
    let inside : c.args.column < length columns = omega (arith, length-map c.args.columns.now arc_value, c.requires) in
    c.in_ok-mask_of.ensures
    ∙ ap (map (is_met c.args.wanted c.args.asked.now)) (get_or_read columns c.args.column c.column_of.result.now inside c.column_of.ensures [])
