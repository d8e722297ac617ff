use Rattle.std.proofs.Common.{◌≡◌, map, ap, ◌∙◌, arith}
use Rattle.std.specs.List.{range_with_len}
use Rattle.im_names.specs.Lookups.{number_of}
use Rattle.im_syntax.specs.BoundQuery.{is_listed}
use Rattle.im_names.specs.Queries.{lone_faults, marked_faults}
use Rattle.im_names.proofs.FaultLemmas.{same_ok, same_err}
use Rattle.im_names.proofs.GroupLemmas.{all_marks, marks_serve}
use Rattle.im_names.proofs.queries.check_grouped.Goals as goal

pub returns : goal.returns
returns c =
    let columns = c.args.schema.now in
    let query = c.args.query.now in
    let made : c.deref.result.now ≡ all_marks columns query.groups =
    c.deref.ensures.value ∙ c.in_ok-marks.ensures
    ∙ ap (λ numbers. map (is_listed numbers) (range_with_len 0 c.width_of.result)) c.requires
    ∙ ap (λ width. map (is_listed (map (number_of columns) query.groups)) (range_with_len 0 width)) c.width_of.ensures.width in
    let same : marked_faults columns c.deref.result.now query ≡ lone_faults columns query =
    ap (λ marks. marked_faults columns marks query) made ∙ marks_serve columns query (omega (arith, c.width_of.ensures.some, c.width_of.ensures.width)) in
    record { ok = same_ok _ _ c.check_marks.result same c.check_marks.ensures.ok; err = same_err _ _ c.check_marks.result same c.check_marks.ensures.err }
