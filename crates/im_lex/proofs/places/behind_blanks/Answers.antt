use Rattle.std.proofs.Common.{◌≡◌, ◌∙◌, true, sym, get_or}
use Rattle.im_lex.specs.Bytes.{is_blank}
use Rattle.im_lex.proofs.StraightLaws.{blank_reads}
use Rattle.im_lex.proofs.places.behind_blanks.Goals as goal

pub loop-place-preserved : goal.loop-place-preserved
loop-place-preserved c =
    let blank : is_blank (get_or c.args.line.now c.loop-place.place 0) ≡ true = sym c.is_blank.ensures ∙ (let t = c.if-not-is_blank.false in cc) in
    blank_reads c.args.line.now c.args.at c.loop-place.place c.loop-place.invariant c.loop-place-test.true blank
