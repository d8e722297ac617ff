use Rattle.std.proofs.Common.{◌++◌, Option, sym, ap, ◌∙◌, append-nil}
use Rattle.std.proofs.lemmas.Result.{on_ok_weaker}
use Rattle.im_history.specs.Rows.{Row}
use Rattle.im_group.specs.Partials.{partial}
use Rattle.im_scan.specs.inner.Steps.{numbered}
use Rattle.im_scan.proofs.parts.take_row.Goals as goal

pub take-requires-clause-fits : goal.take-requires-clause-fits
take-requires-clause-fits c = c.requires.fits c.in-Some.row c.in-Some.is

pub returns-in-Some : goal.returns-in-Some
returns-in-Some c =
    on_ok_weaker c.take.result
    (λ on. record {
      goes = λ rows old. on.goes rows old
          ∙ ap (λ (o : Option Row). partial c.args.asking.now (rows ++ numbered c.args.rid o)) (sym c.in-Some.is);
    })
    c.take.ensures

pub returns-in-None : goal.returns-in-None
returns-in-None c = record {
  goes = λ rows old.
      old
      ∙ (ap (partial c.args.asking.now) (sym (append-nil rows))
      ∙ ap (λ (o : Option Row). partial c.args.asking.now (rows ++ numbered c.args.rid o)) (sym c.in-None.is));
}
