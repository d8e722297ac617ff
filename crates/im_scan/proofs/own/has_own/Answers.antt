use Rattle.std.proofs.Common.{sym, subst, ap, ◌∙◌}
use Rattle.std.specs.Option.{option_map}
use Rattle.im_history.specs.Last.{AreLast}
use Rattle.im_history.specs.Views.{shown}
use Rattle.im_scan.proofs.ShownLemmas.{change_of-shown}
use Rattle.im_scan.proofs.own.has_own.Goals as goal

pub returns-in-None : goal.returns-in-None
returns-in-None c none =
    let last = subst (AreLast c.args.view.now.own c.args.view.now.table c.args.first c.args.count) c.in-None.ensures.steps.0 c.between.ensures in
    record {
      none = λ rid from below.
          change_of-shown c.args.view.now c.args.view.now.table rid ∙ ap (option_map (shown c.args.view.now)) (sym (last.found rid from below));
    }
