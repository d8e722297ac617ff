use Rattle.std.proofs.Common.{◌≡◌, List, [], ◌∷◌, ◌++◌, refl, ap, sym, ◌∙◌, arith}
use Rattle.std.specs.Prelude.{Some}
use Rattle.im_group.specs.MadeGroups.{with_sums}
use Rattle.im_group.specs.Partials.{keeps}
use Rattle.im_group.specs.Sums.{SumsOf}
use Rattle.im_scan.proofs.RangeLemmas.{one-tallied}
use Rattle.im_scan.proofs.SummedLemmas.{some-inj, tally-for}
use Rattle.im_scan.proofs.in_range.kept_part.Goals as goal

pub returns : goal.returns
returns c found is =
    let asked = c.asked-asked.result.now in
    let tally = c.in-Some.tally in
    let sums = c.in-Some-2.found in
    let pushed : c.push.new.self.items ≡ sums ∷ [] =
    c.in_ok-push.ensures.items ∙ ap (λ (l : List SumsOf). l ++ sums ∷ []) c.in_ok-sums.ensures.items in
    record {
      gives = λ rows same.
          sym (some-inj is)
          ∙ c.in_ok-part.ensures rows
          (ap (with_sums tally.values) pushed
          ∙ one-tallied c.args.asking.now c.args.unit.now (keeps (Some c.args.filter.now)) rows tally.values asked _ _ sums
          (omega (arith, c.if-asked-ne1.false)) refl c.asked-asked.ensures same c.in-Some.ensures.values
          (c.in_ok-found.ensures sums c.in-Some-2.is _ (tally-for _ _ tally c.in-Some.ensures.tally)));
    }
