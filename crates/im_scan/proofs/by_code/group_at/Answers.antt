use Rattle.std.proofs.Common.{◌∙◌, List, [], ◌∷◌, ◌++◌, ap, sym, slice_index_or}
use Rattle.im_values.specs.declared.content.Content.{Content as Value}
use Rattle.im_values.specs.declared.content.Content.TheVariants.{Null}
use Rattle.im_codes.specs.Dictionary.{coded}
use Rattle.im_group.specs.MadeGroups.{group_of}
use Rattle.im_scan.proofs.ByCodeLemmas.{group-made}
use Rattle.im_scan.proofs.SummedLemmas.{some-inj}
use Rattle.im_scan.proofs.by_code.group_at.Goals as goal

pub returns : goal.returns
returns c found is of come =
    ap group_of (sym (some-inj is))
    ∙ group-made of c.args.asked.now (slice_index_or (coded c.args.dict.now) c.args.code Null) c.args.rows c.push.new.self.items c.in-Some.sums.items
    (c.in_ok-push.ensures.items
    ∙ (ap (λ (l : List Value). l ++ c.in_ok-value_of.field-0 ∷ []) c.in_ok-key.ensures.items
    ∙ ap (λ (v : Value). v ∷ []) c.in_ok-value_of.ensures))
    (c.in_ok-sums.ensures c.in-Some.sums c.in-Some.is of come)
