use Rattle.std.proofs.Common.{◌≡◌, ◌++◌, ◌∷◌, [], ◌∙◌, List, All, length, replicate, sym, ap, subst, arith}
use Rattle.std.proofs.lemmas.List.{length-map, length-replicate, map_push, replicate_more}
use Rattle.im_values.specs.declared.content.Content.{Content as Value}
use Rattle.im_codes.specs.Dictionary.{lent}
use Rattle.im_column.specs.Forms.{IsShort}
use Rattle.im_column.proofs.RepeatedLemmas.{all-same}
use Rattle.im_column.proofs.repeated.of_few.Goals as goal
use Rattle.im_column.proofs.repeated.of_few.Goals.{After-as_slice}

pub loop-preserved : goal.loop-preserved
loop-preserved c =
    ap lent c.in_ok-push.ensures.items
    ∙ (map_push (λ v. v.now) c.loop.lent.items c.args.value
    ∙ (ap (λ (l : List Value). l ++ c.args.value.now ∷ []) c.loop.invariant ∙ replicate_more c.loop.counter c.args.value.now))

-- as many are lent as are wanted
all_lent : (c : After-as_slice) → lent c.as_slice.result.now ≡ replicate c.args.len c.args.value.now
all_lent c =
    let all : c.loop.counter ≡ c.args.len = omega (arith, c.loop-test.false, c.loop.auto.counter-end) in
    ap lent c.as_slice.ensures.value ∙ (c.loop.invariant ∙ ap (λ n. replicate n c.args.value.now) all)

pub build_lent-requires : goal.build_lent-requires
build_lent-requires c =
    let all = all_lent (goal.at.build_lent-requires c).After-as_slice in
    record {
      few = omega (arith, length-map c.as_slice.result.now (λ v. v.now), ap length all, length-replicate c.args.len c.args.value.now, c.requires.few);
      short = subst (All IsShort) (sym all) (all-same IsShort c.args.len c.args.value.now c.requires.short);
    }

pub returns : goal.returns
returns c = c.in_ok-column.ensures ∙ all_lent (goal.at.returns c).After-as_slice
