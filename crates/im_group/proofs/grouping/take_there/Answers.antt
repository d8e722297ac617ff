use Rattle.std.proofs.Common.{Bool, sym, ap, subst, ◌∙◌}
use Rattle.std.specs.Global.{Vec}
use Rattle.std.proofs.lemmas.Result.{on_ok_weaker}
use Rattle.std.specs.Cmp.Lexicographic.{pointwise}
use Rattle.im_values.specs.declared.content.Content.{Content as Value}
use Rattle.im_group.specs.Tallies.{row_taken, HasRoom}
use Rattle.im_group.specs.Partials.{key_of, keyed}
use Rattle.im_group.specs.inner.Steps.{placed, so_far}
use Rattle.im_group.proofs.Agreement.{same_value, keys_tie}
use Rattle.im_group.proofs.NearLaws.{found-at, set-at, within-at}
use Rattle.im_group.proofs.grouping.take_there.Goals as goal

abbrev same_keys : Vec Value → Vec Value → Bool
same_keys x y = pointwise same_value x.items y.items

pub take-requires-clause-few : goal.take-requires-clause-few
take-requires-clause-few c =
    let q = key_of c.args._columns.now c.args.row.now in
    let here = found-at same_keys (λ k. k.items) (λ x y. keys_tie x.items y.items) q c.args.groups.now.entries c.args.place _
    c.in-Some.ensures.unique c.requires.there (sym c.in-Some.ensures.value) in
    subst (λ old. HasRoom (so_far c.args.asked.now old)) here c.requires.few

pub returns-in-Some : goal.returns-in-Some
returns-in-Some c =
    let q = key_of c.args._columns.now c.args.row.now in
    let here = found-at same_keys (λ k. k.items) (λ x y. keys_tie x.items y.items) q c.args.groups.now.entries c.args.place _
    c.in-Some.ensures.unique c.requires.there (sym c.in-Some.ensures.value) in
    let write = set-at same_keys (λ k. k.items) (λ x y. keys_tie x.items y.items) q c.args.groups.now.entries c.args.place c.take.new.self
    c.in-Some.ensures.unique c.requires.there in
    on_ok_weaker c.take.result (λ taken. write
    ∙ ap (placed (keyed (λ k. k.items) c.args.groups.now.entries) q) (taken
    ∙ ap (λ old. row_taken c.args.asked.now (so_far c.args.asked.now old) c.args.row.now) (sym here))) c.take.ensures

pub returns-in-None : goal.returns-in-None
returns-in-None c =
    let q = key_of c.args._columns.now c.args.row.now in
    absurd (within-at same_keys (λ k. k.items) (λ x y. keys_tie x.items y.items) q c.args.groups.now.entries c.args.place c.requires.there c.in-None.ensures.value)
