use Rattle.std.proofs.Common.{false, sym, ap, ◌∙◌}
use Rattle.std.specs.Option.{option_map_or}
use Rattle.im_group.specs.Partials.{key_of, is_key}
use Rattle.im_group.proofs.NearLaws.{stands-is}
use Rattle.im_group.proofs.near.is_at.Goals as goal

pub returns-in-Some : goal.returns-in-Some
returns-in-Some c =
    let q = key_of c.args.columns.now c.args.row.now in
    c.has_key.ensures
    ∙ (ap (is_key q) c.as_slice.ensures.value
    ∙ sym (stands-is (λ k. k.items) q c.args.groups.now.entries c.args.place
    ∙ ap (λ o. option_map_or (λ g. is_key q g.0.items) o false) (sym c.in-Some.ensures.entry)))

pub returns-in-None : goal.returns-in-None
returns-in-None c =
    let q = key_of c.args.columns.now c.args.row.now in
    sym (stands-is (λ k. k.items) q c.args.groups.now.entries c.args.place
    ∙ ap (λ o. option_map_or (λ g. is_key q g.0.items) o false) (sym c.in-None.ensures.entry))
