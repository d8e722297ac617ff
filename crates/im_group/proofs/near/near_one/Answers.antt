use Rattle.std.proofs.Common.{◌≡◌, ℕ, ◌∷◌, [], Bool, true, false, List, Option, Some, refl, sym, ap, ◌∙◌}
use Rattle.std.specs.Bool.{then_some}
use Rattle.std.specs.Option.{option_map_or}
use Rattle.im_group.specs.Partials.{key_of, is_key}
use Rattle.im_group.specs.inner.Holding.{own}
use Rattle.im_group.specs.inner.Steps.{stands_at}
use Rattle.im_group.proofs.NearLaws.{stands-is}
use Rattle.im_group.proofs.near.near_one.Goals as goal

-- what is told of a place only where something holds
record Told (b : Bool) (place x : ℕ) : Type 0 where
  pub holds : b ≡ true
  pub same : place ≡ x

told : (b : Bool) (place x : ℕ) → then_some b place ≡ Some x → Told b place x
told true place x is = record { holds = refl; same = cc }
told false place x is = cc

pub returns-in-Some : goal.returns-in-Some
returns-in-Some c x is =
    let q = key_of c.args.columns.now c.args.row.now in
    let of = told c.is_only.result c.args.thought x (sym c.then_some.ensures ∙ is) in
    let found : is_key q c.in-Some.key.now.items ≡ true =
    ap (λ k. is_key k c.in-Some.key.now.items) c.requires.key
    ∙ (sym (c.is_only.ensures ∙ ap (is_key (c.args.sought.value.now ∷ [])) c.as_slice.ensures.value) ∙ of.holds) in
    ap (stands_at (own c.args.groups.now.entries) q) (sym of.same)
    ∙ (stands-is (λ k. k.items) q c.args.groups.now.entries c.args.thought
    ∙ (ap (λ o. option_map_or (λ g. is_key q g.0.items) o false) (sym c.in-Some.ensures.entry) ∙ found))
