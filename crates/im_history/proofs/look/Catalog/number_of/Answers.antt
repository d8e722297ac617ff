use Rattle.std.proofs.Common.{ℕ, suc, Some, sym, ap, ◌∙◌, add-one}
use Rattle.std.specs.Option.{option_map}
use Rattle.im_history.proofs.look.Catalog.number_of.Goals as goal

pub returns-in_err-place : goal.returns-in_err-place
returns-in_err-place c =
    c.from_residual.ensures ∙ ap (option_map suc) (sym c.in_err-place.was ∙ rw c.tables.ensures.tables at c.place_named.ensures.place)

pub returns : goal.returns
returns c =
    ap (λ (n : ℕ). Some n) (add-one c.in_ok-place.place)
    ∙ ap (option_map suc) (sym c.in_ok-place.was ∙ rw c.tables.ensures.tables at c.place_named.ensures.place)
