use Rattle.std.proofs.Common.{refl, ap, ◌∙◌, ◌++◌, drop, length, take, ℕ, List}
use Rattle.im_tables.specs.Wholes.{written}
use Rattle.im_tables.proofs.line.Line.cells_mut.Goals as goal

pub returns : goal.returns
returns g c = (
  (
    refl,
    λ w. ap (λ (n : ℕ). take n (w ++ drop (length w) c.self.inside.cells.items)) c.self.inside.cells.ok.0
        ∙ ap (λ (cells : List _). written cells w) c.self.view_is,
  ),
  record { writes_back = c.as_mut_slice.ensures.writes_back; value = c.as_mut_slice.ensures.value ∙ c.self.view_is },
)
