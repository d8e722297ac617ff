use Rattle.std.proofs.Common.{◌≡◌, List, All, length, subst}
use Rattle.im_values.specs.declared.content.Content.{Content as Value}
use Rattle.im_values.proofs.WidthLemmas.{wide-in}
use Rattle.im_values.proofs.rows.Rows.width.Goals as goal

pub returns : goal.returns
returns c =
    subst (λ (rows : List (List Value)). All (λ row. length row ≡ c.self.inside.width) rows) c.self.view_is
    (wide-in c.self.inside.form c.self.inside.first c.self.inside.width c.self.inside.count c.self.invariant)
