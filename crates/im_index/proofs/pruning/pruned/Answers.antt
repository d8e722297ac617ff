use Rattle.std.proofs.Common.{◌≡◌, ◌≢◌, ℕ, false, List, [], ◌∷◌, length, refl, sym, ap, ◌∙◌}
use Rattle.im_values.specs.declared.content.Content.{Content as Value}
use Rattle.im_syntax.specs.Condition.{ConjOf, cond_of}
use Rattle.im_index.specs.declared.bounds.Bounds.{Bounds}
use Rattle.im_index.specs.Excludes.{excludes}
use Rattle.im_index.proofs.pruning.pruned.Goals as goal

-- a condition that is not one conjunction is not excluded
many-not : (lists : List (ConjOf ℕ Value)) (columns : List Bounds) → length lists ≢ 1 → excludes (cond_of lists) columns ≡ false
many-not [] columns many = refl
many-not (ts ∷ []) columns many = absurd (many refl)
many-not (ts ∷ more ∷ rest) columns many = refl

pub returns-then-lists-ne1 : goal.returns-then-lists-ne1
returns-then-lists-ne1 c =
    sym (many-not c.lists-lists.result.now c.args.bounds.now c.if-lists-ne1.true) ∙ ap (λ f. excludes f c.args.bounds.now) c.lists-lists.ensures
