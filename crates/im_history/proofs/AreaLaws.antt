-- How much of the area the column units take.
use Rattle.std.proofs.Common.{◌≡◌, ℕ, ◌+◌, List, [], ◌∷◌, sum_by, flat_map, length, refl, sym, ap, ap₂, ◌∙◌}
use Rattle.std.specs.List.{range_with_len}
use Rattle.std.proofs.lemmas.List.Sums.{sum_by-cons}
use Rattle.im_history.specs.declared.look.TableInfo.{TableInfo}
use Rattle.im_history.specs.Area.{content_bytes, extent_bytes, used}
use Rattle.im_history.specs.Extents.{Extent, all_extents, table_extents}
use Rattle.im_history.specs.History.{History, replay}
use Rattle.im_history.specs.Tables.{tables}
use Rattle.im_history.specs.Units.{unit_content}

tables-nil : ◌≡◌ {A = List TableInfo} (tables []) []
unfolding tables replay
tables-nil = refl

pub all_extents-nil : ◌≡◌ {A = List Extent} (all_extents []) []
unfolding all_extents
all_extents-nil = ap (λ (ts : List TableInfo). flat_map (table_extents []) (range_with_len 1 (length ts))) tables-nil

pub used-nil : used [] ≡ 0
unfolding used
used-nil = ap (sum_by (extent_bytes [])) all_extents-nil

sum_same : (f g : Extent → ℕ) → ((extent : Extent) → f extent ≡ g extent) → (extents : List Extent) → sum_by f extents ≡ sum_by g extents
sum_same f g same [] = refl
sum_same f g same (extent ∷ extents) =
    sum_by-cons f extent extents ∙ (ap₂ (λ a b. a + b) (same extent) (sum_same f g same extents) ∙ sym (sum_by-cons g extent extents))

-- what the units take is told by the extents and by what their units hold
pub used-same : (h k : History) → ((table extent : ℕ) → unit_content h table extent ≡ unit_content k table extent) → all_extents h ≡ all_extents k
    → used h ≡ used k
unfolding used
used-same h k same extents =
    sum_same (extent_bytes h) (extent_bytes k) (λ extent. ap content_bytes (same extent.table extent.number)) (all_extents h)
    ∙ ap (sum_by (extent_bytes k)) extents
