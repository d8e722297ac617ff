-- How many builds are held once one begins, one ends, or some are killed.
use Rattle.std.proofs.Common.{◌≡◌, ℕ, ◌+◌, ◌-◌, Bool, List, [], ◌∷◌, ◌++◌, map, set, count_by, Option, Some, None, is_some, if◌then◌else◌, refl, ap, ◌∙◌, arith}
use Rattle.std.specs.Option.{option_map}
use Rattle.std.proofs.lemmas.List.Sums.{sum_by-cons, sum_by_push}
use Rattle.im_history.specs.declared.task.Held.{Held}
use Rattle.im_directory.specs.Slots.{build_among}
use Rattle.im_directory.proofs.BuildLemmas.{build_at, count-ended}

pub count-begun : (builds : List (Option Held)) (held : Held) → count_by is_some (builds ++ Some held ∷ []) ≡ count_by is_some builds + 1
count-begun builds held = sum_by_push (λ (b : Option Held). if is_some b then 1 else 0) builds (Some held)

pub count-one-ended : (builds : List (Option Held)) (id : ℕ) (held : Held) → build_among builds id ≡ Some held →
    count_by is_some (set builds (id - 1) None) + 1 ≡ count_by is_some builds
count-one-ended builds id held is = let some = ap is_some is in count-ended builds (id - 1) (ap is_some (build_at builds id some) ∙ some)

abbrev counted : Option Held → ℕ
counted b = if is_some b then 1 else 0

same_some : (f : Held → Held) (b : Option Held) → is_some (option_map f b) ≡ is_some b
same_some f None = refl
same_some f (Some held) = refl

pub count-killed : (builds : List (Option Held)) (f : Held → Held) → count_by is_some (map (option_map f) builds) ≡ count_by is_some builds
count-killed [] f = refl
count-killed (b ∷ builds) f =
    let here : ◌≡◌ {A = ℕ} (if is_some (option_map f b) then 1 else 0) (if is_some b then 1 else 0) =
    ap (λ (there : Bool). if there then 1 else 0) (same_some f b) in
    omega (arith, sum_by-cons counted (option_map f b) (map (option_map f) builds), sum_by-cons counted b builds, count-killed builds f, here)
