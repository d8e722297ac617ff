-- The builds by number, and how many are held.
use Rattle.std.proofs.Common.{◌≡◌, ℕ, zero, suc, ◌+◌, ◌-◌, ◌<◌, ◌≤◌, true, List, length, set, count_by, Option, None, is_some, IsSome, if◌then◌else◌, sym, ap, ◌∙◌, ⊎_elim, arith}
use Rattle.std.specs.Prelude.{slice_index_or}
use Rattle.std.proofs.lemmas.Bool.{cases_lt, true≢false}
use Rattle.std.proofs.lemmas.List.{get_or_past}
use Rattle.std.proofs.lemmas.List.Sums.{sum_by-set}
use Rattle.im_history.specs.declared.task.Held.{Held}
use Rattle.im_directory.specs.Slots.{build_among}

-- one held build less is counted
pub count-ended : (builds : List (Option Held)) (place : ℕ) → is_some (slice_index_or builds place None) ≡ true →
    count_by is_some (set builds place None) + 1 ≡ count_by is_some builds
count-ended builds place is =
    let one : ℕ = if is_some (slice_index_or builds place None) then 1 else 0 in
    let inside : place < length builds = ⊎_elim (λ (l : place < length builds). l)
    (λ (past : length builds ≤ place). absurd (true≢false (sym is ∙ ap is_some (get_or_past builds place None past))))
    (cases_lt place (length builds)) in
    let held : one ≡ 1 = ap (λ b. if b then 1 else 0) is in
    let moved : count_by is_some (set builds place None) + one ≡ count_by is_some builds + 0 =
    sum_by-set (λ (b : Option Held). if is_some b then 1 else 0) builds place None None inside in
    omega (arith, held, moved)

-- the held build of a number stands one place before
pub build_at : (builds : List (Option Held)) (id : ℕ) → IsSome (build_among builds id) → slice_index_or builds (id - 1) None ≡ build_among builds id
build_at builds zero held = absurd (true≢false (sym held))
build_at builds (suc before) held = let same : suc before - 1 ≡ before = omega arith in ap (λ (k : ℕ). slice_index_or builds k None) same

-- one held build less is counted once it ends
pub count-end : (builds new : List (Option Held)) (id count : ℕ) → IsSome (build_among builds id) → new ≡ set builds (id - 1) None →
    count ≡ count_by is_some builds → count - 1 ≡ count_by is_some new
count-end builds new id count held is counted =
    let less = count-ended builds (id - 1) (ap is_some (build_at builds id held) ∙ held) in
    let same = ap (count_by is_some) is in
    omega (arith, less, same, counted)

-- a held build has a number from 1 on, and its place is one of the list's
pub build_inside : (builds : List (Option Held)) (id : ℕ) → IsSome (build_among builds id) → (1 ≤ id) × (id - 1 < length builds)
build_inside builds zero held = absurd (true≢false (sym held))
build_inside builds (suc before) held =
    let inside : before < length builds = ⊎_elim (λ (l : before < length builds). l)
    (λ (past : length builds ≤ before). absurd (true≢false (sym held ∙ ap is_some (get_or_past builds before None past))))
    (cases_lt before (length builds)) in
    (omega arith, omega arith)
