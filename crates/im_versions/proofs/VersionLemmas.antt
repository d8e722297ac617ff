-- Versions in rising order.
use Rattle.std.proofs.Common.{◌≡◌, ℕ, zero, suc, ◌+◌, ◌-◌, ◌<◌, ◌≤◌, Bool, true, false, List, [], ◌∷◌, ◌++◌, length, take, filter, get_or, nat_le, Some, sym, refl, ap, ◌∙◌, ⊎_elim, arith, le_refl, le-leb}
use Rattle.std.specs.List.{slice_get}
use Rattle.std.specs.Option.{option_map}
use Rattle.std.proofs.lemmas.Bool.{cases_lt}
use Rattle.std.proofs.lemmas.List.{take_all, length_push, get_or_append_left, get_or_push}
use Rattle.std.proofs.lemmas.Option.{get_or_from_slice_get, slice_get_within, slice_get-get_or}
use Rattle.std.specs.List.Sorted.{IsNonDecreasingBy, IsPartitionPoint}
use Rattle.std.proofs.lemmas.List.Sorted.{IsNonDecreasingBy-from_all_adjacent}
use Rattle.im_versions.specs.declared.version.Version.{Version}
use Rattle.im_versions.specs.Versions.{IsRising, versions_to, latest}

-- the SCNs do not fall
pub rises : (versions : List Version) → IsRising versions → IsNonDecreasingBy (λ version. version.scn) versions
rises versions rising = IsNonDecreasingBy-from_all_adjacent (λ version. version.scn) versions (λ k d h. omega (arith, rising k d h))

-- where the first pass a test and the others fail it, a filter keeps the first
pub filter-partitioned : {X : Type 0} (p : X → Bool) (xs : List X) (i : ℕ) →
    ((k : ℕ) (d : X) → 0 ≤ k → k < i → p (get_or xs k d) ≡ true) × ((k : ℕ) (d : X) → i ≤ k → k < length xs → p (get_or xs k d) ≡ false) →
    filter p xs ≡ take i xs
filter-partitioned p [] zero parts = refl
filter-partitioned p [] (suc i) parts = refl
filter-partitioned p (x ∷ xs) zero parts =
    let here : p x ≡ false = parts.1 0 x (omega arith) (omega arith) in
    rw here (filter-partitioned p xs zero (λ k d l h. absurd (omega arith), λ k d l h. parts.1 (suc k) d (omega arith) (omega arith)))
filter-partitioned p (x ∷ xs) (suc i) parts =
    let here : p x ≡ true = parts.0 0 x (omega arith) (omega arith) in
    rw here (ap (λ l. x ∷ l) (filter-partitioned p xs i (
      λ k d l h. parts.0 (suc k) d (omega arith) (omega arith),
      λ k d l h. parts.1 (suc k) d
          (omega arith) (omega arith),
    )))

-- where the newest version is at or below an SCN, all are
pub all_to : (versions : List Version) (scn : ℕ) (newest : Version) → IsRising versions → Some newest ≡ slice_get versions (length versions - 1) →
    newest.scn ≤ scn → versions ≡ versions_to scn versions
all_to versions scn newest rising last below =
    let inside = slice_get_within versions (length versions - 1) newest (sym last) in
    let to_last : (k : ℕ) (d : Version) → k < length versions → (get_or versions k d).scn ≤ scn = λ k d h.
    let up : (get_or versions k d).scn ≤ (get_or versions (length versions - 1) d).scn = rises versions rising k (length versions - 1) d (omega arith) inside in
    let is : (get_or versions (length versions - 1) d).scn ≡ newest.scn =
    ap (λ v. v.scn) (get_or_from_slice_get versions (length versions - 1) newest d (sym last)) in
    omega arith in
    sym (filter-partitioned (λ v. nat_le v.scn scn) versions (length versions) (λ k d l h. le-leb _ _ (to_last k d h), λ k d l h. absurd (omega arith))
    ∙ take_all (length versions) versions (le_refl _))

-- the versions at or below an SCN, up to a partition point
pub part_to : (versions : List Version) (scn i : ℕ) → IsPartitionPoint (λ v. nat_le v.scn scn ≡ true) (λ v. nat_le v.scn scn ≡ false) versions i →
    take i versions ≡ versions_to scn versions
part_to versions scn i point = sym (filter-partitioned (λ v. nat_le v.scn scn) versions i point)

-- a later version on top
pub IsRising-push : (versions : List Version) (version : Version) → IsRising versions → ((last : ℕ) → latest versions ≡ Some last → last < version.scn) →
    IsRising (versions ++ version ∷ [])
IsRising-push versions version rising later k d h =
    let long : length (versions ++ version ∷ []) ≡ length versions + 1 = length_push versions version in
    let first : get_or (versions ++ version ∷ []) k d ≡ get_or versions k d = get_or_append_left versions (version ∷ []) d k (omega arith) in
    ⊎_elim (λ (inside : k + 1 < length versions). rw (first, get_or_append_left versions (version ∷ []) d (k + 1) inside) (rising k d inside))
    (λ (past : length versions ≤ k + 1).
    let end : length versions ≡ k + 1 = omega (arith, long, h) in
    let place : length versions - 1 ≡ k = omega arith in
    let last : latest versions ≡ Some (get_or versions k d).scn =
    rw place (ap (option_map (λ (v : Version). v.scn)) (slice_get-get_or versions k d (omega arith))) in
    rw (first, get_or_push versions version d (k + 1) end) (later _ last))
    (cases_lt (k + 1) (length versions))
