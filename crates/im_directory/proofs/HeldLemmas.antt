-- All held builds once one begins, one ends, or some are killed, and the least of their SCNs.
use Rattle.std.proofs.Common.{◌≡◌, ℕ, zero, suc, ◌+◌, ◌-◌, ◌<◌, ◌≤◌, Bool, not, min, List, [], ◌∷◌, ◌++◌, length, map, filter, set, take, Option, Some, None, if◌then◌else◌, refl, sym, ap, ◌∙◌, arith}
use Rattle.std.specs.Prelude.{slice_index_or}
use Rattle.std.specs.Option.{option_map}
use Rattle.std.proofs.lemmas.Bool.{eq-eqb, ne_eqb}
use Rattle.std.proofs.lemmas.List.{map-append, take_more}
use Rattle.std.proofs.lemmas.List.Elements.{filter_map-append}
use Rattle.im_history.specs.declared.task.Held.{Held}
use Rattle.im_history.specs.Horizon.{least}
use Rattle.im_history.specs.Units.{is_id}
use Rattle.im_directory.specs.Slots.{build_among, held_among, scns_among}

-- ---- one begins

pub held-begun : (builds : List (Option Held)) (held : Held) → held_among (builds ++ Some held ∷ []) ≡ held_among builds ++ held ∷ []
held-begun builds held = filter_map-append (λ build. build) builds (Some held ∷ [])

-- ---- some are killed

pub held-mapped : (f : Held → Held) (builds : List (Option Held)) → held_among (map (option_map f) builds) ≡ map f (held_among builds)
held-mapped f [] = refl
held-mapped f (None ∷ builds) = held-mapped f builds
held-mapped f (Some held ∷ builds) = ap (λ (rest : List Held). f held ∷ rest) (held-mapped f builds)

-- ---- one ends

-- the builds are numbered from this number on
record AreFrom (first : ℕ) (builds : List (Option Held)) : Type 0 where
  each : (place : ℕ) (held : Held) → slice_index_or builds place None ≡ Some held → held.task.id ≡ first + place

AreFrom-tail : (first : ℕ) (build : Option Held) (builds : List (Option Held)) → AreFrom first (build ∷ builds) → AreFrom (first + 1) builds
AreFrom-tail first build builds from = record { each = λ place held is. let same = from.each (suc place) held is in omega (arith, same) }

-- none of a lower number is among them
none-lower : (id first : ℕ) (builds : List (Option Held)) → id < first → AreFrom first builds
    → filter (λ held. not (is_id id held)) (held_among builds) ≡ held_among builds
none-lower id first [] lower from = refl
none-lower id first (None ∷ builds) lower from = none-lower id (first + 1) builds (omega (arith, lower)) (AreFrom-tail first None builds from)
none-lower id first (Some held ∷ builds) lower from =
    let number = from.each 0 held refl in
    let rest = none-lower id (first + 1) builds (omega (arith, lower)) (AreFrom-tail first (Some held) builds from) in
    ap (λ (b : Bool). if not b then held ∷ filter (λ held. not (is_id id held)) (held_among builds) else filter (λ held. not (is_id id held)) (held_among builds))
    (ne_eqb held.task.id id (λ same. omega (arith, same, number, lower)))
    ∙ ap (λ (rest : List Held). held ∷ rest) rest

held-without : (first place : ℕ) (builds : List (Option Held)) → AreFrom first builds
    → held_among (set builds place None) ≡ filter (λ held. not (is_id (first + place) held)) (held_among builds)
held-without first place [] from = refl
held-without first zero (None ∷ builds) from =
    sym (none-lower (first + 0) (first + 1) builds (omega arith) (AreFrom-tail first None builds from))
held-without first zero (Some held ∷ builds) from =
    let number = from.each 0 held refl in
    sym (ap (λ (b : Bool). if not b then held ∷ filter (λ held. not (is_id (first + 0) held)) (held_among builds) else
    filter (λ held. not (is_id (first + 0) held)) (held_among builds)) (eq-eqb held.task.id (first + 0) number)
    ∙ none-lower (first + 0) (first + 1) builds (omega arith) (AreFrom-tail first (Some held) builds from))
held-without first (suc place) (None ∷ builds) from =
    let next : first + 1 + place ≡ first + suc place = omega arith in
    held-without (first + 1) place builds (AreFrom-tail first None builds from)
    ∙ ap (λ (id : ℕ). filter (λ held. not (is_id id held)) (held_among builds)) next
held-without first (suc place) (Some held ∷ builds) from =
    let number = from.each 0 held refl in
    let next : first + 1 + place ≡ first + suc place = omega arith in
    ap (λ (rest : List Held). held ∷ rest)
    (held-without (first + 1) place builds (AreFrom-tail first (Some held) builds from)
    ∙ ap (λ (id : ℕ). filter (λ held. not (is_id id held)) (held_among builds)) next)
    ∙ sym (ap (λ (b : Bool). if not b then held ∷ filter (λ held. not (is_id (first + suc place) held)) (held_among builds) else
    filter (λ held. not (is_id (first + suc place) held)) (held_among builds))
    (ne_eqb held.task.id (first + suc place) (λ same. omega (arith, same, number))))

-- the build of this number is not among them any more
pub held-ended : (builds : List (Option Held)) (id : ℕ) → ((other : ℕ) (held : Held) → build_among builds other ≡ Some held → held.task.id ≡ other)
    → 1 ≤ id → held_among (set builds (id - 1) None) ≡ filter (λ held. not (is_id id held)) (held_among builds)
held-ended builds id numbered some =
    let same : 1 + (id - 1) ≡ id = omega (arith, some) in
    held-without 1 (id - 1) builds (record { each = λ place held is. let number = numbered (suc place) held is in omega (arith, number) })
    ∙ ap (λ (id : ℕ). filter (λ held. not (is_id id held)) (held_among builds)) same

-- ---- the least of their SCNs

least-min : (n most : ℕ) (ns : List ℕ) → least (min n most) ns ≡ min n (least most ns)
least-min n most [] = refl
least-min n most (m ∷ ns) = let rest = least-min n most ns in omega (arith, rest)

least-append : (most : ℕ) (ns more : List ℕ) → least most (ns ++ more) ≡ least (least most ns) more
least-append most [] more = refl
least-append most (n ∷ ns) more = ap (min n) (least-append most ns more) ∙ sym (least-min n (least most ns) more)

-- the least of them and one more
pub least-more : (most : ℕ) (builds : List (Option Held)) (build : Option Held)
    → least most (scns_among (builds ++ build ∷ [])) ≡ least (least most (scns_among builds)) (scns_among (build ∷ []))
least-more most builds build =
    ap (λ (held : List Held). least most (map (λ held. held.task.scn) held)) (filter_map-append (λ build. build) builds (build ∷ []))
    ∙ (ap (least most) (map-append (λ (held : Held). held.task.scn) (held_among builds) (held_among (build ∷ [])))
    ∙ least-append most (scns_among builds) (scns_among (build ∷ [])))

-- the least once the build at a place was looked at too
pub least-next : (most so_far next place : ℕ) (items builds : List (Option Held)) → items ≡ builds → place < length items
    → so_far ≡ least most (scns_among (take place builds)) → next ≡ least so_far (scns_among (slice_index_or items place None ∷ []))
    → next ≡ least most (scns_among (take (place + 1) builds))
least-next most so_far next place items builds same inside before looked =
    looked
    ∙ (ap (λ (n : ℕ). least n (scns_among (slice_index_or items place None ∷ []))) (before ∙ ap (λ (b : List (Option Held)). least most (scns_among (take place b))) (sym same))
    ∙ (sym (least-more most (take place items) (slice_index_or items place None))
    ∙ (ap (λ (b : List (Option Held)). least most (scns_among b)) (sym (take_more items place None inside))
    ∙ ap (λ (b : List (Option Held)). least most (scns_among (take (place + 1) b))) same)))
