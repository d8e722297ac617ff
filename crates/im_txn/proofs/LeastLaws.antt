-- The least of numbers, list by list.
use Rattle.std.proofs.Common.{◌≡◌, ℕ, suc, min, ◌+◌, ◌<◌, List, [], ◌∷◌, ◌++◌, length, map, drop, drop-cons, get_or, refl, sym, ap, ◌∙◌, arith}
use Rattle.im_history.specs.Horizon.{least}
use Rattle.im_txn.specs.declared.cursor.Cursor.{Cursor}

-- a number that is among the others, or before them
pub least-min : (n most : ℕ) (ns : List ℕ) → least (min n most) ns ≡ min n (least most ns)
least-min n most [] = refl
least-min n most (m ∷ ns) = let rest = least-min n most ns in omega (arith, rest)

-- the least of two lists
pub least-append : (most : ℕ) (xs ys : List ℕ) → least most (xs ++ ys) ≡ least (least most xs) ys
least-append most [] ys = refl
least-append most (x ∷ xs) ys = ap (λ (n : ℕ). min x n) (least-append most xs ys) ∙ sym (least-min x (least most xs) ys)

-- a cursor's SCN is among those of the cursors from it on
pub least-next : (cursors : List Cursor) (i so_far now : ℕ) (cursor : Cursor) → i < length cursors → now ≡ min (get_or cursors i cursor).scn so_far →
    least now (map (λ c. c.scn) (drop (i + 1) cursors)) ≡ least so_far (map (λ c. c.scn) (drop i cursors))
least-next cursors i so_far now cursor inside is =
    let rest : suc i ≡ i + 1 = omega arith in
    ap (λ (n : ℕ). least n (map (λ c. c.scn) (drop (i + 1) cursors))) is
    ∙ (least-min (get_or cursors i cursor).scn so_far (map (λ c. c.scn) (drop (i + 1) cursors))
    ∙ sym (ap (λ (l : List Cursor). least so_far (map (λ c. c.scn) l)) (drop-cons cursors i cursor inside ∙ ap (λ (k : ℕ). get_or cursors i cursor ∷ drop k cursors) rest)))
