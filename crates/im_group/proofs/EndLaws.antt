-- Texts that have few bytes are told by their ends.
use Rattle.std.proofs.Common.{◌≡◌, ℕ, suc, ◌+◌, ◌<◌, ◌≤◌, List, [], ◌∷◌, length, get_or, refl, Fits, w8, arith}
use Rattle.im_group.specs.inner.Ends.{ends_of}

-- each number of a list is a byte
abbrev pub AreBytes : List ℕ → Type 0
AreBytes xs = (i : ℕ) → Fits w8 (get_or xs i 0)

below : (xs : List ℕ) → AreBytes xs → (i : ℕ) → get_or xs i 0 < 256
below xs bytes i = (bytes i).fits

-- of up to eight bytes
pub ends-tell : (xs ys : List ℕ) → AreBytes xs → AreBytes ys → length xs ≡ length ys → length xs ≤ 8 → ends_of xs ≡ ends_of ys → xs ≡ ys
ends-tell [] [] bx by same few e = refl
ends-tell (x ∷ []) (y ∷ []) bx by same few e =
    let a = below (x ∷ []) bx in
    let b = below (y ∷ []) by in
    let p0 : x ≡ y = omega (arith, a 0, b 0, e) in
    rw p0 refl
ends-tell (x ∷ x1 ∷ []) (y ∷ y1 ∷ []) bx by same few e =
    let a = below (x ∷ x1 ∷ []) bx in
    let b = below (y ∷ y1 ∷ []) by in
    let p0 : x ≡ y = omega (arith, a 0, a 1, b 0, b 1, e) in
    let p1 : x1 ≡ y1 = omega (arith, a 0, a 1, b 0, b 1, e) in
    rw (p0, p1) refl
ends-tell (x ∷ x1 ∷ x2 ∷ []) (y ∷ y1 ∷ y2 ∷ []) bx by same few e =
    let a = below (x ∷ x1 ∷ x2 ∷ []) bx in
    let b = below (y ∷ y1 ∷ y2 ∷ []) by in
    let p0 : x ≡ y = omega (arith, a 0, a 1, a 2, b 0, b 1, b 2, e) in
    let p1 : x1 ≡ y1 = omega (arith, a 0, a 1, a 2, b 0, b 1, b 2, e) in
    let p2 : x2 ≡ y2 = omega (arith, a 0, a 1, a 2, b 0, b 1, b 2, e) in
    rw (p0, p1, p2) refl
ends-tell (x ∷ x1 ∷ x2 ∷ x3 ∷ []) (y ∷ y1 ∷ y2 ∷ y3 ∷ []) bx by same few e =
    let a = below (x ∷ x1 ∷ x2 ∷ x3 ∷ []) bx in
    let b = below (y ∷ y1 ∷ y2 ∷ y3 ∷ []) by in
    let p0 : x ≡ y = omega (arith, a 0, a 1, a 2, a 3, b 0, b 1, b 2, b 3, e) in
    let p1 : x1 ≡ y1 = omega (arith, a 0, a 1, a 2, a 3, b 0, b 1, b 2, b 3, e) in
    let p2 : x2 ≡ y2 = omega (arith, a 0, a 1, a 2, a 3, b 0, b 1, b 2, b 3, e) in
    let p3 : x3 ≡ y3 = omega (arith, a 0, a 1, a 2, a 3, b 0, b 1, b 2, b 3, e) in
    rw (p0, p1, p2, p3) refl
ends-tell (x ∷ x1 ∷ x2 ∷ x3 ∷ x4 ∷ []) (y ∷ y1 ∷ y2 ∷ y3 ∷ y4 ∷ []) bx by same few e =
    let a = below (x ∷ x1 ∷ x2 ∷ x3 ∷ x4 ∷ []) bx in
    let b = below (y ∷ y1 ∷ y2 ∷ y3 ∷ y4 ∷ []) by in
    let p0 : x ≡ y = omega (arith, a 0, a 1, a 2, a 3, a 4, b 0, b 1, b 2, b 3, b 4, e) in
    let p1 : x1 ≡ y1 = omega (arith, a 0, a 1, a 2, a 3, a 4, b 0, b 1, b 2, b 3, b 4, e) in
    let p2 : x2 ≡ y2 = omega (arith, a 0, a 1, a 2, a 3, a 4, b 0, b 1, b 2, b 3, b 4, e) in
    let p3 : x3 ≡ y3 = omega (arith, a 0, a 1, a 2, a 3, a 4, b 0, b 1, b 2, b 3, b 4, e) in
    let p4 : x4 ≡ y4 = omega (arith, a 0, a 1, a 2, a 3, a 4, b 0, b 1, b 2, b 3, b 4, e) in
    rw (p0, p1, p2, p3, p4) refl
ends-tell (x ∷ x1 ∷ x2 ∷ x3 ∷ x4 ∷ x5 ∷ []) (y ∷ y1 ∷ y2 ∷ y3 ∷ y4 ∷ y5 ∷ []) bx by same few e =
    let a = below (x ∷ x1 ∷ x2 ∷ x3 ∷ x4 ∷ x5 ∷ []) bx in
    let b = below (y ∷ y1 ∷ y2 ∷ y3 ∷ y4 ∷ y5 ∷ []) by in
    let p0 : x ≡ y = omega (arith, a 0, a 1, a 2, a 3, a 4, a 5, b 0, b 1, b 2, b 3, b 4, b 5, e) in
    let p1 : x1 ≡ y1 = omega (arith, a 0, a 1, a 2, a 3, a 4, a 5, b 0, b 1, b 2, b 3, b 4, b 5, e) in
    let p2 : x2 ≡ y2 = omega (arith, a 0, a 1, a 2, a 3, a 4, a 5, b 0, b 1, b 2, b 3, b 4, b 5, e) in
    let p3 : x3 ≡ y3 = omega (arith, a 0, a 1, a 2, a 3, a 4, a 5, b 0, b 1, b 2, b 3, b 4, b 5, e) in
    let p4 : x4 ≡ y4 = omega (arith, a 0, a 1, a 2, a 3, a 4, a 5, b 0, b 1, b 2, b 3, b 4, b 5, e) in
    let p5 : x5 ≡ y5 = omega (arith, a 0, a 1, a 2, a 3, a 4, a 5, b 0, b 1, b 2, b 3, b 4, b 5, e) in
    rw (p0, p1, p2, p3, p4, p5) refl
ends-tell (x ∷ x1 ∷ x2 ∷ x3 ∷ x4 ∷ x5 ∷ x6 ∷ []) (y ∷ y1 ∷ y2 ∷ y3 ∷ y4 ∷ y5 ∷ y6 ∷ []) bx by same few e =
    let a = below (x ∷ x1 ∷ x2 ∷ x3 ∷ x4 ∷ x5 ∷ x6 ∷ []) bx in
    let b = below (y ∷ y1 ∷ y2 ∷ y3 ∷ y4 ∷ y5 ∷ y6 ∷ []) by in
    let p0 : x ≡ y = omega (arith, a 0, a 1, a 2, a 3, a 4, a 5, a 6, b 0, b 1, b 2, b 3, b 4, b 5, b 6, e) in
    let p1 : x1 ≡ y1 = omega (arith, a 0, a 1, a 2, a 3, a 4, a 5, a 6, b 0, b 1, b 2, b 3, b 4, b 5, b 6, e) in
    let p2 : x2 ≡ y2 = omega (arith, a 0, a 1, a 2, a 3, a 4, a 5, a 6, b 0, b 1, b 2, b 3, b 4, b 5, b 6, e) in
    let p3 : x3 ≡ y3 = omega (arith, a 0, a 1, a 2, a 3, a 4, a 5, a 6, b 0, b 1, b 2, b 3, b 4, b 5, b 6, e) in
    let p4 : x4 ≡ y4 = omega (arith, a 0, a 1, a 2, a 3, a 4, a 5, a 6, b 0, b 1, b 2, b 3, b 4, b 5, b 6, e) in
    let p5 : x5 ≡ y5 = omega (arith, a 0, a 1, a 2, a 3, a 4, a 5, a 6, b 0, b 1, b 2, b 3, b 4, b 5, b 6, e) in
    let p6 : x6 ≡ y6 = omega (arith, a 0, a 1, a 2, a 3, a 4, a 5, a 6, b 0, b 1, b 2, b 3, b 4, b 5, b 6, e) in
    rw (p0, p1, p2, p3, p4, p5, p6) refl
ends-tell (x ∷ x1 ∷ x2 ∷ x3 ∷ x4 ∷ x5 ∷ x6 ∷ x7 ∷ []) (y ∷ y1 ∷ y2 ∷ y3 ∷ y4 ∷ y5 ∷ y6 ∷ y7 ∷ []) bx by same few e =
    let a = below (x ∷ x1 ∷ x2 ∷ x3 ∷ x4 ∷ x5 ∷ x6 ∷ x7 ∷ []) bx in
    let b = below (y ∷ y1 ∷ y2 ∷ y3 ∷ y4 ∷ y5 ∷ y6 ∷ y7 ∷ []) by in
    let p0 : x ≡ y = omega (arith, a 0, a 1, a 2, a 3, a 4, a 5, a 6, a 7, b 0, b 1, b 2, b 3, b 4, b 5, b 6, b 7, e) in
    let p1 : x1 ≡ y1 = omega (arith, a 0, a 1, a 2, a 3, a 4, a 5, a 6, a 7, b 0, b 1, b 2, b 3, b 4, b 5, b 6, b 7, e) in
    let p2 : x2 ≡ y2 = omega (arith, a 0, a 1, a 2, a 3, a 4, a 5, a 6, a 7, b 0, b 1, b 2, b 3, b 4, b 5, b 6, b 7, e) in
    let p3 : x3 ≡ y3 = omega (arith, a 0, a 1, a 2, a 3, a 4, a 5, a 6, a 7, b 0, b 1, b 2, b 3, b 4, b 5, b 6, b 7, e) in
    let p4 : x4 ≡ y4 = omega (arith, a 0, a 1, a 2, a 3, a 4, a 5, a 6, a 7, b 0, b 1, b 2, b 3, b 4, b 5, b 6, b 7, e) in
    let p5 : x5 ≡ y5 = omega (arith, a 0, a 1, a 2, a 3, a 4, a 5, a 6, a 7, b 0, b 1, b 2, b 3, b 4, b 5, b 6, b 7, e) in
    let p6 : x6 ≡ y6 = omega (arith, a 0, a 1, a 2, a 3, a 4, a 5, a 6, a 7, b 0, b 1, b 2, b 3, b 4, b 5, b 6, b 7, e) in
    let p7 : x7 ≡ y7 = omega (arith, a 0, a 1, a 2, a 3, a 4, a 5, a 6, a 7, b 0, b 1, b 2, b 3, b 4, b 5, b 6, b 7, e) in
    rw (p0, p1, p2, p3, p4, p5, p6, p7) refl
ends-tell xs ys bx by same few e = absurd (omega (arith, same, few))
