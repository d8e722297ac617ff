-- The lines of a generated script, one piece after another.
use Prim.Native.Nat.{zero, suc}
use Rattle.std.proofs.Common.{◌≡◌, ◌∷◌, ◌++◌, ◌+◌, ◌-◌, ◌≤◌, ◌∙◌, [], ℕ, List, length, take, drop, map, refl, sym, ap, arith, append_assoc, append-nil, codes}
use Rattle.std.specs.Prelude.{flat_map, min}
use Rattle.std.specs.List.{range_with_len}
use Rattle.std.proofs.lemmas.List.{length-drop}
use Rattle.std.proofs.lemmas.List.Concat.{flat_map-append}
use Rattle.im_script.specs.Generated.{order_row, insert_line, some_pieces, pieces, transaction, order_lines, opening, closing, ended, text_of, generated}
use Rattle.im_script.specs.inner.Putting.{further_row, further_rows, insert_text, inserts_text, transaction_text, orders_text}

-- ---- numbers in a row

range-more : (a n : ℕ) → range_with_len a (n + 1) ≡ range_with_len a n ++ (a + n) ∷ []
range-more a zero = ap (λ (x : ℕ). x ∷ []) (let e : a ≡ a + 0 = omega arith in e)
range-more a (suc n) =
    let next : suc n + 1 ≡ suc (n + 1) = omega arith in
    let last : a + 1 + n ≡ a + suc n = omega arith in
    ap (range_with_len a) next
    ∙ ap (λ (xs : List ℕ). a ∷ xs) (range-more (a + 1) n ∙ ap (λ (x : ℕ). range_with_len (a + 1) n ++ x ∷ []) last)

take-range : (size n a k : ℕ) → k ≡ min n size → take size (range_with_len a n) ≡ range_with_len a k
take-range zero n a k is = ap (range_with_len a) (let e : 0 ≡ k = omega (arith, is) in e)
take-range (suc size) zero a k is = ap (range_with_len a) (let e : 0 ≡ k = omega (arith, is) in e)
take-range (suc size) (suc n) a zero is = absurd (omega (arith, is))
take-range (suc size) (suc n) a (suc k) is =
    ap (λ (xs : List ℕ). a ∷ xs) (take-range size n (a + 1) k (omega (arith, is)))

drop-range : (size n a k : ℕ) → k ≡ min n size → drop size (range_with_len a n) ≡ range_with_len (a + k) (n - k)
drop-range zero n a k is =
    let start : a ≡ a + k = omega (arith, is) in
    let left : n ≡ n - k = omega (arith, is) in
    ap (λ (x : ℕ). range_with_len x n) start ∙ ap (range_with_len (a + k)) left
drop-range (suc size) zero a k is = ap (range_with_len (a + k)) (let e : 0 ≡ 0 - k = omega arith in e)
drop-range (suc size) (suc n) a zero is = absurd (omega (arith, is))
drop-range (suc size) (suc n) a (suc k) is =
    let start : a + 1 + k ≡ a + suc k = omega arith in
    let left : n - k ≡ suc n - suc k = omega arith in
    drop-range size n (a + 1) k (omega (arith, is))
    ∙ ap (λ (x : ℕ). range_with_len x (n - k)) start ∙ ap (range_with_len (a + suc k)) left

-- the row of one order more
pub further-more : (seed first place : ℕ)
    → further_rows seed first (place + 1) ≡ further_rows seed first place ++ further_row seed (first + place)
further-more seed first place =
    ap (flat_map (further_row seed)) (range-more first place)
    ∙ flat_map-append (further_row seed) (range_with_len first place) ((first + place) ∷ [])
    ∙ ap (λ (xs : List ℕ). further_rows seed first place ++ xs) (append-nil (further_row seed (first + place)))

-- ---- pieces

-- any number of pieces serves that is no less than the items
enough : {X : Type 0} (size : ℕ) → 1 ≤ size → (most more : ℕ) (xs : List X) → length xs ≤ most → length xs ≤ more
    → some_pieces most size xs ≡ some_pieces more size xs
enough size one zero zero xs in_most in_more = refl
enough size one zero (suc more) [] in_most in_more = refl
enough size one zero (suc more) (x ∷ xs) in_most in_more = absurd (omega (arith, in_most))
enough size one (suc most) zero [] in_most in_more = refl
enough size one (suc most) zero (x ∷ xs) in_most in_more = absurd (omega (arith, in_more))
enough size one (suc most) (suc more) [] in_most in_more = refl
enough size one (suc most) (suc more) (x ∷ xs) in_most in_more =
    let long = length-drop size (x ∷ xs) in
    ap (λ ps. take size (x ∷ xs) ∷ ps)
    (enough size one most more (drop size (x ∷ xs)) (omega (arith, long, one, in_most)) (omega (arith, long, one, in_more)))

-- the first piece, and then the others
first-piece : {X : Type 0} (size : ℕ) → 1 ≤ size → (x : X) (xs : List X)
    → pieces size (x ∷ xs) ≡ take size (x ∷ xs) ∷ pieces size (drop size (x ∷ xs))
unfolding pieces
first-piece size one x xs =
    let rest = drop size (x ∷ xs) in
    let long = length-drop size (x ∷ xs) in
    ap (λ ps. take size (x ∷ xs) ∷ ps) (enough size one (length xs) (length rest) rest (omega (arith, long, one)) (omega arith))

next-piece : (size a n k : ℕ) → 1 ≤ size → 1 ≤ n → k ≡ min n size
    → pieces size (range_with_len a n) ≡ range_with_len a k ∷ pieces size (range_with_len (a + k) (n - k))
next-piece size a zero k one some is = absurd (omega (arith, some))
next-piece size a (suc n) k one some is =
    first-piece size one a (range_with_len (a + 1) n)
    ∙ ap (λ (xs : List ℕ). xs ∷ pieces size (drop size (range_with_len a (suc n)))) (take-range size (suc n) a k is)
    ∙ ap (λ (xs : List ℕ). range_with_len a k ∷ pieces size xs) (drop-range size (suc n) a k is)

-- ---- the lines of orders

pub inserts-next : (seed a n k : ℕ) → 1 ≤ n → k ≡ min n 100
    → inserts_text seed a n ≡ insert_text seed a k ++ inserts_text seed (a + k) (n - k)
inserts-next seed a n k some is =
    ap (λ (ps : List (List ℕ)). text_of (map (insert_line seed) ps)) (next-piece 100 a n k (omega arith) some is)

pub inserts-none : (seed a : ℕ) → inserts_text seed a 0 ≡ []
unfolding pieces
inserts-none seed a = refl

pub orders-next : (seed a n k : ℕ) → 1 ≤ n → k ≡ min n 50000
    → orders_text seed a n ≡ transaction_text seed a k ++ orders_text seed (a + k) (n - k)
orders-next seed a n k some is =
    ap (λ (ps : List (List ℕ)). text_of (flat_map (transaction seed) ps)) (next-piece 50000 a n k (omega arith) some is)
    ∙ flat_map-append ended (transaction seed (range_with_len a k)) (order_lines seed (range_with_len (a + k) (n - k)))

pub orders-none : (seed a : ℕ) → orders_text seed a 0 ≡ []
unfolding pieces
orders-none seed a = refl

-- what was put, and what is left to put
pub puts-next : (old now start all next rest : List ℕ) → old ++ all ≡ start → all ≡ next ++ rest → now ≡ old ++ next → now ++ rest ≡ start
puts-next old now start all next rest before is put =
    ap (λ (t : List ℕ). t ++ rest) put ∙ append_assoc old next rest ∙ ap (λ (t : List ℕ). old ++ t) (sym is) ∙ before

-- nothing is left
pub puts-all : (now start rest : List ℕ) → now ++ rest ≡ start → rest ≡ [] → now ≡ start
puts-all now start rest before none =
    sym (append-nil now) ∙ ap (λ (t : List ℕ). now ++ t) (sym none) ∙ before

-- a line of orders: its first one, the others, and its end
pub insert-parts : (seed a n : ℕ) (old : List ℕ) → 1 ≤ n
    → (((old ++ codes "1> INSERT INTO ORDERS VALUES ") ++ order_row seed a) ++ further_rows seed (a + 1) (n - 1)) ++ 10 ∷ []
    ≡ old ++ insert_text seed a n
insert-parts seed a zero old some = absurd (omega (arith, some))
insert-parts seed a (suc n) old some =
    let word = codes "1> INSERT INTO ORDERS VALUES " in
    let left : suc n - 1 ≡ n = omega arith in
    let row = order_row seed a in
    let rest = further_rows seed (a + 1) n in
    ap (λ (m : ℕ). (((old ++ word) ++ row) ++ further_rows seed (a + 1) m) ++ 10 ∷ []) left
    ∙ append_assoc ((old ++ word) ++ row) rest (10 ∷ []) ∙ append_assoc (old ++ word) row (rest ++ 10 ∷ [])
    ∙ append_assoc old word (row ++ (rest ++ 10 ∷ []))
    ∙ ap (λ (t : List ℕ). old ++ (word ++ t)) (sym (append_assoc row rest (10 ∷ [])))

-- lines of orders, and their commit
pub commit-parts : (seed a n : ℕ) (old : List ℕ) → (old ++ inserts_text seed a n) ++ codes "1> COMMIT\n" ≡ old ++ transaction_text seed a n
commit-parts seed a n old =
    append_assoc old (inserts_text seed a n) (codes "1> COMMIT\n")
    ∙ ap (λ (t : List ℕ). old ++ t)
    (sym (flat_map-append ended (map (insert_line seed) (pieces 100 (range_with_len a n))) (codes "1> COMMIT" ∷ [])))

-- the whole script
pub whole-script : (seed rows : ℕ) → generated seed rows ≡ ended opening ++ (orders_text seed 1 rows ++ text_of closing)
unfolding generated
whole-script seed rows =
    ap (λ (t : List ℕ). ended opening ++ t) (flat_map-append ended (order_lines seed (range_with_len 1 rows)) closing)
