-- How long a generated script is: so that one of 500,000 orders is a script within the limit.
use Prim.Native.Nat.{zero, suc}
use Rattle.std.proofs.Common.{◌≡◌, ◌∷◌, ◌++◌, ◌+◌, ◌-◌, ◌*◌, ◌%◌, ◌<◌, ◌≤◌, ◌∙◌, [], ℕ, List, length, refl, ap, arith, codes, decimal, ⊎_elim}
use Rattle.std.specs.Prelude.{min, slice_index_or}
use Rattle.std.specs.List.{range_with_len}
use Rattle.std.proofs.lemmas.List.{length-append}
use Rattle.std.proofs.lemmas.Fmt.{length-decimal-le}
use Rattle.std.proofs.lemmas.Bool.{cases_lt}
use Rattle.std.proofs.lemmas.Nat.{mod_below}
use Rattle.im_script.specs.Generated.{regions, region, amount, order_row, insert_line, opening, closing, ended, text_of, generated}
use Rattle.im_script.specs.inner.Putting.{further_row, further_rows, insert_text, inserts_text, transaction_text, orders_text}
use Rattle.im_script.proofs.Generating.{inserts-next, inserts-none, orders-next, orders-none, commit-parts, whole-script}

region-short : (r : ℕ) → length (slice_index_or regions r []) ≤ 5
region-short zero = omega arith
region-short (suc zero) = omega arith
region-short (suc (suc zero)) = omega arith
region-short (suc (suc (suc zero))) = omega arith
region-short (suc (suc (suc (suc r)))) = omega arith

-- six texts, one behind another, of which three are as they are
texts-short : (a b d : List ℕ) (l m n : ℕ) → length a ≤ l → length b ≤ m → length d ≤ n
    → length (codes "(" ++ a ++ codes ", '" ++ b ++ codes "', " ++ d ++ codes ")") ≤ l + m + n + 8
texts-short a b d l m n short_a short_b short_d =
    let first = length-append (codes "(" ++ a) (codes ", '") in
    let second = length-append (codes "(" ++ a ++ codes ", '") b in
    let third = length-append (codes "(" ++ a ++ codes ", '" ++ b) (codes "', ") in
    let fourth = length-append (codes "(" ++ a ++ codes ", '" ++ b ++ codes "', ") d in
    let last = length-append (codes "(" ++ a ++ codes ", '" ++ b ++ codes "', " ++ d) (codes ")") in
    omega (arith, first, second, third, fourth, last, short_a, short_b, short_d)

-- the row of an order below a million
row-short : (seed order : ℕ) → order < 1000000 → length (order_row seed order) ≤ 22
row-short seed order few =
    let below = mod_below (37 * order + seed) 1000 (omega arith) in
    texts-short (decimal order) (region order) (decimal (amount seed order)) 6 5 3
    (length-decimal-le 6 order (omega arith) few (omega (arith, few)))
    (region-short (order % 4))
    (length-decimal-le 3 (amount seed order) (omega arith) below (omega (arith, below)))

further-short : (seed a n : ℕ) → a + n ≤ 1000000 → length (further_rows seed a n) ≤ 24 * n
further-short seed a zero few = omega arith
further-short seed a (suc n) few =
    let row = row-short seed a (omega (arith, few)) in
    let rest = further-short seed (a + 1) n (omega (arith, few)) in
    let both = length-append (further_row seed a) (further_rows seed (a + 1) n) in
    omega (arith, row, rest, both)

insert-short : (seed a n : ℕ) → 1 ≤ n → a + n ≤ 1000000 → length (insert_text seed a n) ≤ 24 * n + 30
insert-short seed a zero some few = absurd (omega (arith, some))
insert-short seed a (suc n) some few =
    let row = row-short seed a (omega (arith, few)) in
    let rest = further-short seed (a + 1) n (omega (arith, few)) in
    let both = length-append (order_row seed a) (further_rows seed (a + 1) n) in
    let end = length-append (insert_line seed (range_with_len a (suc n))) (10 ∷ []) in
    omega (arith, row, rest, both, end)

-- a hundredth of a byte more for each row pays for the lines that are whole
inserts-short : (seed most a n : ℕ) → n ≤ most → a + n ≤ 1000000 → length (inserts_text seed a n) * 100 ≤ 2430 * n + 3000
inserts-short seed most a zero in_most few = rw (inserts-none seed a) (omega arith)
inserts-short seed zero a (suc n) in_most few = absurd (omega (arith, in_most))
inserts-short seed (suc most) a (suc n) in_most few =
    let k = min (suc n) 100 in
    let next = inserts-next seed a (suc n) k (omega arith) refl in
    let line = insert-short seed a k (omega arith) (omega (arith, few)) in
    let rest = inserts-short seed most (a + k) (suc n - k) (omega (arith, in_most)) (omega (arith, few)) in
    let both = ap length next ∙ length-append (insert_text seed a k) (inserts_text seed (a + k) (suc n - k)) in
    ⊎_elim
    (λ (part : suc n < 100).
    let left : suc n - k ≡ 0 = omega (arith, part) in
    let none = ap (λ (m : ℕ). length (inserts_text seed (a + k) m)) left ∙ ap length (inserts-none seed (a + k)) in
    omega (arith, part, line, both, none))
    (λ (whole : 100 ≤ suc n). omega (arith, whole, line, rest, both))
    (cases_lt (suc n) 100)

transaction-short : (seed a n : ℕ) → a + n ≤ 1000000 → length (transaction_text seed a n) * 100 ≤ 2430 * n + 4000
transaction-short seed a n few =
    let lines = inserts-short seed n a n (omega arith) few in
    let all = ap length (commit-parts seed a n []) in
    let both = length-append (inserts_text seed a n) (codes "1> COMMIT\n") in
    omega (arith, lines, all, both)

orders-short : (seed most a n : ℕ) → n ≤ most → a + n ≤ 1000000 → length (orders_text seed a n) * 100 ≤ 2431 * n + 4000
orders-short seed most a zero in_most few = rw (orders-none seed a) (omega arith)
orders-short seed zero a (suc n) in_most few = absurd (omega (arith, in_most))
orders-short seed (suc most) a (suc n) in_most few =
    let k = min (suc n) 50000 in
    let next = orders-next seed a (suc n) k (omega arith) refl in
    let lines = transaction-short seed a k (omega (arith, few)) in
    let rest = orders-short seed most (a + k) (suc n - k) (omega (arith, in_most)) (omega (arith, few)) in
    let both = ap length next ∙ length-append (transaction_text seed a k) (orders_text seed (a + k) (suc n - k)) in
    ⊎_elim
    (λ (part : suc n < 50000).
    let left : suc n - k ≡ 0 = omega (arith, part) in
    let none = ap (λ (m : ℕ). length (orders_text seed (a + k) m)) left ∙ ap length (orders-none seed (a + k)) in
    omega (arith, part, lines, both, none))
    (λ (whole : 50000 ≤ suc n). omega (arith, whole, lines, rest, both))
    (cases_lt (suc n) 50000)

-- a script of 500,000 orders is within the limit
pub within : (seed rows : ℕ) → rows ≤ 500000 → length (generated seed rows) ≤ 16777216
within seed rows few =
    let orders = orders-short seed rows 1 rows (omega arith) (omega (arith, few)) in
    let all = ap length (whole-script seed rows) ∙ length-append (ended opening) (orders_text seed 1 rows ++ text_of closing) in
    let rest = length-append (orders_text seed 1 rows) (text_of closing) in
    omega (arith, few, orders, all, rest)
