-- General laws of sums, searches and counts.
use Rattle.std.proofs.Common.{◌≡◌, ℕ, zero, suc, ◌+◌, ◌<◌, ◌≤◌, Bool, true, false, not, ◌||◌, List, [], ◌∷◌, length, map, filter, count_by, Option, Some, None, is_some, ⊎_elim, refl, ap, ◌∙◌, arith, if◌then◌else◌}
use Rattle.std.specs.List.{sum_by, range_with_len, find, list_any}
use Rattle.std.specs.Option.{option_map}
use Rattle.std.proofs.lemmas.Bool.{cases_Bool, cases_eq, false≢true}
use Rattle.std.proofs.lemmas.List.Sums.{sum_by-cons}
use Rattle.im_tables.proofs.Tests.{or-false}

sum_by-same : (f g : ℕ → ℕ) (a n : ℕ) → ((k : ℕ) → a ≤ k → g k ≡ f k) → sum_by g (range_with_len a n) ≡ sum_by f (range_with_len a n)
sum_by-same f g a zero same = refl
sum_by-same f g a (suc n) same =
    let rest = sum_by-same f g (a + 1) n (λ k after. same k (omega arith)) in
    let here : g a ≡ f a = same a (omega arith) in
    omega (arith, sum_by-cons g a (range_with_len (a + 1) n), sum_by-cons f a (range_with_len (a + 1) n), rest, here)

-- equal terms, equal sums
pub sum_by-equal : (f g : ℕ → ℕ) (xs : List ℕ) → ((x : ℕ) → f x ≡ g x) → sum_by g xs ≡ sum_by f xs
sum_by-equal f g [] same = refl
sum_by-equal f g (x ∷ xs) same = omega (arith, sum_by-cons f x xs, sum_by-cons g x xs, same x, sum_by-equal f g xs same)

-- a term is part of the sum
pub sum_by-part : (f : ℕ → ℕ) (a n who : ℕ) → a ≤ who → who < a + n → f who ≤ sum_by f (range_with_len a n)
sum_by-part f a zero who from to = absurd (omega arith)
sum_by-part f a (suc n) who from to =
    let sum = sum_by-cons f a (range_with_len (a + 1) n) in
    ⊎_elim (λ (is : a ≡ who).
    let here : f a ≡ f who = ap f is in
    omega (arith, sum, here))
    (λ (apart : a ≡ who → ⊥).
    let later : a + 1 ≤ who = ⊎_elim (λ (is : a ≡ who). absurd (apart is)) (λ (no : a ≡ who → ⊥). omega (arith, no)) (cases_eq a who) in
    omega (arith, sum, sum_by-part f (a + 1) n who later (omega arith)))
    (cases_eq a who)

-- one number has another term now: the sum moves with it
pub sum_by-moves : (f g : ℕ → ℕ) (a n who : ℕ) → a ≤ who → who < a + n → ((other : ℕ) → (other ≡ who → ⊥) → g other ≡ f other) →
    sum_by g (range_with_len a n) + f who ≡ sum_by f (range_with_len a n) + g who
sum_by-moves f g a zero who from to same = absurd (omega arith)
sum_by-moves f g a (suc n) who from to same =
    let gs = sum_by-cons g a (range_with_len (a + 1) n) in
    let fs = sum_by-cons f a (range_with_len (a + 1) n) in
    ⊎_elim (λ (is : a ≡ who).
    let rest = sum_by-same f g (a + 1) n (λ k after. same k (λ (e : k ≡ who). omega arith)) in
    let f_is : f a ≡ f who = ap f is in
    let g_is : g a ≡ g who = ap g is in
    omega (arith, gs, fs, rest, f_is, g_is))
    (λ (apart : a ≡ who → ⊥).
    let later : a + 1 ≤ who = ⊎_elim (λ (is : a ≡ who). absurd (apart is)) (λ (no : a ≡ who → ⊥). omega (arith, no)) (cases_eq a who) in
    let rest = sum_by-moves f g (a + 1) n who later (omega arith) same in
    let here : g a ≡ f a = same a apart in
    omega (arith, gs, fs, rest, here))
    (cases_eq a who)

pub find-none : (p : ℕ → Bool) (a n : ℕ) → ((k : ℕ) → a ≤ k → k < a + n → p k ≡ false) → find p (range_with_len a n) ≡ None
find-none p a zero none = refl
find-none p a (suc n) none = rw (none a (omega arith) (omega arith)) (find-none p (a + 1) n (λ k from to. none k (omega arith) (omega arith)))

pub find-one : (p : ℕ → Bool) (a n who : ℕ) → a ≤ who → who < a + n → p who ≡ true → ((k : ℕ) → k < a + n → (k ≡ who → ⊥) → p k ≡ false) →
    find p (range_with_len a n) ≡ Some who
find-one p a zero who from to here none = absurd (omega arith)
find-one p a (suc n) who from to here none =
    ⊎_elim (λ (is : a ≡ who).
    let found : p a ≡ true = ap p is ∙ here in
    rw found (ap Some is))
    (λ (apart : a ≡ who → ⊥).
    let later : a + 1 ≤ who = ⊎_elim (λ (is : a ≡ who). absurd (apart is)) (λ (no : a ≡ who → ⊥). omega (arith, no)) (cases_eq a who) in
    rw (none a (omega arith) apart) (find-one p (a + 1) n who later (omega arith) here (λ k to off. none k (omega arith) off)))
    (cases_eq a who)

-- what is sought in a list that was mapped

found-map : {X Y : Type 0} (f : X → Y) (b : Bool) (x : X) (rest : Option Y) (left : Option X) → rest ≡ option_map f left →
    (if b then Some (f x) else rest) ≡ option_map f (if b then Some x else left)
found-map f true x rest left same = refl
found-map f false x rest left same = same

pub find-map : {X Y : Type 0} (f : X → Y) (p : Y → Bool) (q : X → Bool) (xs : List X) → ((x : X) → p (f x) ≡ q x) → find p (map f xs) ≡ option_map f (find q xs)
find-map f p q [] same = refl
find-map f p q (x ∷ xs) same = rw (same x) (found-map f (q x) x (find p (map f xs)) (find q xs) (find-map f p q xs same))

found-any : {X : Type 0} (b : Bool) (x : X) (left : Option X) → is_some (if b then Some x else left) ≡ b || is_some left
found-any true x left = refl
found-any false x left = refl

pub is_some-find : {X : Type 0} (p : X → Bool) (xs : List X) → is_some (find p xs) ≡ list_any p xs
is_some-find p [] = refl
is_some-find p (x ∷ xs) = found-any (p x) x (find p xs) ∙ ap (λ (b : Bool). p x || b) (is_some-find p xs)

pub list_any-map : {X Y : Type 0} (f : X → Y) (p : Y → Bool) (q : X → Bool) (xs : List X) → ((x : X) → p (f x) ≡ q x) → list_any p (map f xs) ≡ list_any q xs
list_any-map f p q [] same = refl
list_any-map f p q (x ∷ xs) same = rw (same x) (ap (λ (b : Bool). q x || b) (list_any-map f p q xs same))

pub count_by-map : {X Y : Type 0} (f : X → Y) (p : Y → Bool) (q : X → Bool) (xs : List X) → ((x : X) → p (f x) ≡ q x) → count_by p (map f xs) ≡ count_by q xs
count_by-map f p q [] same = refl
count_by-map f p q (x ∷ xs) same =
    let here : ◌≡◌ {A = ℕ} (if p (f x) then 1 else 0) (if q x then 1 else 0) = ap (λ (b : Bool). if b then 1 else 0) (same x) in
    omega (arith, sum_by-cons (λ y. if p y then 1 else 0) (f x) (map f xs), sum_by-cons (λ y. if q y then 1 else 0) x xs, count_by-map f p q xs same, here)

put-map : {X Y : Type 0} (f : X → Y) (b : Bool) (x : X) (ys : List Y) (xs : List X) → ys ≡ map f xs →
    (if b then f x ∷ ys else ys) ≡ map f (if b then x ∷ xs else xs)
put-map f true x ys xs same = ap (λ l. f x ∷ l) same
put-map f false x ys xs same = same

pub filter-map : {X Y : Type 0} (f : X → Y) (p : Y → Bool) (q : X → Bool) (xs : List X) → ((x : X) → p (f x) ≡ q x) → filter p (map f xs) ≡ map f (filter q xs)
filter-map f p q [] same = refl
filter-map f p q (x ∷ xs) same = rw (same x) (put-map f (q x) x (filter p (map f xs)) (filter q xs) (filter-map f p q xs same))

-- how often a test passes

pub count_by-none : {X : Type 0} (p : X → Bool) (xs : List X) → list_any p xs ≡ false → count_by p xs ≡ 0
count_by-none p [] none = refl
count_by-none p (x ∷ xs) none =
    let here : p x ≡ false = (or-false (p x) (list_any p xs) none).0 in
    let rest = count_by-none p xs ((or-false (p x) (list_any p xs) none).1) in
    let term : ◌≡◌ {A = ℕ} (if p x then 1 else 0) 0 = ap (λ (b : Bool). if b then 1 else 0) here in
    omega (arith, sum_by-cons (λ y. if p y then 1 else 0) x xs, rest, term)

pub count_by-some : {X : Type 0} (p : X → Bool) (xs : List X) → list_any p xs ≡ true → 1 ≤ count_by p xs
count_by-some p [] some = absurd (false≢true some)
count_by-some p (x ∷ xs) some =
    let sum = sum_by-cons (λ y. if p y then 1 else 0) x xs in
    ⊎_elim (λ (here : p x ≡ true).
    let term : ◌≡◌ {A = ℕ} (if p x then 1 else 0) 1 = ap (λ (b : Bool). if b then 1 else 0) here in
    omega (arith, sum, term))
    (λ (off : p x ≡ false).
    let rest : list_any p xs ≡ true = rw off at some in
    omega (arith, sum, count_by-some p xs rest))
    (cases_Bool (p x))

count-kept : (b c : Bool) (n m : ℕ) → m ≤ n → (if b then (if c then 1 else 0) + m else m) ≤ (if c then 1 else 0) + n
count-kept true c n m below = omega (arith, below)
count-kept false c n m below = omega (arith, below)

count-put : {X : Type 0} (p : X → Bool) (b : Bool) (x : X) (xs : List X) →
    count_by p (if b then x ∷ xs else xs) ≡ (if b then (if p x then 1 else 0) + count_by p xs else count_by p xs)
count-put p true x xs = sum_by-cons (λ y. if p y then 1 else 0) x xs
count-put p false x xs = refl

-- a filter does not raise a count
pub count_by-filter : {X : Type 0} (p q : X → Bool) (xs : List X) → count_by p (filter q xs) ≤ count_by p xs
count_by-filter p q [] = omega arith
count_by-filter p q (x ∷ xs) =
    rw (count-put p (q x) x (filter q xs), sum_by-cons (λ y. if p y then 1 else 0) x xs)
    (count-kept (q x) (p x) (count_by p xs) (count_by p (filter q xs)) (count_by-filter p q xs))

kept-length : {X : Type 0} (b : Bool) (x : X) (xs : List X) (n : ℕ) → length (if not b then x ∷ xs else xs) + ((if b then 1 else 0) + n) ≡ length xs + n + 1
kept-length true x xs n = omega arith
kept-length false x xs n = omega arith

-- a filter keeps what the count leaves
pub length-filter-not : {X : Type 0} (p : X → Bool) (xs : List X) → length (filter (λ x. not (p x)) xs) + count_by p xs ≡ length xs
length-filter-not p [] = refl
length-filter-not p (x ∷ xs) =
    let here = kept-length (p x) x (filter (λ y. not (p y)) xs) (count_by p xs) in
    omega (arith, sum_by-cons (λ y. if p y then 1 else 0) x xs, here, length-filter-not p xs)
