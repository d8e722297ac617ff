-- Groups of values by the code of their keys.
use Rattle.std.proofs.Common.{◌≡◌, ◌≢◌, ℕ, zero, suc, ◌+◌, ◌-◌, ◌<◌, ◌≤◌, min, Bool, true, false, cond, eqb, List, [], ◌∷◌, ◌++◌, length, get_or, set, take, drop, zip, fold, replicate, All, ⊎_elim, sym, refl, ap, subst, ◌∙◌, arith, eq-eqb, length-take, length-drop, length-append, get_or-take, get_or-drop}
use Rattle.std.specs.Ordering.{is_eq}
use Rattle.std.proofs.lemmas.Bool.{cases_lt, cases_eq, ne_eqb}
use Rattle.std.proofs.lemmas.List.{get_or-set_same, get_or-set_other, set_past, get_or_past, get_or-replicate, length-replicate, get_or_default, get_or_append_left, get_or_at, same_lists}
use Rattle.std.proofs.lemmas.List.Elements.{All-head, All-tail}
use Rattle.std.proofs.Math.ListN.{length-set}
use Rattle.im_values.specs.declared.content.Content.{Content as Value}
use Rattle.im_values.specs.declared.content.Content.TheVariants.{Null}
use Rattle.im_values.specs.Order.{order, is_null}
use Rattle.im_codes.specs.Dictionary.{coded, values_at, IsDictionary, StandAt}
use Rattle.im_codepred.specs.declared.tally.Tally.{Tally}
use Rattle.im_codepred.specs.Tallies.{chosen, beside, chosen_with, AreTallies}
use Rattle.im_codepred.specs.inner.Tallying.{TotalsOf, keyed, no_totals, with_value, with_pair, Shows, ShowEach, ShowEachFor}
use Rattle.im_codepred.proofs.CountLemmas.{same-codes}
use Rattle.im_codepred.proofs.TallyLemmas.{chosen-values, chosen-all, values-tally-for}

-- ---- pairs

pub length-zip : {A B : Type 0} (xs : List A) (ys : List B) → length xs ≤ length ys → length (zip xs ys) ≡ length xs
length-zip [] ys few = refl
length-zip (x ∷ xs) [] few = absurd (omega (arith, few))
length-zip (x ∷ xs) (y ∷ ys) few = omega (arith, length-zip xs ys (omega (arith, few)))

pub get_or-zip : {A B : Type 0} (xs : List A) (ys : List B) (k : ℕ) (a : A) (b : B) → k < length xs → length xs ≤ length ys →
    get_or (zip xs ys) k (a, b) ≡ (get_or xs k a, get_or ys k b)
get_or-zip [] ys k a b inside few = absurd (omega (arith, inside))
get_or-zip (x ∷ xs) [] k a b inside few = absurd (omega (arith, few))
get_or-zip (x ∷ xs) (y ∷ ys) zero a b inside few = refl
get_or-zip (x ∷ xs) (y ∷ ys) (suc k) a b inside few = get_or-zip xs ys k a b (omega (arith, inside)) (omega (arith, few))

pub length-keyed : (keys : List ℕ) (vs : List Value) → length (keyed keys vs) ≡ length keys
length-keyed [] vs = refl
length-keyed (key ∷ keys) [] = omega (arith, length-keyed keys [])
length-keyed (key ∷ keys) (v ∷ vs) = omega (arith, length-keyed keys vs)

pub get_or-keyed : (keys : List ℕ) (vs : List Value) (k a : ℕ) (b : Value) → k < length keys → get_or (keyed keys vs) k (a, b) ≡ (get_or keys k a, get_or vs k Null)
get_or-keyed [] vs k a b inside = absurd (omega (arith, inside))
get_or-keyed (key ∷ keys) [] zero a b inside = refl
get_or-keyed (key ∷ keys) [] (suc k) a b inside = get_or-keyed keys [] k a b (omega (arith, inside))
get_or-keyed (key ∷ keys) (v ∷ vs) zero a b inside = refl
get_or-keyed (key ∷ keys) (v ∷ vs) (suc k) a b inside = get_or-keyed keys vs k a b (omega (arith, inside))

pub zip-none : {A B : Type 0} (xs : List A) → zip {K = A} {X = B} xs [] ≡ []
zip-none [] = refl
zip-none (x ∷ xs) = refl

pub chosen-zip : {A B : Type 0} (mask : List Bool) (xs : List A) (ys : List B) → chosen mask (zip xs ys) ≡ zip (chosen mask xs) (chosen mask ys)
chosen-zip [] xs ys = refl
chosen-zip (b ∷ mask) [] ys = refl
chosen-zip {A = A} {B = B} (b ∷ mask) (x ∷ xs) [] = sym (zip-none {A = A} {B = B} (chosen (b ∷ mask) (x ∷ xs)))
chosen-zip (true ∷ mask) (x ∷ xs) (y ∷ ys) = ap (λ l. (x, y) ∷ l) (chosen-zip mask xs ys)
chosen-zip (false ∷ mask) (x ∷ xs) (y ∷ ys) = chosen-zip mask xs ys

pair-read : (pairs : List (ℕ × Value)) (k : ℕ) (d : ℕ × Value) (a b : ℕ) (v w : Value) → get_or pairs k d ≡ (a, v) → a ≡ b → v ≡ w → get_or pairs k d ≡ (b, w)
pair-read pairs k d a b v w is key value = is ∙ (ap (λ x. (x, v)) key ∙ ap (λ y. (b, y)) value)

-- the pairs of 64 positions
pub pairs-read : (keys : List ℕ) (column values : List Value) (first : ℕ) → length keys ≡ length column → first < length keys →
    ((k : ℕ) → k < 64 → get_or values k Null ≡ get_or column (first + k) Null) →
    keyed (take 64 (drop first keys)) values ≡ take 64 (drop first (zip keys column))
pairs-read keys column values first same inside read =
    let part = take 64 (drop first keys) in
    let size : length part ≡ min (length keys - first) 64 = omega (arith, length-take 64 (drop first keys), length-drop first keys) in
    let fits : length keys ≤ length column = omega (arith, same) in
    let pairs = length-keyed part values in
    let all = length-zip keys column fits in
    same_lists (keyed part values) (take 64 (drop first (zip keys column)))
    (omega (arith, pairs, size, all, length-take 64 (drop first (zip keys column)), length-drop first (zip keys column))) (λ k (d : ℕ × Value) h.
    let low : k < length part = omega (arith, pairs, h) in
    let below : k < 64 = omega (arith, low, size) in
    let within : first + k < length keys = omega (arith, low, size) in
    let key : get_or part k d.0 ≡ get_or keys (first + k) d.0 = get_or-take 64 (drop first keys) k d.0 below ∙ get_or-drop first keys k d.0 in
    let value : get_or values k Null ≡ get_or column (first + k) d.1 =
    read k below ∙ get_or_default column (first + k) Null d.1 (omega (arith, within, same)) in
    let here : ℕ × Value = (get_or keys (first + k) d.0, get_or column (first + k) d.1) in
    let left : get_or (keyed part values) k d ≡ here =
    pair-read (keyed part values) k d _ _ _ _ (get_or-keyed part values k d.0 d.1 low) key value in
    let right : get_or (take 64 (drop first (zip keys column))) k d ≡ here =
    get_or-take 64 (drop first (zip keys column)) k d below
    ∙ (get_or-drop first (zip keys column) k d ∙ get_or-zip keys column (first + k) d.0 d.1 within fits) in
    left ∙ sym right)

-- ---- groups

one-or-none : (b : Bool) → cond b 0 1 ≤ 1
one-or-none true = omega arith
one-or-none false = omega arith

pair-at : (groups : List TotalsOf) (x : ℕ) (v : Value) (key : ℕ) →
    ((get_or groups key no_totals).values ≤ (get_or (with_pair groups (x, v)) key no_totals).values)
    × ((get_or (with_pair groups (x, v)) key no_totals).values ≤ (get_or groups key no_totals).values + 1)
pair-at groups x v key =
    let more = with_value (get_or groups x no_totals) v in
    ⊎_elim (λ (h : key ≡ x).
    ⊎_elim (λ (inside : x < length groups).
    rw (h, get_or-set_same groups x more no_totals inside) (omega arith, omega (arith, one-or-none (is_null v))))
    (λ (past : length groups ≤ x). rw (set_past groups x more past) (omega arith, omega arith))
    (cases_lt x (length groups)))
    (λ (h : key ≢ x). rw (get_or-set_other groups x key more no_totals h) (omega arith, omega arith))
    (cases_eq key x)

pub groups-grow : (groups : List TotalsOf) (pairs : List (ℕ × Value)) (key : ℕ) →
    ((get_or groups key no_totals).values ≤ (get_or (fold with_pair groups pairs) key no_totals).values)
    × ((get_or (fold with_pair groups pairs) key no_totals).values ≤ (get_or groups key no_totals).values + length pairs)
groups-grow groups [] key = (omega arith, omega arith)
groups-grow groups (p ∷ pairs) key =
    let here = pair-at groups p.0 p.1 key in
    let rest = groups-grow (with_pair groups p) pairs key in
    (omega (arith, here.0, rest.0), omega (arith, here.1, rest.1))

pub length-groups : (groups : List TotalsOf) (pairs : List (ℕ × Value)) → length (fold with_pair groups pairs) ≡ length groups
length-groups groups [] = refl
length-groups groups (p ∷ pairs) = length-groups (with_pair groups p) pairs ∙ length-set groups p.0 (with_value (get_or groups p.0 no_totals) p.1)

-- one value is put into its group
pub pair-put : (groups : List TotalsOf) (key : ℕ) (d old new : TotalsOf) (v read : Value) (p : ℕ × Value) → key < length groups → old ≡ get_or groups key d →
    read ≡ v → new ≡ with_value old read → p ≡ (key, v) → set groups key new ≡ with_pair groups p
pair-put groups key d old new v read p inside is same put pair =
    let here : old ≡ get_or groups key no_totals = is ∙ get_or_default groups key d no_totals inside in
    ap (set groups key) (put ∙ (ap (λ t. with_value t read) here ∙ ap (with_value (get_or groups key no_totals)) same)) ∙ ap (with_pair groups) (sym pair)

-- the values of one key
abbrev of_key : ℕ → List (ℕ × Value) → List Value
of_key key [] = []
of_key key (p ∷ pairs) = cond (eqb p.0 key) (p.1 ∷ of_key key pairs) (of_key key pairs)

group-from : (groups : List TotalsOf) (pairs : List (ℕ × Value)) (key : ℕ) → key < length groups →
    get_or (fold with_pair groups pairs) key no_totals ≡ fold with_value (get_or groups key no_totals) (of_key key pairs)
group-from groups [] key inside = refl
group-from groups (p ∷ pairs) key inside =
    let more = with_value (get_or groups p.0 no_totals) p.1 in
    let rest = group-from (with_pair groups p) pairs key (omega (arith, inside, length-set groups p.0 more)) in
    rest ∙ ⊎_elim (λ (h : key ≡ p.0).
    let within : p.0 < length groups = omega (arith, inside, h) in
    let now : get_or (with_pair groups p) key no_totals ≡ with_value (get_or groups key no_totals) p.1 =
    ap (λ k. get_or (with_pair groups p) k no_totals) h
    ∙ (get_or-set_same groups p.0 more no_totals within ∙ ap (λ k. with_value (get_or groups k no_totals) p.1) (sym h)) in
    rw (now, eq-eqb p.0 key (sym h)) refl)
    (λ (h : key ≢ p.0). rw (get_or-set_other groups p.0 key more no_totals h, ne_eqb p.0 key (λ e. h (sym e))) refl)
    (cases_eq key p.0)

keyed-values : (dict : List Value) (codes : List ℕ) (vs : List Value) (code : ℕ) → IsDictionary dict → All (λ c. c < length (coded dict)) codes →
    code < length (coded dict) → of_key code (zip codes vs) ≡ beside (get_or (coded dict) code Null) (values_at (coded dict) codes) vs
keyed-values dict [] vs code is all inside = refl
keyed-values dict (x ∷ codes) [] code is all inside = refl
keyed-values dict (x ∷ codes) (v ∷ vs) code is all inside =
    let key = get_or (coded dict) code Null in
    let here = same-codes dict x code is (All-head (λ c. c < length (coded dict)) x codes all) inside in
    let rest = keyed-values dict codes vs code is (All-tail (λ c. c < length (coded dict)) x codes all) inside in
    ap (λ b. cond b (v ∷ of_key code (zip codes vs)) (of_key code (zip codes vs))) here
    ∙ ap (λ l. cond (is_eq (order (get_or (coded dict) x Null) key)) (v ∷ l) l) rest

-- nothing is in a group yet
pub none-grouped : (groups : List TotalsOf) (key : ℕ) → groups ≡ replicate (length groups) no_totals → (get_or groups key no_totals).values ≤ 0
none-grouped groups key none =
    let nothing_at : get_or groups key no_totals ≡ no_totals =
    ap (λ l. get_or l key no_totals) none
    ∙ ⊎_elim (λ (h : key < length groups). get_or-replicate (length groups) key no_totals no_totals h)
    (λ (h : length groups ≤ key).
    get_or_past (replicate (length groups) no_totals) key no_totals (omega (arith, length-replicate {A = TotalsOf} (length groups) no_totals, h)))
    (cases_lt key (length groups)) in
    omega (arith, ap (λ t. t.values) nothing_at)

-- the tallies of the groups
pub groups-shown : (ends : Bool) (dict keys column : List Value) (mask : List Bool) (codes : List ℕ) (groups : List TotalsOf) (tallies : List Tally) (most : ℕ) →
    IsDictionary dict → most ≡ length (coded dict) → groups ≡ fold with_pair (replicate most no_totals) (chosen mask (zip codes column)) →
    ShowEachFor ends groups tallies → StandAt keys (coded dict) codes → AreTallies ends mask keys column (coded dict) tallies
groups-shown ends dict keys column mask codes groups tallies most is long are show stand =
    let none = replicate most no_totals in
    let pairs = chosen mask (zip codes column) in
    let size : length groups ≡ length (coded dict) = ap length are ∙ (length-groups none pairs ∙ (length-replicate {A = TotalsOf} most no_totals ∙ long)) in
    record {
      size = show.size ∙ size;
      each = λ code d inside.
          let key = get_or (coded dict) code Null in
          let within : code < length none = omega (arith, length-replicate {A = TotalsOf} most no_totals, long, inside) in
          let begins = get_or-replicate most code no_totals no_totals (omega (arith, long, inside)) in
          let values : of_key code pairs ≡ chosen_with key mask keys column =
          ap (of_key code) (chosen-zip mask codes column)
          ∙ (keyed-values dict (chosen mask codes) (chosen mask column) code is (chosen-all (length (coded dict)) mask codes stand.inside) inside
          ∙ ap (λ l. beside key l (chosen mask column)) (chosen-values (coded dict) mask codes ∙ ap (chosen mask) stand.same)) in
          values-tally-for ends (chosen_with key mask keys column) (get_or groups code no_totals) (get_or tallies code d)
          (ap (λ l. get_or l code no_totals) are
          ∙ (group-from none pairs code within ∙ (ap (λ t. fold with_value t (of_key code pairs)) begins ∙ ap (fold with_value no_totals) values)))
          (show.each code d (omega (arith, size, inside)));
    }

-- one group more is shown
pub show-more : (groups : List TotalsOf) (i : ℕ) (group : TotalsOf) (tallies : List Tally) (tally : Tally) → i < length groups →
    group ≡ get_or groups i group → Shows group tally → ShowEach (take i groups) tallies → ShowEach (take (i + 1) groups) (tallies ++ tally ∷ [])
show-more groups i group tallies tally inside read shows so_far =
    let size : length tallies ≡ i = omega (arith, so_far.size, length-take i groups, inside) in
    let more : length (take (i + 1) groups) ≡ i + 1 = omega (arith, length-take (i + 1) groups, inside) in
    record {
      size = omega (arith, length-append tallies (tally ∷ []), size, more);
      each = λ k d h.
          let next : get_or (take (i + 1) groups) k no_totals ≡ get_or groups k no_totals = get_or-take (i + 1) groups k no_totals (omega (arith, more, h)) in
          ⊎_elim (λ (low : k < i).
          let here = so_far.each k d (omega (arith, length-take i groups, low, inside)) in
          let same : get_or (take i groups) k no_totals ≡ get_or (take (i + 1) groups) k no_totals = get_or-take i groups k no_totals low ∙ sym next in
          let kept : get_or (tallies ++ tally ∷ []) k d ≡ get_or tallies k d = get_or_append_left tallies (tally ∷ []) d k (omega (arith, size, low)) in
          let P : TotalsOf → Type 0 = λ t. Shows t (get_or (tallies ++ tally ∷ []) k d) in
          let Q : Tally → Type 0 = λ t. Shows (get_or (take i groups) k no_totals) t in
          subst P same (subst Q (sym kept) here))
          (λ (high : i ≤ k).
          let is : k ≡ i = omega (arith, more, h, high) in
          let same : group ≡ get_or (take (i + 1) groups) k no_totals =
          read ∙ (get_or_default groups i group no_totals inside ∙ (ap (λ j. get_or groups j no_totals) (sym is) ∙ sym next)) in
          let last : get_or (tallies ++ tally ∷ []) k d ≡ tally = get_or_at tallies tally [] d k (size ∙ sym is) in
          let P : TotalsOf → Type 0 = λ t. Shows t (get_or (tallies ++ tally ∷ []) k d) in
          let Q : Tally → Type 0 = λ t. Shows group t in
          subst P same (subst Q (sym last) shows))
          (cases_lt k i);
    }
