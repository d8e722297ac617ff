-- Rows that the bits of words choose, and groups that take them.
use Rattle.std.proofs.Common.{◌≡◌, ℕ, zero, suc, ◌+◌, ◌-◌, ◌*◌, ◌/◌, ◌%◌, ◌^◌, ◌<◌, ◌≤◌, min, Bool, true, false, cond, eqb, List, [], ◌∷◌, ◌++◌, length, take, drop, get_or, fold, filter, map, bit_and, Some, sym, refl, ap, subst, ◌∙◌, arith, length-take, length-drop, get_or-take, get_or-drop}
use Rattle.std.specs.Prelude.{slice_get}
use Rattle.std.specs.FinMap as map_of
use Rattle.std.specs.List.{AllByRecursion}
use lib.Bits.{and_step, and_self, and_le_r}
use Rattle.std.proofs.Math.Nat.{pow-suc}
use Rattle.std.specs.Int.{bit_at, div_ceil}
use Rattle.std.proofs.lemmas.List.{drop-drop, take_all, drop_all, length-map, length-append, map-append, append_assoc}
use Rattle.std.proofs.lemmas.List.Elements.{filter-append}
use Rattle.std.proofs.lemmas.List.Sums.{fold-append}
use Rattle.std.proofs.lemmas.Nat.Bits.{bit_at_lowest, bit_at-suc, bit_at-zero}
use Rattle.std.proofs.lemmas.Grind.{div_ceil_times}
use Rattle.im_values.specs.declared.content.Content.{Content as Value}
use Rattle.im_lanes.specs.Masks.{word_of, word_at, words_of}
use Rattle.im_lanes.proofs.ForCallers.{word_of-few, get_or-words_of}
use Rattle.im_syntax.specs.declared.bound.Bound.{Bound}
use Rattle.im_syntax.specs.BoundFits.{BoundFits}
use Rattle.im_group.specs.declared.asked.Asked.{Asked}
use Rattle.im_group.specs.Tallies.{Tallied, wanted, asked_in}
use Rattle.im_group.specs.Partials.{Numbered, Groups, Parts, IsPartOfSoFew, groups_of, held, keyed, keeps, kept, key_of, partial}
use Rattle.im_group.specs.inner.Steps.{GroupsAre}
use Rattle.im_group.specs.inner.Holding.{CanTake, asked_by}
use Rattle.im_group.specs.inner.Chosen.{at_bits, share_of, with_row, with_rows, CanTakeEach, HasSeen, IsLeft, AreLeft}
use Rattle.im_group.proofs.AskedLemmas.{asked_fit}
use Rattle.im_group.proofs.Few.{shorter}
use Rattle.im_group.proofs.GroupSteps.{few_kept, few_so_far, groups-push, held_are}
use Rattle.im_group.proofs.TakingLaws.{groups-are}

-- ---- a word without its lowest bit

cleared-odd : (w : ℕ) → w % 2 ≡ 1 → bit_and w (w - 1) ≡ w / 2 * 2
cleared-odd w odd =
    let half : (w - 1) / 2 ≡ w / 2 = omega arith in
    let even : (w - 1) % 2 ≡ 0 = omega arith in
    and_step w (w - 1)
    ∙ (ap (λ h. bit_and (w / 2) h * 2 + min (w % 2) ((w - 1) % 2)) half
    ∙ (ap (λ h. h * 2 + min (w % 2) ((w - 1) % 2)) (and_self (w / 2)) ∙ (ap (λ r. w / 2 * 2 + min (w % 2) r) even ∙ omega (arith, odd))))

cleared-even : (w : ℕ) → 0 < w → w % 2 ≡ 0 → bit_and w (w - 1) ≡ bit_and (w / 2) (w / 2 - 1) * 2
cleared-even w some even =
    let half : (w - 1) / 2 ≡ w / 2 - 1 = omega arith in
    and_step w (w - 1)
    ∙ (ap (λ h. bit_and (w / 2) h * 2 + min (w % 2) ((w - 1) % 2)) half ∙ omega (arith, even))

-- where a bit is set, there is an element
pub bit-inside : {A : Type 0} (xs : List A) (w k : ℕ) → w < 2 ^ length xs → bit_at w k ≡ 1 → k < length xs
bit-inside [] w k few set =
    let none : w ≡ 0 = omega (arith, few) in
    absurd (omega (arith, sym (bit_at-zero k) ∙ (ap (λ n. bit_at n k) (sym none) ∙ set)))
bit-inside (x ∷ xs) w zero few set = omega arith
bit-inside (x ∷ xs) w (suc k) few set =
    let half : w / 2 < 2 ^ length xs = omega (arith, few, pow-suc 2 (length xs)) in
    let rest = bit-inside xs (w / 2) k half (sym (bit_at-suc w k) ∙ set) in
    omega (arith, rest)

-- the element at the lowest bit, and those at the others
pub at_bits-next : {A : Type 0} (xs : List A) (w k : ℕ) (d : A) → 0 < w → w < 2 ^ length xs → bit_at w k ≡ 1 → ((i : ℕ) → i < k → bit_at w i ≡ 0) →
    at_bits w xs ≡ get_or xs k d ∷ at_bits (bit_and w (w - 1)) xs
at_bits-next [] w k d some few set low = absurd (omega (arith, few))
at_bits-next (x ∷ xs) w zero d some few set low =
    let odd : w % 2 ≡ 1 = sym (bit_at_lowest w) ∙ set in
    let is = cleared-odd w odd in
    let last : bit_and w (w - 1) % 2 ≡ 0 = omega (arith, is) in
    let half : bit_and w (w - 1) / 2 ≡ w / 2 = omega (arith, is) in
    rw (odd, last, half) refl
at_bits-next (x ∷ xs) w (suc k) d some few set low =
    let even : w % 2 ≡ 0 = sym (bit_at_lowest w) ∙ low 0 (omega arith) in
    let is = cleared-even w some even in
    let last : bit_and w (w - 1) % 2 ≡ 0 = omega (arith, is) in
    let half : bit_and w (w - 1) / 2 ≡ bit_and (w / 2) (w / 2 - 1) = omega (arith, is) in
    let more : 0 < w / 2 = omega (arith, some, even) in
    let short : w / 2 < 2 ^ length xs = omega (arith, few, pow-suc 2 (length xs)) in
    let rest =
    at_bits-next xs (w / 2) k d more short (sym (bit_at-suc w k) ∙ set) (λ i h. sym (bit_at-suc w i) ∙ low (suc i) (omega (arith, h))) in
    rw (even, last, half) rest

at_bits-none : {A : Type 0} (xs : List A) → at_bits 0 xs ≡ []
at_bits-none [] = refl
at_bits-none (x ∷ xs) = at_bits-none xs

-- the bits of the word of a test choose what passes it
at_bits-passing : {A : Type 0} (test : A → Bool) (xs : List A) → at_bits (word_of (map test xs)) xs ≡ filter test xs
at_bits-passing test [] = refl
at_bits-passing test (x ∷ xs) = go (test x) (at_bits-passing test xs)
  where
    word : Bool → ℕ
    word b = cond b 1 0 + 2 * word_of (map test xs)

    go : (b : Bool) → at_bits (word_of (map test xs)) xs ≡ filter test xs → at_bits (word b) (x ∷ xs) ≡ cond b (x ∷ filter test xs) (filter test xs)
    go true more =
        let last : (1 + 2 * word_of (map test xs)) % 2 ≡ 1 = omega arith in
        let half : (1 + 2 * word_of (map test xs)) / 2 ≡ word_of (map test xs) = omega arith in
        rw (last, half, more) refl
    go false more =
        let last : (0 + 2 * word_of (map test xs)) % 2 ≡ 0 = omega arith in
        let half : (0 + 2 * word_of (map test xs)) / 2 ≡ word_of (map test xs) = omega arith in
        rw (last, half, more) refl

-- ---- rows of a word

map-drop : {A B : Type 0} (f : A → B) (n : ℕ) (xs : List A) → drop n (map f xs) ≡ map f (drop n xs)
map-drop f zero xs = refl
map-drop f (suc n) [] = refl
map-drop f (suc n) (x ∷ xs) = map-drop f n xs

map-take : {A B : Type 0} (f : A → B) (n : ℕ) (xs : List A) → take n (map f xs) ≡ map f (take n xs)
map-take f zero xs = refl
map-take f (suc n) [] = refl
map-take f (suc n) (x ∷ xs) = ap (λ l. f x ∷ l) (map-take f n xs)

word-of_share : (test : List Value → Bool) (rows : List (List Value)) (place : ℕ) → word_at (map test rows) place ≡ word_of (map test (share_of rows (place * 64)))
word-of_share test rows place =
    ap (λ l. word_of (take 64 l)) (map-drop test (place * 64) rows) ∙ ap word_of (map-take test 64 (drop (place * 64) rows))

-- the word of a mask at a place, as it is read
pub word-read : (test : List Value → Bool) (rows : List (List Value)) (mask : List Bool) (words : List ℕ) (place word : ℕ) → mask ≡ map test rows → words ≡ words_of mask
    → place < div_ceil (length mask) 64 → word ≡ get_or words place 0 → word ≡ word_of (map test (share_of rows (place * 64)))
word-read test rows mask words place word are is inside read =
    read
    ∙ (ap (λ ws. get_or ws place 0) is
    ∙ (get_or-words_of mask place 0 inside ∙ (ap (λ m. word_at m place) are ∙ word-of_share test rows place)))

pub word-few : (test : List Value → Bool) (rows : List (List Value)) → word_of (map test rows) < 2 ^ length rows
word-few test rows =
    let bits = map test rows in
    let size : length bits ≡ length rows = length-map rows test in
    let whole : take (length bits) bits ≡ bits = take_all (length bits) bits (omega arith) in
    rw (← size) (let P : List Bool → Type 0 = λ b. word_of b < 2 ^ length bits in subst P whole (word_of-few bits (length bits)))

both_parts : {A : Type 0} (n : ℕ) (xs : List A) → take n xs ++ drop n xs ≡ xs
both_parts zero xs = refl
both_parts (suc n) [] = refl
both_parts (suc n) (x ∷ xs) = ap (λ l. x ∷ l) (both_parts n xs)

-- those that pass are those of a word and those behind it
passing-split : (test : List Value → Bool) (rows : List (List Value)) (place : ℕ)
    → filter test (drop (place * 64) rows) ≡ at_bits (word_of (map test (share_of rows (place * 64)))) (share_of rows (place * 64)) ++ filter test (drop ((place + 1) * 64) rows)
passing-split test rows place =
    let next : place * 64 + 64 ≡ (place + 1) * 64 = omega arith in
    let share = share_of rows (place * 64) in
    let behind : drop 64 (drop (place * 64) rows) ≡ drop ((place + 1) * 64) rows = drop-drop 64 (place * 64) rows ∙ ap (λ n. drop n rows) next in
    sym (ap (filter test) (both_parts 64 (drop (place * 64) rows)))
    ∙ (filter-append test share (drop 64 (drop (place * 64) rows))
    ∙ (λ i. sym (at_bits-passing test share) i ++ filter test (behind i)))

-- the row at a place of a word
pub share-inside : (rows : List (List Value)) (first k : ℕ) → k < length (share_of rows first) → first + k < length rows
share-inside rows first k inside = omega (arith, inside, length-take 64 (drop first rows), length-drop first rows)

got : {A : Type 0} (xs : List A) (i : ℕ) (x d : A) → slice_get xs i ≡ Some x → x ≡ get_or xs i d
got [] i x d is = absurd (cc is)
got (y ∷ xs) zero x d is = cc
got (y ∷ xs) (suc i) x d is = got xs i x d is

pub share-row : (rows : List (List Value)) (first k : ℕ) (row : List Value) → k < length (share_of rows first) → slice_get rows (first + k) ≡ Some row
    → row ≡ get_or (share_of rows first) k []
share-row rows first k row inside is =
    let few : k < 64 = omega (arith, inside, length-take 64 (drop first rows)) in
    got rows (first + k) row [] is ∙ sym (get_or-take 64 (drop first rows) k [] few ∙ get_or-drop first rows k [])

-- what holds of each row holds of one
pub of-row : (P : List Value → Type 0) (rows : List (List Value)) (i : ℕ) (row : List Value) → slice_get rows i ≡ Some row → AllByRecursion P rows → P row
of-row P [] i row is all = absurd (cc is)
of-row P (r ∷ rows) zero row is all = let same : r ≡ row = cc in subst P same all.0
of-row P (r ∷ rows) (suc i) row is all = of-row P rows i row is all.1

-- ---- groups that take rows one after the other

module _ (columns : List ℕ) (asked : List Asked) where
  can-front : (groups : List (List Value × Tallied)) (xs ys : List (List Value)) → CanTakeEach columns asked groups (xs ++ ys) → CanTakeEach columns asked groups xs
  can-front groups [] ys can = tt
  can-front groups (x ∷ xs) ys can = (can.0, can-front (with_row columns asked groups x) xs ys can.1)

  can-back : (groups : List (List Value × Tallied)) (xs ys : List (List Value)) → CanTakeEach columns asked groups (xs ++ ys)
      → CanTakeEach columns asked (with_rows columns asked groups xs) ys
  can-back groups [] ys can = can
  can-back groups (x ∷ xs) ys can = can-back (with_row columns asked groups x) xs ys can.1

  -- the bits of a word, from the lowest on
  pub left-all : (rows : List (List Value)) (w : ℕ) (now : List (List Value × Tallied)) → w < 2 ^ length rows → CanTakeEach columns asked now (at_bits w rows)
      → IsLeft columns asked rows w now (with_rows columns asked now (at_bits w rows))
  left-all rows w now few room = record { few = few; room = room; comes = refl }

  pub left-room : (rows : List (List Value)) (w k : ℕ) (now whole : List (List Value × Tallied)) → IsLeft columns asked rows w now whole → 0 < w →
      bit_at w k ≡ 1 → ((i : ℕ) → i < k → bit_at w i ≡ 0) → CanTake asked now (key_of columns (get_or rows k []))
  left-room rows w k now whole left some set low = (subst (CanTakeEach columns asked now) (at_bits-next rows w k [] some left.few set low) left.room).0

  pub left-next : (rows : List (List Value)) (w k : ℕ) (now next whole : List (List Value × Tallied)) → IsLeft columns asked rows w now whole → 0 < w →
      bit_at w k ≡ 1 → ((i : ℕ) → i < k → bit_at w i ≡ 0) → next ≡ with_row columns asked now (get_or rows k []) → IsLeft columns asked rows (bit_and w (w - 1)) next whole
  left-next rows w k now next whole left some set low taken =
      let these = at_bits-next rows w k [] some left.few set low in
      let rest = at_bits (bit_and w (w - 1)) rows in
      record {
        few = omega (arith, left.few, and_le_r w (w - 1));
        room = subst (λ g. CanTakeEach columns asked g rest) (sym taken) (subst (CanTakeEach columns asked now) these left.room).1;
        comes = ap (λ g. with_rows columns asked g rest) taken ∙ (ap (with_rows columns asked now) (sym these) ∙ left.comes);
      }

  pub left-none : (rows : List (List Value)) (w : ℕ) (now whole : List (List Value × Tallied)) → IsLeft columns asked rows w now whole → w ≡ 0 → now ≡ whole
  left-none rows w now whole left none = sym (ap (with_rows columns asked now) (ap (λ n. at_bits n rows) none ∙ at_bits-none rows)) ∙ left.comes

  -- the words of a mask, from the first on
  module _ (test : List Value → Bool) (rows : List (List Value)) (place : ℕ) (now whole : List (List Value × Tallied)) (left : AreLeft test columns asked rows place now whole) where
    pub word-room : (word : ℕ) → word ≡ word_of (map test (share_of rows (place * 64))) → CanTakeEach columns asked now (at_bits word (share_of rows (place * 64)))
    word-room word is =
        subst (λ w. CanTakeEach columns asked now (at_bits w (share_of rows (place * 64)))) (sym is)
        (can-front now (at_bits (word_of (map test (share_of rows (place * 64)))) (share_of rows (place * 64))) (filter test (drop ((place + 1) * 64) rows))
        (subst (CanTakeEach columns asked now) (passing-split test rows place) left.room))

    pub word-next : (word : ℕ) (next : List (List Value × Tallied)) → word ≡ word_of (map test (share_of rows (place * 64)))
        → next ≡ with_rows columns asked now (at_bits word (share_of rows (place * 64))) → AreLeft test columns asked rows (place + 1) next whole
    word-next word next is taken =
        let share = share_of rows (place * 64) in
        let these = at_bits (word_of (map test share)) share in
        let behind = filter test (drop ((place + 1) * 64) rows) in
        let new : next ≡ with_rows columns asked now these = taken ∙ ap (λ w. with_rows columns asked now (at_bits w share)) is in
        record {
          room = subst (λ g. CanTakeEach columns asked g behind) (sym new) (can-back now these behind (subst (CanTakeEach columns asked now) (passing-split test rows place) left.room));
          comes = ap (λ g. with_rows columns asked g behind) new
              ∙ (sym (fold-append (with_row columns asked) now these behind) ∙ (ap (with_rows columns asked now) (sym (passing-split test rows place)) ∙ left.comes));
        }

    pub words-done : div_ceil (length (map test rows)) 64 ≤ place → now ≡ whole
    words-done over =
        let all : length rows ≤ place * 64 = omega (arith, length-map rows test, (div_ceil_times (length (map test rows)) 64 (omega arith)).0, over) in
        sym (ap (λ l. with_rows columns asked now (filter test l)) (drop_all (place * 64) rows all)) ∙ left.comes

-- ---- the rows that a query keeps

pub have-seen : (bound : Bound) (rows : List (List Value)) → AllByRecursion (λ row. BoundFits row bound) rows → AllByRecursion (HasSeen bound.groups (asked_by bound)) rows
have-seen bound [] all = tt
have-seen bound (row ∷ rows) all = (record { keyed = all.0.groups; fits = asked_fit row bound all.0 }, have-seen bound rows all.1)

pub groups-rows : (bound : Bound) (front rows : List (List Value)) (groups : List (List Value × Tallied)) → GroupsAre bound front groups
    → GroupsAre bound (front ++ rows) (with_rows bound.groups (asked_by bound) groups rows)
groups-rows bound front [] groups are = subst (λ l. GroupsAre bound l groups) (sym (append-nothing front)) are
  where
    append-nothing : {A : Type 0} (xs : List A) → xs ++ [] ≡ xs
    append-nothing [] = refl
    append-nothing (x ∷ xs) = ap (λ l. x ∷ l) (append-nothing xs)
groups-rows bound front (row ∷ rows) groups are =
    subst (λ l. GroupsAre bound l (with_rows bound.groups (asked_by bound) groups (row ∷ rows))) (append_assoc front (row ∷ []) rows)
    (groups-rows bound (front ++ row ∷ []) rows (with_row bound.groups (asked_by bound) groups row) (groups-push bound front groups row are))

pub can-each : (bound : Bound) (front rows : List (List Value)) (groups : List (List Value × Tallied)) → GroupsAre bound front groups
    → length front + length rows < 2 ^ 64 → CanTakeEach bound.groups (asked_by bound) groups rows
can-each bound front [] groups are few = tt
can-each bound front (row ∷ rows) groups are few = (
  few_so_far bound front groups row are (omega (arith, few)),
  can-each bound (front ++ row ∷ []) rows (with_row bound.groups (asked_by bound) groups row) (groups-push bound front groups row are)
      (omega (arith, few, length-append front (row ∷ []))),
)

-- the values of those that are kept are those values that are kept
pub values-kept : (bound : Bound) (rows : List Numbered) → map (λ r. r.1) (kept bound rows) ≡ filter (keeps bound.filter) (map (λ r. r.1) rows)
values-kept bound [] = refl
values-kept bound (row ∷ rows) = go (keeps bound.filter row.1) (values-kept bound rows)
  where
    go : (b : Bool) → map (λ r. r.1) (kept bound rows) ≡ filter (keeps bound.filter) (map (λ r. r.1) rows)
        → map (λ r. r.1) (cond b (row ∷ kept bound rows) (kept bound rows)) ≡ cond b (row.1 ∷ filter (keeps bound.filter) (map (λ r. r.1) rows)) (filter (keeps bound.filter) (map (λ r. r.1) rows))
    go true more = ap (λ l. row.1 ∷ l) more
    go false more = more

kept-append : (bound : Bound) (front back : List Numbered)
    → map (λ r. r.1) (kept bound (front ++ back)) ≡ map (λ r. r.1) (kept bound front) ++ filter (keeps bound.filter) (map (λ r. r.1) back)
kept-append bound front back =
    ap (map (λ r. r.1)) (filter-append (λ r. keeps bound.filter r.1) front back)
    ∙ (map-append (λ r. r.1) (kept bound front) (kept bound back) ∙ ap (λ l. map (λ r. r.1) (kept bound front) ++ l) (values-kept bound back))

abbrev parts_of : List Numbered → Groups → Parts
parts_of rows groups = record { rows = rows; groups = groups }

abbrev part_of : Bool → Bound → List Numbered → Parts
part_of b bound found = cond b (parts_of [] (groups_of bound (map (λ r. r.1) found))) (parts_of found map_of.empty)

module _ {K : Type 0} (f : K → List Value) (bound : Bound) (part : Parts) (es : List (K × Tallied)) (of : held f es ≡ part.groups)
    (grouped : bound.grouped ≡ true) (rows : List (List Value)) where
  -- the groups that are held can take the rows
  pub can_take_each : IsPartOfSoFew bound (length rows) part → CanTakeEach bound.groups (asked_by bound) (keyed f es) (filter (keeps bound.filter) rows)
  can_take_each few =
      can-each bound (map (λ r. r.1) (kept bound few.rows)) (filter (keeps bound.filter) rows) (keyed f es)
      (groups-are f bound part es of grouped few.rows few.is)
      (omega (arith, few_kept bound few.rows, shorter (keeps bound.filter) rows, few.few))

  -- and are then those of the rows before and of these
  pub takes-chosen : (new : Groups) → new ≡ map_of.from_entries (with_rows bound.groups (asked_by bound) (keyed f es) (filter (keeps bound.filter) rows))
      → (front back : List Numbered) → part ≡ partial bound front → map (λ r. r.1) back ≡ rows → parts_of part.rows new ≡ partial bound (front ++ back)
  takes-chosen new taken front back is values =
      let found = map (λ r. r.1) (kept bound front) in
      let chosen = filter (keeps bound.filter) rows in
      let groups = with_rows bound.groups (asked_by bound) (keyed f es) chosen in
      let whole : map (λ r. r.1) (kept bound (front ++ back)) ≡ found ++ chosen =
      kept-append bound front back ∙ ap (λ vs. found ++ filter (keeps bound.filter) vs) values in
      let here : part.rows ≡ [] = ap (λ (p : Parts). p.rows) is ∙ ap (λ b. (part_of b bound (kept bound front)).rows) grouped in
      let there : new ≡ groups_of bound (map (λ r. r.1) (kept bound (front ++ back))) =
      taken ∙ held_are bound _ groups
      (subst (λ vs. GroupsAre bound vs groups) (sym whole)
      (groups-rows bound found chosen (keyed f es) (groups-are f bound part es of grouped front is))) in
      (λ i. parts_of (here i) (there i)) ∙ sym (ap (λ b. part_of b bound (kept bound (front ++ back))) grouped)
