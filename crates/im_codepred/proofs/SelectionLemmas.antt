-- What is wanted of NOT, AND and OR, and the rows that are asked.
use Rattle.std.proofs.Common.{◌≡◌, ℕ, zero, suc, ◌+◌, ◌<◌, ◌≤◌, ◌&&◌, ◌||◌, Bool, true, false, List, [], ◌∷◌, All, length, map, drop, get_or, replicate, ap, sym, subst, refl, ◌∙◌, arith}
use Rattle.std.specs.List.{range_with_len}
use Rattle.std.proofs.lemmas.List.{length-map, get_or-map, get_or-replicate, length-replicate, drop_all, drop_more, get_or_default}
use Rattle.std.proofs.lemmas.List.FromFn.{length-map-range_with_len, get_or-map-range_with_len, fill_by_all}
use Rattle.im_values.specs.declared.truth.Truth.{Truth}
use Rattle.im_values.specs.declared.truth.Truth.TheVariants.{Yes, No, Unknown}
use Rattle.im_values.specs.declared.content.Content.{Content as Value}
use Rattle.im_values.specs.declared.content.Content.TheVariants.{Null}
use Rattle.im_values.specs.Truth as truth
use Rattle.im_syntax.specs.Condition.{TermOf, null_test, between, within, ConjOf, conj_of, cond_of, and_term, or_conj}
use Rattle.im_syntax.specs.BoundFits.{value_at, TestFits, TestsFit, FilterFits}
use Rattle.im_eval.specs.Holds.{with_not, null_truth, between_truth, within_truth, truth_of_test, truth_of_tests, truth_of}
use Rattle.im_lanes.specs.Masks.{joined}
use Rattle.im_lanes.proofs.ForCallers.{length-joined, get_or-joined}
use Rattle.im_codepred.specs.declared.asked.Wanted.{Wanted}
use Rattle.im_codepred.specs.declared.asked.Wanted.TheVariants.{Held, Failed}
use Rattle.im_codepred.specs.Asked.{met, swapped, turned}
use Rattle.im_codepred.specs.declared.slab.Slab.{Slab}
use Rattle.im_codepred.specs.Selection.{AreLong, row_at}
use Rattle.im_codepred.specs.inner.Parts.{part, AreJoined}
use Rattle.im_codepred.specs.inner.Slabs.{count_of, row_of, passing}
use Rattle.im_codepred.proofs.RowLemmas.{map_all}

-- NOT swaps what is wanted
pub met-negated : (w : Wanted) (t : Truth) → met w (truth.negated t) ≡ met (swapped w) t
met-negated Held Yes = refl
met-negated Held No = refl
met-negated Held Unknown = refl
met-negated Failed Yes = refl
met-negated Failed No = refl
met-negated Failed Unknown = refl

pub met-with_not : (negated : Bool) (w : Wanted) (t : Truth) → met w (with_not negated t) ≡ met (turned negated w) t
met-with_not true w t = met-negated w t
met-with_not false w t = refl

-- both parts hold where an AND does
pub met-and : (a b : Truth) → met Held (truth.and a b) ≡ (met Held a && met Held b)
met-and Yes b = refl
met-and No b = refl
met-and Unknown Yes = refl
met-and Unknown No = refl
met-and Unknown Unknown = refl

-- one part fails where an AND does
pub failed-and : (a b : Truth) → met Failed (truth.and a b) ≡ (met Failed a || met Failed b)
failed-and Yes b = refl
failed-and No b = refl
failed-and Unknown Yes = refl
failed-and Unknown No = refl
failed-and Unknown Unknown = refl

-- one part holds where an OR does
pub met-or : (a b : Truth) → met Held (truth.or a b) ≡ (met Held a || met Held b)
met-or Yes b = refl
met-or No b = refl
met-or Unknown Yes = refl
met-or Unknown No = refl
met-or Unknown Unknown = refl

-- both parts fail where an OR does
pub failed-or : (a b : Truth) → met Failed (truth.or a b) ≡ (met Failed a && met Failed b)
failed-or Yes b = refl
failed-or No b = refl
failed-or Unknown Yes = refl
failed-or Unknown No = refl
failed-or Unknown Unknown = refl

-- the parts of an AND, and of an OR, under each question
pub met-parts-and : (w : Wanted) (both : Bool) (a b : Truth) → both ≡ met w Yes → met w (truth.and a b) ≡ part both (met w a) (met w b)
met-parts-and Held both a b is = rw is (met-and a b)
met-parts-and Failed both a b is = rw is (failed-and a b)

pub met-parts-or : (w : Wanted) (both : Bool) (a b : Truth) → both ≡ met w No → met w (truth.or a b) ≡ part both (met w a) (met w b)
met-parts-or Held both a b is = rw is (met-or a b)
met-parts-or Failed both a b is = rw is (failed-or a b)

-- ---- parts of a mask

part-all : (both b : Bool) → part both both b ≡ b
part-all true b = refl
part-all false b = refl

part-none-left : (both b : Bool) → part both b both ≡ b
part-none-left true true = refl
part-none-left true false = refl
part-none-left false true = refl
part-none-left false false = refl

part-behind : (both a b c : Bool) → part both (part both a b) c ≡ part both a (part both b c)
part-behind true true b c = refl
part-behind true false b c = refl
part-behind false true b c = refl
part-behind false false b c = refl

part-false : (both : Bool) → part both false false ≡ false
part-false true = refl
part-false false = refl

-- no part is joined yet
pub join-begin : (both : Bool) (whole : ℕ → Bool) (n : ℕ) (mask : List Bool) → mask ≡ replicate n both → AreJoined both whole whole n mask
join-begin both whole n mask is = record {
  size = ap length is ∙ length-replicate n both;
  rows = λ i h.
      ap (λ m. part both (get_or m i false) (whole i)) is
      ∙ (ap (λ b. part both b (whole i)) (get_or-replicate n i both false h) ∙ part-all both (whole i));
}

-- one part more
pub join-more : (both : Bool) (here rest left whole : ℕ → Bool) (n : ℕ) (mask next new : List Bool) →
    ((i : ℕ) → left i ≡ part both (here i) (rest i)) → next ≡ map here (range_with_len 0 n) →
    new ≡ joined (part both) mask next → AreJoined both left whole n mask → AreJoined both rest whole n new
join-more both here rest left whole n mask next new splits are is so_far =
    let long : length next ≡ n = ap length are ∙ length-map-range_with_len here 0 n in
    let same : length mask ≡ length next = so_far.size ∙ sym long in
    record {
      size = ap length is ∙ (length-joined (part both) mask next same ∙ so_far.size);
      rows = λ i h.
          let one : get_or next i false ≡ here i = ap (λ m. get_or m i false) are ∙ get_or-map-range_with_len here 0 n i i false h (omega arith) in
          let two : get_or new i false ≡ part both (get_or mask i false) (here i) =
          ap (λ m. get_or m i false) is ∙ (get_or-joined (part both) (part-false both) mask next i same ∙ ap (part both (get_or mask i false)) one) in
          ap (λ b. part both b (rest i)) two
          ∙ (part-behind both (get_or mask i false) (here i) (rest i) ∙ (ap (part both (get_or mask i false)) (sym (splits i)) ∙ so_far.rows i h));
    }

-- all parts are joined
pub join-end : (both : Bool) (left whole : ℕ → Bool) (n : ℕ) (mask : List Bool) → ((i : ℕ) → left i ≡ both) → AreJoined both left whole n mask →
    mask ≡ map whole (range_with_len 0 n)
join-end both left whole n mask none so_far =
    fill_by_all whole mask n false so_far.size (λ i h.
    sym (part-none-left both (get_or mask i false)) ∙ (ap (part both (get_or mask i false)) (sym (none i)) ∙ so_far.rows i h))

-- ---- the tests of an AND, and the conjunctions of an OR

pub left-tests : (w : Wanted) (both : Bool) (tests : List (TermOf ℕ Value)) (k : ℕ) (test : TermOf ℕ Value) (row : List Value) → both ≡ met w Yes →
    k < length tests → test ≡ get_or tests k test →
    met w (truth_of_tests (conj_of (drop k tests)) row)
    ≡ part both (met w (truth_of_test test row)) (met w (truth_of_tests (conj_of (drop (k + 1) tests)) row))
left-tests w both tests k test row is inside read =
    ap (λ l. met w (truth_of_tests (conj_of l) row)) (drop_more tests k test inside)
    ∙ (ap (λ t. met w (truth_of_tests (and_term t (conj_of (drop (k + 1) tests))) row)) (sym read)
    ∙ met-parts-and w both (truth_of_test test row) (truth_of_tests (conj_of (drop (k + 1) tests)) row) is)

pub none-tests : (w : Wanted) (both : Bool) (tests : List (TermOf ℕ Value)) (k : ℕ) (row : List Value) → both ≡ met w Yes → length tests ≤ k →
    met w (truth_of_tests (conj_of (drop k tests)) row) ≡ both
none-tests w both tests k row is over = ap (λ l. met w (truth_of_tests (conj_of l) row)) (drop_all k tests over) ∙ sym is

pub left-lists : (w : Wanted) (both : Bool) (lists : List (ConjOf ℕ Value)) (k : ℕ) (tests : ConjOf ℕ Value) (row : List Value) → both ≡ met w No →
    k < length lists → tests ≡ get_or lists k tests →
    met w (truth_of (cond_of (drop k lists)) row)
    ≡ part both (met w (truth_of_tests tests row)) (met w (truth_of (cond_of (drop (k + 1) lists)) row))
left-lists w both lists k tests row is inside read =
    ap (λ l. met w (truth_of (cond_of l) row)) (drop_more lists k tests inside)
    ∙ (ap (λ t. met w (truth_of (or_conj t (cond_of (drop (k + 1) lists))) row)) (sym read)
    ∙ met-parts-or w both (truth_of_tests tests row) (truth_of (cond_of (drop (k + 1) lists)) row) is)

pub none-lists : (w : Wanted) (both : Bool) (lists : List (ConjOf ℕ Value)) (k : ℕ) (row : List Value) → both ≡ met w No → length lists ≤ k →
    met w (truth_of (cond_of (drop k lists)) row) ≡ both
none-lists w both lists k row is over = ap (λ l. met w (truth_of (cond_of l) row)) (drop_all k lists over) ∙ sym is

-- a part fits a row where the whole does
pub test-fits : (row : List Value) (tests : List (TermOf ℕ Value)) (k : ℕ) (test : TermOf ℕ Value) → k < length tests → test ≡ get_or tests k test →
    TestsFit row (conj_of tests) → TestFits row test
test-fits row [] k test inside read fits = absurd (omega (arith, inside))
test-fits row (t ∷ ts) zero test inside read fits = subst (TestFits row) (sym read) fits.0
test-fits row (t ∷ ts) (suc k) test inside read fits = test-fits row ts k test (omega (arith, inside)) read fits.1

pub tests-fit : (row : List Value) (lists : List (ConjOf ℕ Value)) (k : ℕ) (tests : ConjOf ℕ Value) → k < length lists → tests ≡ get_or lists k tests →
    FilterFits row (cond_of lists) → TestsFit row tests
tests-fit row [] k tests inside read fits = absurd (omega (arith, inside))
tests-fit row (c ∷ cs) zero tests inside read fits = subst (TestsFit row) (sym read) fits.0
tests-fit row (c ∷ cs) (suc k) tests inside read fits = tests-fit row cs k tests (omega (arith, inside)) read fits.1

-- ---- the rows that are asked

-- two tests that say the same of each row
passing-same : (p q : List Value → Bool) (slab : Slab) → ((row : List Value) → p row ≡ q row) → passing p slab ≡ passing q slab
passing-same p q slab same =
    map_all (λ i. p (row_of slab i)) (λ i. q (row_of slab i)) (range_with_len 0 (count_of slab)) (λ i. same (row_of slab i))

-- a test of one column, asked of the column and of the rows
pub ask-columns : (p : Value → Bool) (columns : List (List Value)) (column n : ℕ) → column < length (row_at columns 0) → AreLong columns n →
    map p (get_or columns column []) ≡ map (λ i. p (value_at (row_at columns i) column)) (range_with_len 0 n)
ask-columns p columns column n below long =
    let inside : column < length columns = omega (arith, length-map columns (λ c. get_or c 0 Null), below) in
    let values = get_or columns column [] in
    let size : length values ≡ n = long column [] inside in
    fill_by_all (λ i. p (value_at (row_at columns i) column)) (map p values) n false (length-map values p ∙ size) (λ i h.
    get_or-map p values i Null false (omega (arith, size, h)) ∙ ap p (sym (get_or-map (λ c. get_or c i Null) columns column [] Null inside)))

-- and of a run
pub ask-run : (q : List Value → Bool) (rows : List (List Value)) → map q rows ≡ map (λ i. q (get_or rows i [])) (range_with_len 0 (length rows))
ask-run q rows = fill_by_all (λ i. q (get_or rows i [])) (map q rows) (length rows) false (length-map rows q) (λ i h. get_or-map q rows i [] false h)

-- a fact of each row of a run, by its position
pub each-row : (P : List Value → Type 0) (rows : List (List Value)) → ((i : ℕ) → i < length rows → P (get_or rows i [])) → All P rows
each-row P rows each = λ i d inside. subst P (get_or_default rows i [] d inside) (each i inside)

-- ---- each test of a column

-- what may be written behind NOT
not-passes : (w asked : Wanted) (negated : Bool) (truth : Value → Truth) (slab : Slab) (column : ℕ) → asked ≡ turned negated w →
    passing (λ row. met asked (truth (value_at row column))) slab ≡ passing (λ row. met w (with_not negated (truth (value_at row column)))) slab
not-passes w asked negated truth slab column turns =
    passing-same (λ row. met asked (truth (value_at row column))) (λ row. met w (with_not negated (truth (value_at row column)))) slab
    (λ row. ap (λ a. met a (truth (value_at row column))) turns ∙ sym (met-with_not negated w (truth (value_at row column))))

pub null-passes : (w asked : Wanted) (test : TermOf ℕ Value) (slab : Slab) (column : ℕ) (negated : Bool) → null_test column negated ≡ test →
    asked ≡ turned negated w → passing (λ row. met asked (null_truth (value_at row column))) slab ≡ passing (λ row. met w (truth_of_test test row)) slab
null-passes w asked test slab column negated is turns =
    not-passes w asked negated null_truth slab column turns ∙ ap (λ t. passing (λ row. met w (truth_of_test t row)) slab) is

pub between-passes : (w asked : Wanted) (test : TermOf ℕ Value) (slab : Slab) (column : ℕ) (negated : Bool) (low high : Value) →
    between column negated low high ≡ test → asked ≡ turned negated w →
    passing (λ row. met asked (between_truth (value_at row column) low high)) slab ≡ passing (λ row. met w (truth_of_test test row)) slab
between-passes w asked test slab column negated low high is turns =
    not-passes w asked negated (λ v. between_truth v low high) slab column turns ∙ ap (λ t. passing (λ row. met w (truth_of_test t row)) slab) is

pub within-passes : (w asked : Wanted) (test : TermOf ℕ Value) (slab : Slab) (column : ℕ) (negated : Bool) (choices : List Value) →
    within column negated choices ≡ test → asked ≡ turned negated w →
    passing (λ row. met asked (within_truth (value_at row column) choices)) slab ≡ passing (λ row. met w (truth_of_test test row)) slab
within-passes w asked test slab column negated choices is turns =
    not-passes w asked negated (λ v. within_truth v choices) slab column turns ∙ ap (λ t. passing (λ row. met w (truth_of_test t row)) slab) is
