-- Runs of equal codes.
use Rattle.std.proofs.Common.{◌≡◌, ◌≢◌, ℕ, zero, suc, ◌+◌, ◌-◌, ◌<◌, ◌≤◌, ◌==◌, List, [], ◌∷◌, ◌++◌, length, replicate, get_or, take, drop, subst, true, false, sym, refl, ap, ◌∙◌, arith, append_assoc, append-nil, length-append, eq-eqb, ne_eqb, nat_le, leb-true, leb-false}
use Rattle.std.proofs.lemmas.List.{length-replicate, get_or-replicate, get_or_append_left, get_or-append_right, replicate_more, drop_more, drop_all, take_all}
use Rattle.std.specs.List.Sorted.{IsPartitionPoint}
use Rattle.im_codes.specs.declared.run.Run.{Run}
use Rattle.im_codes.specs.Runs.{codes_from, codes_of, run_count_after, run_count, AreFull, AreApart, AreRuns, IsRunAt, Extends}

-- one more run behind the last
pub apart-push : (front : List Run) (last run : Run) → AreApart (front ++ last ∷ []) → last.code ≢ run.code → AreApart ((front ++ last ∷ []) ++ run ∷ [])
apart-push [] last run apart differ = (differ, tt)
apart-push (first ∷ []) last run apart differ = (apart.0, (differ, tt))
apart-push (first ∷ next ∷ front) last run apart differ = (apart.0, apart-push (next ∷ front) last run apart.1 differ)

pub full-push : (begin : ℕ) (front : List Run) (last run : Run) → AreFull begin (front ++ last ∷ []) → last.end < run.end →
    AreFull begin ((front ++ last ∷ []) ++ run ∷ [])
full-push begin [] last run full later = (full.0, (later, tt))
full-push begin (first ∷ front) last run full later = (full.0, full-push first.end front last run full.1 later)

pub codes-push : (begin : ℕ) (front : List Run) (last run : Run) →
    codes_from begin ((front ++ last ∷ []) ++ run ∷ []) ≡ codes_from begin (front ++ last ∷ []) ++ replicate (run.end - last.end) run.code
codes-push begin [] last run = rw (append-nil (replicate (run.end - last.end) run.code), append-nil (replicate (last.end - begin) last.code)) refl
codes-push begin (first ∷ front) last run = rw (codes-push first.end front last run, append_assoc) refl

-- the last run made longer
pub apart-swap : (front : List Run) (last run : Run) → AreApart (front ++ last ∷ []) → last.code ≡ run.code → AreApart (front ++ run ∷ [])
apart-swap [] last run apart same = tt
apart-swap (first ∷ []) last run apart same = (λ is. apart.0 (is ∙ sym same), tt)
apart-swap (first ∷ next ∷ front) last run apart same = (apart.0, apart-swap (next ∷ front) last run apart.1 same)

pub full-swap : (begin : ℕ) (front : List Run) (last run : Run) → AreFull begin (front ++ last ∷ []) → last.end < run.end → AreFull begin (front ++ run ∷ [])
full-swap begin [] last run full later = (omega (arith, full.0), tt)
full-swap begin (first ∷ front) last run full later = (full.0, full-swap first.end front last run full.1 later)

pub codes-swap : (begin : ℕ) (front : List Run) (last run : Run) → AreFull begin (front ++ last ∷ []) → last.code ≡ run.code → run.end ≡ last.end + 1 →
    codes_from begin (front ++ run ∷ []) ≡ codes_from begin (front ++ last ∷ []) ++ run.code ∷ []
codes-swap begin [] last run full same longer =
    let many : run.end - begin ≡ (last.end - begin) + 1 = omega (arith, full.0) in
    rw (many, append-nil (replicate (last.end - begin + 1) run.code), append-nil (replicate (last.end - begin) last.code), same)
    (sym (replicate_more (last.end - begin) run.code))
codes-swap begin (first ∷ front) last run full same longer = rw (codes-swap first.end front last run full.1 same longer, append_assoc) refl

-- so many codes as the place past the last run says
pub length-codes_from : (begin : ℕ) (front : List Run) (last : Run) → AreFull begin (front ++ last ∷ []) →
    length (codes_from begin (front ++ last ∷ [])) + begin ≡ last.end
length-codes_from begin [] last full =
    rw (append-nil (replicate (last.end - begin) last.code), length-replicate (last.end - begin) last.code) (omega (arith, full.0))
length-codes_from begin (first ∷ front) last full =
    let rest = length-codes_from first.end front last full.1 in
    rw (
      length-append (replicate (first.end - begin) first.code) (codes_from first.end (front ++ last ∷ [])),
      length-replicate
          (first.end - begin) first.code,
    ) (omega (arith, full.0, rest))

-- the code at a place is that of the first run that ends past it
pub code-found : (begin : ℕ) (runs : List Run) (i k : ℕ) (d : Run) → AreFull begin runs → begin ≤ i → i - begin < length (codes_from begin runs) →
    ((j : ℕ) (e : Run) → j < k → (get_or runs j e).end ≤ i) → ((j : ℕ) (e : Run) → k ≤ j → j < length runs → i < (get_or runs j e).end) →
    (k < length runs) × (get_or (codes_from begin runs) (i - begin) 0 ≡ (get_or runs k d).code)
code-found begin [] i k d full past inside below above = absurd (omega (arith, inside))
code-found begin (run ∷ runs) i zero d full past inside below above =
    let here : i < run.end = above 0 run (omega arith) (omega arith) in
    let size = length-replicate (run.end - begin) run.code in (
      omega arith,
      get_or_append_left (replicate (run.end - begin) run.code) (codes_from run.end runs) 0 (i - begin) (omega (arith, size))
          ∙ get_or-replicate (run.end - begin) (i - begin) run.code 0 (omega (arith, here, full.0)),
    )
code-found begin (run ∷ runs) i (suc k) d full past inside below above =
    let gone : run.end ≤ i = below 0 run (omega arith) in
    let size = length-replicate (run.end - begin) run.code in
    let whole = length-append (replicate (run.end - begin) run.code) (codes_from run.end runs) in
    let left : i - begin - (run.end - begin) ≡ i - run.end = omega (arith, full.0) in
    let rest =
    code-found run.end runs i k d full.1 gone (omega (arith, inside, size, whole, full.0)) (λ j e h. below (suc j) e (omega arith))
    (λ j e h l. above (suc j) e (omega arith) (omega arith)) in (
      omega (arith, rest.0),
      get_or-append_right (replicate (run.end - begin) run.code) (codes_from run.end runs) (run.end - begin) (i - begin) 0 size
          (omega (arith, full.0)) ∙ (ap (λ n. get_or (codes_from run.end runs) n 0) left ∙ rest.1),
    )

-- codes equal to the one before begin no run
run_count_after-same : (n code : ℕ) (rest : List ℕ) → run_count_after code (replicate n code ++ rest) ≡ run_count_after code rest
run_count_after-same zero code rest = refl
run_count_after-same (suc n) code rest = rw (eq-eqb code code refl) (omega (arith, run_count_after-same n code rest))

count-runs_after : (begin code : ℕ) (runs : List Run) (before : Run) → before.code ≡ code → AreFull begin runs → AreApart (before ∷ runs) →
    run_count_after code (codes_from begin runs) ≡ length runs
count-runs_after begin code [] before is full apart = refl
count-runs_after begin code (run ∷ runs) before is full apart =
    let size : run.end - begin ≡ suc (run.end - begin - 1) = omega (arith, full.0) in
    let other : (run.code == code) ≡ false = ne_eqb run.code code (λ same. apart.0 (is ∙ sym same)) in
    rw (
      size,
      other,
      run_count_after-same (run.end - begin - 1) run.code
          (codes_from run.end runs),
      count-runs_after run.end run.code runs run refl full.1 apart.1,
    ) (omega arith)

-- each run ends past where the first begins
later-end : (begin : ℕ) (runs : List Run) → AreFull begin runs → (j : ℕ) (d : Run) → j < length runs → begin < (get_or runs j d).end
later-end begin [] full j d inside = absurd (omega (arith, inside))
later-end begin (run ∷ runs) full zero d inside = full.0
later-end begin (run ∷ runs) full (suc j) d inside = omega (arith, full.0, later-end run.end runs full.1 j d (omega arith))

-- there are as many runs as places that begin one
count-full_runs : (runs : List Run) → AreFull 0 runs → AreApart runs → length runs ≡ run_count (codes_of runs)
count-full_runs [] full apart = refl
count-full_runs (run ∷ runs) full apart =
    let size : run.end - 0 ≡ suc (run.end - 1) = omega (arith, full.0) in
    rw (size, run_count_after-same (run.end - 1) run.code (codes_from run.end runs), count-runs_after run.end run.code runs run refl full.1 apart) (omega arith)

pub count-runs : (runs : List Run) → AreRuns runs → length runs ≡ run_count (codes_of runs)
count-runs runs longest = count-full_runs runs longest.full longest.apart

-- the place past the last run is the number of codes
pub last-end : (old front : List Run) (last : Run) → AreRuns old → old ≡ front ++ last ∷ [] → length (codes_of old) ≡ last.end
last-end old front last runs is = rw is (omega (arith, length-codes_from 0 front last (rw is at runs.full)))

-- the first run
pub extends-none : (old : List Run) (code : ℕ) → old ≡ [] → Extends old (record { code = code; end = 1 } ∷ []) code
extends-none old code none = record { codes = rw none refl; runs = record { full = (omega arith, tt); apart = tt } }

-- the last run made longer by one
pub extends-last : (old front : List Run) (last run : Run) → AreRuns old → old ≡ front ++ last ∷ [] → last.code ≡ run.code → run.end ≡ last.end + 1 →
    Extends old (front ++ run ∷ []) run.code
extends-last old front last run runs is same longer =
    let full = rw is at runs.full in
    record {
      codes = rw is (codes-swap 0 front last run full same longer);
      runs = record { full = full-swap 0 front last run full (omega arith); apart = apart-swap front last run (rw is at runs.apart) same };
    }

-- a run of one behind the last
pub extends-next : (old front : List Run) (last run : Run) → AreRuns old → old ≡ front ++ last ∷ [] → last.code ≢ run.code → run.end ≡ last.end + 1 →
    Extends old ((front ++ last ∷ []) ++ run ∷ []) run.code
extends-next old front last run runs is differ longer =
    let one : run.end - last.end ≡ 1 = omega arith in
    record {
      codes = rw is (codes-push 0 front last run ∙ ap (λ n. codes_of (front ++ last ∷ []) ++ replicate n run.code) one);
      runs = record { full = full-push 0 front last run (rw is at runs.full) (omega arith); apart = apart-push front last run (rw is at runs.apart) differ };
    }

-- the run that a place of the list lies in is the first that ends past it
pub run-partitioned : (runs : List Run) (i k : ℕ) → AreRuns runs → i < length (codes_of runs) →
    IsPartitionPoint (λ (run : Run). nat_le run.end i ≡ true) (λ (run : Run). nat_le run.end i ≡ false) runs k → IsRunAt runs i k
run-partitioned runs i k longest inside point =
    let whole : i - 0 ≡ i = omega arith in
    let found : (d : Run) → (k < length runs) × (get_or (codes_of runs) (i - 0) 0 ≡ (get_or runs k d).code) =
    λ d. code-found 0 runs i k d longest.full (omega arith) (omega (arith, inside)) (λ j e h. leb-true _ _ (point.0 j e (omega arith) h))
    (λ j e h l. leb-false _ _ (point.1 j e h l)) in
    record {
      inside = (found (record { code = 0; end = 0 })).0;
      code = λ d. ap (λ n. get_or (codes_of runs) n 0) (sym whole) ∙ (found d).1;
    }

-- the places past the runs rise
pub ends-rise : (begin : ℕ) (runs : List Run) → AreFull begin runs → (i j : ℕ) (d : Run) → i ≤ j → j < length runs →
    (get_or runs i d).end ≤ (get_or runs j d).end
ends-rise begin [] full i j d up inside = absurd (omega (arith, inside))
ends-rise begin (run ∷ runs) full zero zero d up inside = omega arith
ends-rise begin (run ∷ runs) full zero (suc j) d up inside = omega (arith, later-end run.end runs full.1 j d (omega arith))
ends-rise begin (run ∷ runs) full (suc i) zero d up inside = absurd (omega arith)
ends-rise begin (run ∷ runs) full (suc i) (suc j) d up inside = ends-rise run.end runs full.1 i j d (omega arith) (omega arith)

-- one run more is laid out
pub laid-more : (codes longer : List ℕ) (runs : List Run) (i many : ℕ) (run d : Run) → i < length runs → run ≡ get_or runs i d → many ≡ length codes →
    AreFull (length codes) (drop i runs) → codes ++ codes_from (length codes) (drop i runs) ≡ codes_of runs →
    longer ≡ take run.end codes ++ replicate (run.end - many) run.code →
    AreFull (length longer) (drop (i + 1) runs) × (longer ++ codes_from (length longer) (drop (i + 1) runs) ≡ codes_of runs)
laid-more codes longer runs i many run d inside is size full so_far more =
    let rest = drop (i + 1) runs in
    let next : drop i runs ≡ run ∷ rest = drop_more runs i d inside ∙ ap (λ r. r ∷ rest) (sym is) in
    let there : AreFull (length codes) (run ∷ rest) = subst (AreFull (length codes)) next full in
    let begin : length codes < run.end = there.0 in
    let whole : longer ≡ codes ++ replicate (run.end - length codes) run.code =
    more
    ∙ (ap (λ l. l ++ replicate (run.end - many) run.code) (take_all run.end codes (omega arith))
    ∙ ap (λ n. codes ++ replicate (run.end - n) run.code) size) in
    let long : length longer ≡ run.end =
    omega (arith, ap length whole, length-append codes (replicate (run.end - length codes) run.code), length-replicate (run.end - length codes) run.code) in (
      subst (λ n. AreFull n rest) (sym long) there.1,
      ap (λ l. l ++ codes_from (length longer) rest) whole
          ∙ (append_assoc codes (replicate (run.end - length codes) run.code) (codes_from (length longer) rest)
          ∙ (ap (λ n. codes ++ (replicate (run.end - length codes) run.code ++ codes_from n rest)) long
          ∙ (ap (λ rs. codes ++ codes_from (length codes) rs) (sym next) ∙ so_far))),
    )

-- all are
pub laid-all : (codes : List ℕ) (runs : List Run) (i : ℕ) → length runs ≤ i → codes ++ codes_from (length codes) (drop i runs) ≡ codes_of runs →
    codes ≡ codes_of runs
laid-all codes runs i past so_far =
    sym (append-nil codes) ∙ (ap (λ rs. codes ++ codes_from (length codes) rs) (sym (drop_all i runs past)) ∙ so_far)

-- one run alone, of so many codes
pub record IsOneRun (code len : ℕ) (runs : List Run) : Type 0 where
  pub are : AreRuns runs
  pub codes : codes_of runs ≡ replicate len code
  pub long : len ≡ length (codes_of runs)

pub one-run : (code len end : ℕ) (none runs : List Run) → none ≡ [] → runs ≡ none ++ record { code = code; end = end } ∷ [] → end ≡ len → 0 < len →
    IsOneRun code len runs
one-run code len end none runs empty pushed same some =
    let run : Run = record { code = code; end = end } in
    let is : runs ≡ run ∷ [] = pushed ∙ ap (λ (l : List Run). l ++ run ∷ []) empty in
    let codes : codes_of (run ∷ []) ≡ replicate len code =
    append-nil (replicate (end - 0) code) ∙ ap (λ (n : ℕ). replicate n code) (omega (arith, same)) in
    subst (IsOneRun code len) (sym is) (record {
      are = record { full = (omega (arith, same, some), tt); apart = tt };
      codes = codes;
      long = sym (ap length codes ∙ length-replicate len code);
    })
