-- How many versions stand.
use Rattle.std.proofs.Common.{◌≡◌, ℕ, zero, suc, true, ◌+◌, ◌-◌, ◌<◌, ◌≤◌, ◌==◌, List, [], ◌∷◌, ◌++◌, All, get_or, length, max, min, sum_by, take, Option, Some, None, is_some, refl, sym, ap, ◌∙◌, subst, ⊎_elim, arith}
use Rattle.std.specs.Prelude.{slice_get}
use Rattle.std.specs.List.{range_with_len}
use Rattle.std.proofs.lemmas.Bool.{cases_lt}
use Rattle.std.proofs.lemmas.List.{get_or_past}
use Rattle.std.proofs.lemmas.List.Elements.{All-push, All-weaker}
use Rattle.std.proofs.lemmas.List.Sums.{sum_by-cons, sum_by-le-sum_by}
use Rattle.im_tables.specs.Table.{row_of}
use Rattle.im_tables.proofs.ForCallers.{cell_at-past}
use Rattle.im_tables.proofs.Tests.{and-true, eq-true}
use Rattle.im_versions.specs.declared.version.Version.{Version}
use Rattle.im_blocks.specs.declared.run.Run.{Run}
use Rattle.im_blocks.specs.declared.slot.Slot.{Slot}
use Rattle.im_blocks.specs.declared.slot.Slot.TheVariants.{Empty, InRun, InChain}
use Rattle.im_blocks.specs.declared.touched.Touched.{Touched}
use Rattle.im_blocks.specs.Chains.{AllVersions, chain_at, chain_versions, run_at, run_versions, slot_at, versions_at, versions_in}
use Rattle.im_blocks.specs.Runs.{holds, rows_in}
use Rattle.im_blocks.specs.Standing.{standing, standing_among, standing_at, standing_of}
use Rattle.im_blocks.specs.inner.Letting.{IsCounted, NoneFrom}
use Rattle.im_blocks.proofs.Places.{below, got, take-next}
use Rattle.im_blocks.proofs.RunLemmas.{LiesIn, found_run, in_rows-from, in_rows-true, is_in-from, is_in-true, run-shown}
use Rattle.im_blocks.proofs.StoreLemmas.{found_some, in_run}

-- ---- sums over numbers in a row

pub sum-parts : (f : ℕ → ℕ) (first count more : ℕ) →
    sum_by f (range_with_len first (count + more)) ≡ sum_by f (range_with_len first count) + sum_by f (range_with_len (first + count) more)
sum-parts f first zero more =
    let count : zero + more ≡ more = omega arith in
    let from : first + zero ≡ first = omega arith in
    let behind = ap (λ (n : ℕ). sum_by f (range_with_len n more)) from in
    let none : sum_by f (range_with_len first zero) ≡ 0 = refl in
    ap (λ (n : ℕ). sum_by f (range_with_len first n)) count ∙ omega (arith, behind, none)
sum-parts f first (suc count) more =
    let next : suc count + more ≡ suc (count + more) = omega arith in
    let from : first + 1 + count ≡ first + suc count = omega arith in
    let whole = sum_by-cons f first (range_with_len (first + 1) (count + more)) in
    let part = sum_by-cons f first (range_with_len (first + 1) count) in
    let rest = sum-parts f (first + 1) count more in
    let behind = ap (λ (n : ℕ). sum_by f (range_with_len n more)) from in
    ap (λ (n : ℕ). sum_by f (range_with_len first n)) next ∙ omega (arith, whole, part, rest, behind)

pub sum-one : (f : ℕ → ℕ) (k : ℕ) → sum_by f (range_with_len k 1) ≡ f k
sum-one f k =
    let none : sum_by f [] ≡ 0 = refl in
    sum_by-cons f k [] ∙ omega (arith, none)

-- equal terms have equal sums
pub sum-agree : (f g : ℕ → ℕ) (first count : ℕ) → ((k : ℕ) → first ≤ k → k < first + count → f k ≡ g k)
    → sum_by f (range_with_len first count) ≡ sum_by g (range_with_len first count)
sum-agree f g first zero same = refl
sum-agree f g first (suc count) same =
    let this = same first (omega arith) (omega arith) in
    let rest = sum-agree f g (first + 1) count (λ k low high. same k (omega (arith, low)) (omega (arith, high))) in
    let left = sum_by-cons f first (range_with_len (first + 1) count) in
    let right = sum_by-cons g first (range_with_len (first + 1) count) in
    omega (arith, this, rest, left, right)

-- terms that are 0 add nothing
pub sum-none : (f : ℕ → ℕ) (first count : ℕ) → ((k : ℕ) → first ≤ k → f k ≡ 0) → sum_by f (range_with_len first count) ≡ 0
sum-none f first zero none = refl
sum-none f first (suc count) none =
    let this = none first (omega arith) in
    let rest = sum-none f (first + 1) count (λ k low. none k (omega (arith, low))) in
    let whole = sum_by-cons f first (range_with_len (first + 1) count) in
    omega (arith, this, rest, whole)

-- terms that are 1 add one each
pub sum-ones : (f : ℕ → ℕ) (first count : ℕ) → ((k : ℕ) → first ≤ k → k < first + count → f k ≡ 1) → sum_by f (range_with_len first count) ≡ count
sum-ones f first zero one = refl
sum-ones f first (suc count) one =
    let this = one first (omega arith) (omega arith) in
    let rest = sum-ones f (first + 1) count (λ k low high. one k (omega (arith, low)) (omega (arith, high))) in
    let whole = sum_by-cons f first (range_with_len (first + 1) count) in
    omega (arith, this, rest, whole)

sum-longer : (f : ℕ → ℕ) (few many : ℕ) → few ≤ many → ((k : ℕ) → few ≤ k → f k ≡ 0)
    → sum_by f (range_with_len 0 many) ≡ sum_by f (range_with_len 0 few)
sum-longer f few many less none =
    let all : many ≡ few + (many - few) = omega (arith, less) in
    let parts = sum-parts f 0 few (many - few) in
    let rest = sum-none f (0 + few) (many - few) (λ k low. none k (omega (arith, low))) in
    ap (λ (n : ℕ). sum_by f (range_with_len 0 n)) all ∙ omega (arith, parts, rest)

-- sums up to where all other terms are 0
pub sum-whole : (f : ℕ → ℕ) (one other : ℕ) → ((k : ℕ) → one ≤ k → f k ≡ 0) → ((k : ℕ) → other ≤ k → f k ≡ 0)
    → sum_by f (range_with_len 0 one) ≡ sum_by f (range_with_len 0 other)
sum-whole f one other past_one past_other =
    ⊎_elim
    (λ (less : one < other). sym (sum-longer f one other (omega (arith, less)) past_one))
    (λ (more : other ≤ one). sum-longer f other one more past_other)
    (cases_lt one other)

-- ---- row numbers that are counted together

pub IsCounted-one : (b : AllVersions) (table rid end many : ℕ) (versions : List Version) → rid < end → versions ≡ versions_at b table rid
    → many ≡ length versions → IsCounted b table rid end (rid + 1) many
IsCounted-one b table rid end many versions before are long = record {
  from = omega arith;
  upto = omega (arith, before);
  are =
      let one : rid + 1 - rid ≡ 1 = omega arith in
      ap (standing_among b table rid) one ∙ (sum-one (standing_at b table) rid ∙ sym (long ∙ ap length are));
}

-- a row number lies in a run that was found for it
pub IsHeld-found : (runs : List Run) (number table rid : ℕ) (run : Run) → run_at runs number table rid ≡ Some run
    → LiesIn run.first (length (rows_in run.rows)) rid
IsHeld-found runs number table rid run found =
    let holds_it = found_run runs number table rid run found in
    in_rows-true run.first (length (rows_in run.rows)) rid (is_in-true run.table run.first (length (rows_in run.rows)) table rid holds_it.own).1

-- all of them are in a run
pub IsCounted-run : (b : AllVersions) (table rid end number next : ℕ) (run : Run) → rid < next → next ≤ end → run_at b.runs number table rid ≡ Some run
    → next ≤ run.first + length (rows_in run.rows) → ((r : ℕ) → rid ≤ r → r < next → slot_at b table r ≡ InRun number)
    → IsCounted b table rid end next (next - rid)
IsCounted-run b table rid end number next run from upto found inside slots = record {
  from = from;
  upto = upto;
  are = sum-ones (standing_at b table) rid (next - rid) (λ r low high. one r low (omega (arith, high, from)));
}
  where
    count : ℕ
    count = length (rows_in run.rows)

    one : (r : ℕ) → rid ≤ r → r < next → standing_at b table r ≡ 1
    one r low high =
        let holds_it = found_run b.runs number table rid run found in
        let both = is_in-true run.table run.first count table rid holds_it.own in
        let lies = in_rows-true run.first count rid both.1 in
        let first = lies.from in
        let own : holds run table r ≡ true =
        subst (λ (t : ℕ). holds run t r ≡ true) both.0
        (is_in-from run.table run.first count r (in_rows-from run.first count r (omega (arith, first, low)) (omega (arith, high, inside)))) in
        ap length (sym (in_run b table r number (run_at b.runs number table r) (slots r low high) refl) ∙ run-shown b.runs run number table r holds_it.at own)

-- the sum so far and what was counted behind it
pub counted-next : (b : AllVersions) (table rid end next many before so_far longer most : ℕ)
    → so_far ≡ min (before + standing_among b table 0 rid) most → IsCounted b table rid end next many → longer ≡ min (so_far + many) most
    → longer ≡ min (before + standing_among b table 0 next) most
counted-next b table rid end next many before so_far longer most is counted added =
    let from = counted.from in
    let all : rid + (next - rid) ≡ next = omega (arith, from) in
    let parts = sum-parts (standing_at b table) 0 rid (next - rid) in
    let here : 0 + rid ≡ rid = omega arith in
    let behind = ap (λ (n : ℕ). standing_among b table n (next - rid)) here ∙ counted.are in
    let whole = ap (standing_among b table 0) all in
    omega (arith, is, added, parts, behind, whole)

-- ---- all tables

-- where no table has versions past these
none_of : (b : AllVersions) (end table : ℕ) → NoneFrom b end → end ≤ table → standing_of b table ≡ 0
none_of b end table none past =
    sum-none (standing_at b table) 0 (length (row_of b.slots table)) (λ r low. ap length (none.each table r past))

past_slots : (b : AllVersions) (table : ℕ) → length b.slots ≤ table → standing_of b table ≡ 0
past_slots b table past =
    ap (λ (row : List Slot). standing_among b table 0 (length row)) (get_or_past b.slots table [] past)

pub standing-upto : (b : AllVersions) (end table : ℕ) → NoneFrom b end → end ≤ table → sum_by (standing_of b) (range_with_len 0 table) ≡ standing b
unfolding standing
standing-upto b end table none upto =
    sum-whole (standing_of b) table (length b.slots) (λ k past. none_of b end k none (omega (arith, upto, past))) (λ k past. past_slots b k past)

pub standing-next : (b : AllVersions) (table so_far longer most : ℕ) → so_far ≡ min (sum_by (standing_of b) (range_with_len 0 table)) most
    → longer ≡ min (so_far + standing_of b table) most → longer ≡ min (sum_by (standing_of b) (range_with_len 0 (table + 1))) most
standing-next b table so_far longer most is added =
    let parts = sum-parts (standing_of b) 0 table 1 in
    let here : 0 + table ≡ table = omega arith in
    let last = ap (λ (n : ℕ). sum_by (standing_of b) (range_with_len n 1)) here ∙ sum-one (standing_of b) table in
    omega (arith, is, added, parts, last)

-- all versions, by more tables and row numbers
past_cells : (b : AllVersions) (table rid : ℕ) → length (row_of b.slots table) ≤ rid → standing_at b table rid ≡ 0
unfolding versions_at
past_cells b table rid past = ap (λ (slot : Slot). length (versions_in b.runs b.chains table rid slot)) (cell_at-past Empty b.slots table rid past)

-- the versions of a table, by as many row numbers as have any
pub standing-of : (b : AllVersions) (table count : ℕ) → ((rid : ℕ) → count ≤ rid → standing_at b table rid ≡ 0)
    → standing_of b table ≡ standing_among b table 0 count
standing-of b table count none =
    sum-whole (standing_at b table) (length (row_of b.slots table)) count (λ rid past. past_cells b table rid past) none

-- and all of them, by as many tables
pub standing-by : (b : AllVersions) (count : ℕ) → ((table : ℕ) → count ≤ table → standing_of b table ≡ 0) → standing b ≡ sum_by (standing_of b) (range_with_len 0 count)
unfolding standing
standing-by b count none = sum-whole (standing_of b) (length b.slots) count (λ table past. past_slots b table past) none

sum-less : (f g : ℕ → ℕ) (first count : ℕ) → ((k : ℕ) → f k ≤ g k) → sum_by f (range_with_len first count) ≤ sum_by g (range_with_len first count)
sum-less f g first count less = sum_by-le-sum_by f g (range_with_len first count) less

-- where no row number has more versions, no more stand
pub standing-le : (few many : AllVersions) → ((table rid : ℕ) → standing_at few table rid ≤ standing_at many table rid) → standing few ≤ standing many
standing-le few many less =
    subst (λ (n : ℕ). n ≤ standing many) (sym (standing-by few tables (λ table past. past_slots few table (omega (arith, past)))))
    (subst (λ (n : ℕ). sum_by (standing_of few) (range_with_len 0 tables) ≤ n)
    (sym (standing-by many tables (λ table past. past_slots many table (omega (arith, past)))))
    (sum-less (standing_of few) (standing_of many) 0 tables of_table))
  where
    tables : ℕ
    tables = max (length few.slots) (length many.slots)

    of_table : (table : ℕ) → standing_of few table ≤ standing_of many table
    of_table table =
        let count = max (length (row_of few.slots table)) (length (row_of many.slots table)) in
        let one = standing-of few table count (λ rid past. past_cells few table rid (omega (arith, past))) in
        let other = standing-of many table count (λ rid past. past_cells many table rid (omega (arith, past))) in
        let sums = sum-less (standing_at few table) (standing_at many table) 0 count (less table) in
        omega (arith, one, other, sums)

-- ---- tables without versions

by_place : {X : Type 0} (P : X → Type 0) (xs : List X) (k : ℕ) (x : X) → All P xs → slice_get xs k ≡ Some x → P x
by_place P xs k x all is = subst P (got xs k x x is) (all k x (below xs k x is))

-- what is below a number is below each greater one, and so is one more
pub All-next : {X : Type 0} (f : X → ℕ) (xs : List X) (i end longer : ℕ) (x : X) → i < length xs → x ≡ get_or xs i x
    → All (λ y. f y < end) (take i xs) → end ≤ longer → f x < longer → All (λ y. f y < longer) (take (i + 1) xs)
All-next f xs i end longer x inside is so_far more here =
    subst (All (λ y. f y < longer)) (sym (take-next xs i x inside ∙ ap (λ y. take i xs ++ y ∷ []) (sym is)))
    (All-push (λ y. f y < longer) (take i xs) x (All-weaker (λ y. f y < end) (λ y. f y < longer) (λ y less. omega (arith, less, more)) (take i xs) so_far) here)

-- a number past the tables of all runs and of all chains
NoneFrom-past : (b : AllVersions) (end : ℕ) → All (λ run. run.table < end) b.runs → All (λ touched. touched.table < end) b.chains → NoneFrom b end
unfolding versions_at
NoneFrom-past b end runs chains = record { each = λ t r past. none t r past (slot_at b t r) }
  where
    none : (t r : ℕ) → end ≤ t → (slot : Slot) → versions_in b.runs b.chains t r slot ≡ []
    none t r past Empty = refl
    none t r past (InRun number) = by (run_at b.runs number t r) refl
      where
        by : (o : Option Run) → run_at b.runs number t r ≡ o → run_versions r o ≡ []
        by None is = refl
        by (Some run) is =
            let found = found_run b.runs number t r run is in
            let both = is_in-true run.table run.first (length (rows_in run.rows)) t r found.own in
            let less = by_place (λ (x : Run). x.table < end) b.runs number run runs found.at in
            let same = both.0 in
            absurd (omega (arith, less, same, past))
    none t r past (InChain number) = by (chain_at b.chains number t r) refl
      where
        by : (o : Option Touched) → chain_at b.chains number t r ≡ o → chain_versions o ≡ []
        by None is = refl
        by (Some touched) is =
            let found = found_some b.chains number t r (ap is_some is) in
            let same = eq-true found.was.table t (and-true (found.was.table == t) (found.was.rid == r) found.own).0 in
            let less = by_place (λ (x : Touched). x.table < end) b.chains number found.was chains found.at in
            absurd (omega (arith, less, same, past))

-- a number that is at least one past the tables of all runs and one past those of all chains
pub NoneFrom-both : (b : AllVersions) (runs chains end : ℕ) → All (λ run. run.table < runs) b.runs → All (λ touched. touched.table < chains) b.chains
    → end ≡ max runs chains → NoneFrom b end
NoneFrom-both b runs chains end of_runs of_chains is =
    NoneFrom-past b end (All-weaker (λ (x : Run). x.table < runs) (λ x. x.table < end) (λ x less. omega (arith, less, is)) b.runs of_runs)
    (All-weaker (λ (x : Touched). x.table < chains) (λ x. x.table < end) (λ x less. omega (arith, less, is)) b.chains of_chains)
