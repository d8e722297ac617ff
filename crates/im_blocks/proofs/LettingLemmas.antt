-- What is left of all versions at a floor.
use Rattle.std.proofs.Common.{◌≡◌, ℕ, ◌+◌, ◌-◌, ◌<◌, ◌≤◌, Bool, true, false, List, [], ◌∷◌, ◌++◌, drop, length, set, take, Option, Some, None, is_some, if◌then◌else◌, refl, sym, ap, ◌∙◌, subst, ⊎_elim, arith}
use Rattle.std.specs.Prelude.{slice_get}
use Rattle.std.proofs.lemmas.Bool.{cases_eq, cases_lt}
use Rattle.std.proofs.lemmas.List.Elements.{All-nil}
use Rattle.std.proofs.lemmas.Option.{slice_get-get_or, slice_get_past}
use Rattle.im_tables.proofs.Wholes.{written-all}
use Rattle.im_versions.specs.declared.version.Version.{Version}
use Rattle.im_versions.specs.Versions.{IsRising, cut}
use Rattle.im_versions.proofs.ForCallers.{cut-nothing, cut-row}
use Rattle.im_blocks.specs.declared.run.Run.{Run}
use Rattle.im_blocks.specs.declared.slot.Slot.{Slot}
use Rattle.im_blocks.specs.declared.slot.Slot.TheVariants.{Empty, InRun, InChain}
use Rattle.im_blocks.specs.declared.touched.Touched.{Touched}
use Rattle.im_blocks.specs.Chains.{AllVersions, chain_versions, is_of, only, run_at, run_versions, slot_at, versions_at, versions_in}
use Rattle.im_blocks.specs.Runs.{holds, rows_in, version_in}
use Rattle.im_blocks.specs.Transitions.{Purged}
use Rattle.im_blocks.specs.inner.Letting.{ArePurged, IsPurged}
use Rattle.im_blocks.proofs.Places.{set-apart, set-here}
use Rattle.im_blocks.proofs.RunLemmas.{found_run, in_rows-true, is_in-true}

-- of no versions none are left
pub cut-none : (floor : ℕ) → cut floor [] ≡ []
cut-none floor = cut-nothing floor [] (All-nil (λ (v : Version). floor < v.scn))

rising_none : IsRising []
rising_none k d h = absurd (omega (arith, h))

rising_alone : (version : Version) → IsRising (version ∷ [])
rising_alone version k d h = absurd (omega (arith, h))

-- ---- the chains, one by one

-- a chain at a place is purged, or there is none
abbrev IsPurgedAt : ℕ → Option Touched → Option Touched → Type 0
IsPurgedAt floor None None = Unit {0}
IsPurgedAt floor None (Some new) = ⊥
IsPurgedAt floor (Some old) None = ⊥
IsPurgedAt floor (Some old) (Some new) = IsPurged old new floor

-- so many of the first chains are purged, and the others are as before
pub record ArePurgedTo (old new : List Touched) (floor count : ℕ) : Type 0 where
  pub done : (k : ℕ) → k < count → IsPurgedAt floor (slice_get old k) (slice_get new k)
  pub rest : (k : ℕ) → count ≤ k → slice_get new k ≡ slice_get old k

pub ArePurgedTo-none : (chains : List Touched) (floor : ℕ) → ArePurgedTo chains chains floor 0
ArePurgedTo-none chains floor = record { done = λ k below. absurd (omega (arith, below)); rest = λ k from. refl }

pub ArePurgedTo-next : (old new : List Touched) (floor count : ℕ) (was is : Touched) → ArePurgedTo old new floor count → slice_get new count ≡ Some was
    → IsPurged was is floor → ArePurgedTo old (set new count is) floor (count + 1)
ArePurgedTo-next old new floor count was is so_far at purged = record {
  done = λ k below.
      ⊎_elim
      (λ (here : k ≡ count). subst (λ (n : ℕ). IsPurgedAt floor (slice_get old n) (slice_get (set new count is) n)) (sym here) one)
      (λ (apart : k ≡ count → ⊥).
      subst (λ (o : Option Touched). IsPurgedAt floor (slice_get old k) o) (sym (set-apart new count k is apart)) (so_far.done k (omega (arith, below, apart))))
      (cases_eq k count);
  rest = λ k from. set-apart new count k is (λ here. omega (arith, from, here)) ∙ so_far.rest k (omega (arith, from));
}
  where
    one : IsPurgedAt floor (slice_get old count) (slice_get (set new count is) count)
    one =
        subst (λ (o : Option Touched). IsPurgedAt floor o (slice_get (set new count is) count)) (sym at ∙ so_far.rest count (omega arith))
        (subst (λ (o : Option Touched). IsPurgedAt floor (Some was) o) (sym (set-here new count was is at)) purged)

-- what a chain shows for a row number
abbrev seen_of : ℕ → ℕ → Option Touched → List Version
seen_of t r touched = chain_versions (only (λ (x : Touched). is_of x t r) touched)

seen-purged : (floor t r : ℕ) (old new : Option Touched) → IsPurgedAt floor old new → seen_of t r new ≡ cut floor (seen_of t r old)
seen-purged floor t r None None purged = sym (cut-none floor)
seen-purged floor t r None (Some new) purged = absurd purged
seen-purged floor t r (Some old) None purged = absurd purged
seen-purged floor t r (Some old) (Some new) purged = ap (λ (b : Bool). chain_versions (if b then Some new else None)) owner ∙ by (is_of old t r)
  where
    owner : is_of new t r ≡ is_of old t r
    owner = rw (purged.table_is, purged.rid_is) refl

    by : (b : Bool) → chain_versions (if b then Some new else None) ≡ cut floor (chain_versions (if b then Some old else None))
    by true = purged.versions_are
    by false = sym (cut-none floor)

seen-rising : (floor t r : ℕ) (old new : Option Touched) → IsPurgedAt floor old new → IsRising (seen_of t r old)
seen-rising floor t r None None purged = rising_none
seen-rising floor t r None (Some new) purged = absurd purged
seen-rising floor t r (Some old) None purged = absurd purged
seen-rising floor t r (Some old) (Some new) purged = by (is_of old t r)
  where
    by : (b : Bool) → IsRising (chain_versions (if b then Some old else None))
    by true = purged.rising
    by false = rising_none

-- all are
ArePurged-all : (old new : List Touched) (floor count : ℕ) → ArePurgedTo old new floor count → length new ≤ count → ArePurged old new floor
ArePurged-all old new floor count so_far all = record {
  each = λ number t r. seen-purged floor t r (slice_get old number) (slice_get new number) (at number);
  rising = λ number t r. seen-rising floor t r (slice_get old number) (slice_get new number) (at number);
}
  where
    at : (k : ℕ) → IsPurgedAt floor (slice_get old k) (slice_get new k)
    at k =
        ⊎_elim
        (λ (below : k < count). so_far.done k below)
        (λ (past : count ≤ k).
        let none : slice_get new k ≡ None = slice_get_past new k (omega (arith, past, all)) in
        subst (λ (o : Option Touched). IsPurgedAt floor (slice_get old k) o) (sym none)
        (subst (λ (o : Option Touched). IsPurgedAt floor o None) (sym none ∙ so_far.rest k past) tt))
        (cases_lt k count)

-- as they are written back
pub ArePurged-written : (old new : List Touched) (floor count many : ℕ) → ArePurgedTo old new floor count → length new ≡ length old → many ≡ length old
    → length old ≤ count → ArePurged old (take many (new ++ drop (length new) old)) floor
ArePurged-written old new floor count many so_far long many_is all =
    let whole : take many (new ++ drop (length new) old) ≡ new =
    ap (λ (n : ℕ). take n (new ++ drop (length new) old)) many_is ∙ written-all old new long in
    subst (λ (l : List Touched). ArePurged old l floor) (sym whole) (ArePurged-all old new floor count so_far (omega (arith, long, all)))

-- ---- the versions of each row number

-- a run has a row of each row number that it holds
has_row : (run : Run) (t r : ℕ) → holds run t r ≡ true → is_some (version_in run r).row ≡ true
has_row run t r own =
    let rows = rows_in run.rows in
    let both = is_in-true run.table run.first (length rows) t r own in
    let lies = in_rows-true run.first (length rows) r both.1 in
    let from = lies.from in
    let to = lies.to in
    ap is_some (slice_get-get_or rows (r - run.first) [] (omega (arith, from, to)))

-- so its version stays
run-cut : (floor : ℕ) (runs : List Run) (number t r : ℕ) → run_versions r (run_at runs number t r) ≡ cut floor (run_versions r (run_at runs number t r))
run-cut floor runs number t r = by (run_at runs number t r) refl
  where
    by : (o : Option Run) → run_at runs number t r ≡ o → run_versions r o ≡ cut floor (run_versions r o)
    by None is = sym (cut-none floor)
    by (Some run) is = sym (cut-row floor (version_in run r) (has_row run t r (found_run runs number t r run is).own))

run-rising : (r : ℕ) (run : Option Run) → IsRising (run_versions r run)
run-rising r None = rising_none
run-rising r (Some run) = rising_alone (version_in run r)

-- where the chains are purged, all versions are
pub Purged-chains : (b : AllVersions) (chains : List Touched) (floor : ℕ) → ArePurged b.chains chains floor
    → Purged b (record { slots = b.slots; runs = b.runs; chains = chains; room = b.room }) floor
unfolding versions_at
Purged-chains b chains floor purged = record {
  versions = λ t r. left t r (slot_at b t r);
  rising = λ t r. rises t r (slot_at b t r);
}
  where
    left : (t r : ℕ) (slot : Slot) → versions_in b.runs chains t r slot ≡ cut floor (versions_in b.runs b.chains t r slot)
    left t r Empty = sym (cut-none floor)
    left t r (InRun number) = run-cut floor b.runs number t r
    left t r (InChain number) = purged.each number t r

    rises : (t r : ℕ) (slot : Slot) → IsRising (versions_in b.runs b.chains t r slot)
    rises t r Empty = rising_none
    rises t r (InRun number) = run-rising r (run_at b.runs number t r)
    rises t r (InChain number) = purged.rising number t r
