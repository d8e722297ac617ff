-- The versions of all rows, where a slot, a run or a chain changes.
use Prim.Native.Nat.{zero, suc}
use Rattle.std.proofs.Common.{◌≡◌, ℕ, ◌+◌, ◌-◌, ◌<◌, ◌≤◌, ◌==◌, ◌&&◌, ◌⊎◌, inl, Bool, true, false, List, [], ◌∷◌, ◌++◌, length, set, Option, Some, None, if◌then◌else◌, refl, sym, ap, ◌∙◌, subst, ⊎_elim, arith, le_refl}
use Rattle.std.specs.Prelude.{slice_get}
use Rattle.std.specs.Option.{is_some}
use Rattle.std.proofs.lemmas.Bool.{cases_eq, eq-eqb, ne_eqb, true≢false}
use Rattle.im_tables.specs.Table.{HasCell, IsGrown, row_of, with_cell}
use Rattle.im_tables.proofs.Tests.{and-true, eq-true}
use Rattle.im_tables.proofs.ForCallers.{HasCell-grown, HasCell-with_cell, cell_at-past, cell_at-with_cell_other, cell_at-with_cell_same, same_cell}
use Rattle.im_values.specs.declared.content.Content.{Content as Value}
use Rattle.im_versions.specs.declared.version.Version.{Version}
use Rattle.im_blocks.specs.declared.run.Run.{Run}
use Rattle.im_blocks.specs.declared.slot.Slot.{Slot}
use Rattle.im_blocks.specs.declared.slot.Slot.TheVariants.{Empty, InRun, InChain}
use Rattle.im_blocks.specs.declared.touched.Touched.{Touched}
use Rattle.im_blocks.specs.Chains.{AllVersions, IsReady, chain_at, chain_spare, chain_versions, is_of, newest_scn, only, run_at, run_versions, slot_at, spare_in, versions_at, versions_in}
use Rattle.im_blocks.specs.Chains.IsReady.{HasChain, IsBlank}
use Rattle.im_blocks.specs.Transitions.{SameVersions}
use Rattle.im_blocks.specs.Readied.{IsFree}
use Rattle.im_blocks.specs.Runs.{holds, is_in, rows_in, version_in}
use Rattle.im_blocks.specs.inner.Handing.{HasTaken, HasTakenRun, IsOnly, MayTakeRun, versions_after}
use Rattle.im_blocks.specs.inner.Puts.{HasEntered, IsChained, IsOneLonger, IsRoomier}
use Rattle.im_blocks.proofs.Places.{push-here, push-seen, set-here, set-seen}
use Rattle.im_blocks.proofs.RunLemmas.{in_rows-from, in_rows-true, is_in-from, is_in-here, is_in-one, is_in-same, is_in-true, run-here, run-kept, run-others}

-- ---- what stands in a slot

pub in_slot : (b : AllVersions) (t r : ℕ) (slot : Slot) → slot_at b t r ≡ slot → versions_in b.runs b.chains t r slot ≡ versions_at b t r
unfolding versions_at
in_slot b t r slot is = ap (versions_in b.runs b.chains t r) (sym is)

pub in_run : (b : AllVersions) (t r number : ℕ) (run : Option Run) → slot_at b t r ≡ InRun number → run ≡ run_at b.runs number t r
    → run_versions r run ≡ versions_at b t r
in_run b t r number run is found = ap (run_versions r) found ∙ in_slot b t r (InRun number) is

pub in_chain : (b : AllVersions) (t r number : ℕ) (touched : Option Touched) → slot_at b t r ≡ InChain number → touched ≡ chain_at b.chains number t r
    → chain_versions touched ≡ versions_at b t r
in_chain b t r number touched is found = ap chain_versions found ∙ in_slot b t r (InChain number) is

-- ---- room alone

-- more room for runs
pub SameVersions-room : (b : AllVersions) (runs : List Run) (more : ℕ) → runs ≡ b.runs → b.room ≤ more
    → SameVersions b (record { slots = b.slots; runs = runs; chains = b.chains; room = more })
unfolding versions_at
SameVersions-room b runs more same room = record {
  versions = λ t r. ap (λ (rs : List Run). versions_in rs b.chains t r (slot_at b t r)) same;
  ready = λ t r put ready. stays t r put ready;
  cells = λ t r has. has;
  room = room;
}
  where
    stays : (t r : ℕ) (put : Bool) → IsReady b t r put → IsReady (record { slots = b.slots; runs = runs; chains = b.chains; room = more }) t r put
    stays t r put (HasChain has) = HasChain has
    stays t r put (IsBlank some blank there) = IsBlank some blank there

-- growth of slots
pub SameVersions-grown : (b : AllVersions) (slots : List (List Slot)) → IsGrown Empty b.slots slots
    → SameVersions b (record { slots = slots; runs = b.runs; chains = b.chains; room = b.room })
unfolding versions_at
SameVersions-grown b slots grown = record {
  versions = λ t r. ap (versions_in b.runs b.chains t r) (grown.cells t r);
  ready = λ t r put ready. stays t r put ready;
  cells = λ t r has. HasCell-grown Empty b.slots slots t r grown has;
  room = le_refl _;
}
  where
    stays : (t r : ℕ) (put : Bool) → IsReady b t r put → IsReady (record { slots = slots; runs = b.runs; chains = b.chains; room = b.room }) t r put
    stays t r put (HasChain has) = HasChain (subst (λ (s : Slot). 0 < spare_in b.chains t r s) (sym (grown.cells t r)) has)
    stays t r put (IsBlank some blank there) =
        IsBlank some (grown.cells t r ∙ blank) (HasCell-grown Empty b.slots slots t r grown there)

-- ---- chains

-- what a chain shows for a row number
abbrev seen_of : ℕ → ℕ → Option Touched → Option Touched
seen_of t r touched = only (λ (x : Touched). is_of x t r) touched

is_of-here : (x : Touched) (t r : ℕ) → x.table ≡ t → x.rid ≡ r → is_of x t r ≡ true
is_of-here x t r table_is rid_is = rw (eq-eqb x.table t table_is, eq-eqb x.rid r rid_is) refl

and-false : (a : Bool) → (a && false) ≡ false
and-false true = refl
and-false false = refl

is_of-other : (x : Touched) (table rid t r : ℕ) → x.table ≡ table → x.rid ≡ rid → (t ≡ table → r ≡ rid → ⊥) → is_of x t r ≡ false
is_of-other x table rid t r table_is rid_is apart =
    ⊎_elim
    (λ (is : t ≡ table). rw (ne_eqb x.rid r (λ e. apart is (sym e ∙ rid_is))) (and-false (x.table == t)))
    (λ (no : t ≡ table → ⊥). rw (ne_eqb x.table t (λ e. no (sym e ∙ table_is))) refl)
    (cases_eq t table)

shows_itself : (x : Touched) (t r : ℕ) → is_of x t r ≡ true → seen_of t r (Some x) ≡ Some x
shows_itself x t r is = rw is refl

shows_nothing : (x : Touched) (t r : ℕ) → is_of x t r ≡ false → seen_of t r (Some x) ≡ None
shows_nothing x t r is = rw is refl

-- a chain that was found
pub record Found (chains : List Touched) (number t r : ℕ) : Type 0 where
  pub was : Touched
  pub at : slice_get chains number ≡ Some was
  pub own : is_of was t r ≡ true
  pub is : chain_at chains number t r ≡ Some was

pub found_some : (chains : List Touched) (number t r : ℕ) → is_some (chain_at chains number t r) ≡ true → Found chains number t r
found_some chains number t r some = from (slice_get chains number) refl
  where
    by_owner : (x : Touched) → slice_get chains number ≡ Some x → (own : Bool) → is_of x t r ≡ own → Found chains number t r
    by_owner x e true own = record { was = x; at = e; own = own; is = ap (seen_of t r) e ∙ shows_itself x t r own }
    by_owner x e false own =
        absurd (true≢false (sym some ∙ ap is_some (ap (seen_of t r) e ∙ shows_nothing x t r own)))

    from : (o : Option Touched) → slice_get chains number ≡ o → Found chains number t r
    from None e = absurd (true≢false (sym some ∙ ap (λ (o : Option Touched). is_some (seen_of t r o)) e))
    from (Some x) e = by_owner x e (is_of x t r) refl

pub not_found : {X : Type 0} (o : Option X) → is_some o ≡ false → o ≡ None
not_found None e = refl
not_found (Some x) e = absurd (true≢false e)

-- a row number that is ready and has a slot of a chain has one
pub ready_chain : (b : AllVersions) (t r number : ℕ) (put : Bool) → slot_at b t r ≡ InChain number → IsReady b t r put → Found b.chains number t r
ready_chain b t r number put slot (HasChain has) =
    found_some b.chains number t r (with_spare (chain_at b.chains number t r) (subst (λ (s : Slot). 0 < spare_in b.chains t r s) slot has))
  where
    with_spare : (o : Option Touched) → 0 < chain_spare o → is_some o ≡ true
    with_spare None some = absurd (omega (arith, some))
    with_spare (Some x) some = refl
ready_chain b t r number put slot (IsBlank some blank there) = absurd (cc (slot, blank))

-- and that chain has room
pub ready_spare : (b : AllVersions) (t r number : ℕ) (put : Bool) (was : Touched) → slot_at b t r ≡ InChain number → IsReady b t r put
    → chain_at b.chains number t r ≡ Some was → 0 < was.chain.spare
ready_spare b t r number put was slot (HasChain has) is =
    subst (λ (o : Option Touched). 0 < chain_spare o) is (subst (λ (s : Slot). 0 < spare_in b.chains t r s) slot has)
ready_spare b t r number put was slot (IsBlank some blank there) is = absurd (cc (slot, blank))

-- ---- one row number has another slot

-- a slot that is set, with runs and chains in which each other row number has what it had
pub IsOnly-slot : (b : AllVersions) (t r room : ℕ) (slot : Slot) (runs : List Run) (chains : List Touched) → HasCell b.slots t r
    → ((k u v : ℕ) → (u ≡ t → v ≡ r → ⊥) → run_versions v (run_at runs k u v) ≡ run_versions v (run_at b.runs k u v))
    → ((k u v : ℕ) → (u ≡ t → v ≡ r → ⊥) → chain_at chains k u v ≡ chain_at b.chains k u v)
    → b.room ≤ room + 1
    → IsOnly b (record { slots = with_cell t r slot b.slots; runs = runs; chains = chains; room = room }) t r
unfolding versions_at
IsOnly-slot b t r room slot runs chains there same_runs same_chains enough = record {
  others = λ u v apart. ap (versions_in runs chains u v) (stays u v apart) ∙ same u v apart (slot_at b u v);
  ready = λ u v put apart ready. still u v put apart ready;
  cells = λ u v has. HasCell-with_cell b.slots t r slot u v has;
  room = enough;
}
  where
    new : AllVersions
    new = record { slots = with_cell t r slot b.slots; runs = runs; chains = chains; room = room }

    stays : (u v : ℕ) → (u ≡ t → v ≡ r → ⊥) → slot_at new u v ≡ slot_at b u v
    stays u v apart = cell_at-with_cell_other Empty b.slots t r slot u v apart

    same : (u v : ℕ) → (u ≡ t → v ≡ r → ⊥) → (s : Slot) → versions_in runs chains u v s ≡ versions_in b.runs b.chains u v s
    same u v apart Empty = refl
    same u v apart (InRun k) = same_runs k u v apart
    same u v apart (InChain k) = ap chain_versions (same_chains k u v apart)

    spare : (u v : ℕ) → (u ≡ t → v ≡ r → ⊥) → (s : Slot) → spare_in chains u v s ≡ spare_in b.chains u v s
    spare u v apart Empty = refl
    spare u v apart (InRun k) = refl
    spare u v apart (InChain k) = ap chain_spare (same_chains k u v apart)

    still : (u v : ℕ) (put : Bool) → (u ≡ t → v ≡ r → ⊥) → IsReady b u v put → IsReady new u v put
    still u v put apart (HasChain has) =
        HasChain (subst (λ (n : ℕ). 0 < n) (sym (ap (spare_in chains u v) (stays u v apart) ∙ spare u v apart (slot_at b u v))) has)
    still u v put apart (IsBlank some blank has) = IsBlank some (stays u v apart ∙ blank) (HasCell-with_cell b.slots t r slot u v has)

slot_here : (b : AllVersions) (t r room : ℕ) (slot : Slot) (runs : List Run) (chains : List Touched) → HasCell b.slots t r
    → slot_at (record { slots = with_cell t r slot b.slots; runs = runs; chains = chains; room = room }) t r ≡ slot
slot_here b t r room slot runs chains there = cell_at-with_cell_same Empty b.slots t r slot there

-- where the one row number has what it had, and is ready, all have
pub SameVersions-only : (old new : AllVersions) (t r : ℕ) → IsOnly old new t r → versions_at new t r ≡ versions_at old t r
    → ((put : Bool) → IsReady new t r put) → old.room ≤ new.room → SameVersions old new
SameVersions-only old new t r others here ready room = record {
  versions = λ u v.
      ⊎_elim
      (λ (is : (u ≡ t) × (v ≡ r)).
      subst (λ (k : ℕ). versions_at new k v ≡ versions_at old k v) (sym is.0)
      (subst (λ (k : ℕ). versions_at new t k ≡ versions_at old t k) (sym is.1) here))
      (λ (apart : u ≡ t → v ≡ r → ⊥). others.others u v apart) (same_cell t r u v);
  ready = λ u v put was.
      ⊎_elim
      (λ (is : (u ≡ t) × (v ≡ r)).
      subst (λ (k : ℕ). IsReady new k v put) (sym is.0) (subst (λ (k : ℕ). IsReady new t k put) (sym is.1) (ready put)))
      (λ (apart : u ≡ t → v ≡ r → ⊥). others.ready u v put apart was) (same_cell t r u v);
  cells = others.cells;
  room = room;
}

-- ---- a chain is added

-- the row number's slot names it
pub spare-chained : (b : AllVersions) (t r number : ℕ) (chains : List Touched) (versions : List Version) → HasCell b.slots t r
    → IsChained b.chains chains number t r versions
    → 0 < spare_in chains t r (slot_at (record { slots = with_cell t r (InChain number) b.slots; runs = b.runs; chains = chains; room = b.room }) t r)
spare-chained b t r number chains versions there chained =
    let named = slot_here b t r b.room (InChain number) b.runs chains there in
    let found : chain_at chains number t r ≡ Some chained.chain =
    rw (chained.new_is, chained.at)
    (ap (seen_of t r) (push-here b.chains chained.chain)
    ∙ shows_itself chained.chain t r (is_of-here chained.chain t r chained.table_is chained.rid_is)) in
    subst (λ (s : Slot). 0 < spare_in chains t r s) (sym named)
    (subst (λ (o : Option Touched). 0 < chain_spare o) (sym found) chained.room)

pub SameVersions-chained : (b : AllVersions) (t r number : ℕ) (chains : List Touched) → HasCell b.slots t r
    → IsChained b.chains chains number t r (versions_at b t r)
    → SameVersions b (record { slots = with_cell t r (InChain number) b.slots; runs = b.runs; chains = chains; room = b.room })
unfolding versions_at
SameVersions-chained b t r number chains there chained =
    let new : AllVersions = record { slots = with_cell t r (InChain number) b.slots; runs = b.runs; chains = chains; room = b.room } in
    let named = slot_here b t r b.room (InChain number) b.runs chains there in
    let found : chain_at chains number t r ≡ Some chained.chain =
    rw (chained.new_is, chained.at)
    (ap (seen_of t r) (push-here b.chains chained.chain)
    ∙ shows_itself chained.chain t r (is_of-here chained.chain t r chained.table_is chained.rid_is)) in
    SameVersions-only b new t r
    (IsOnly-slot b t r b.room (InChain number) b.runs chains there (λ k u v apart. refl)
    (λ k u v apart.
    ap (λ (cs : List Touched). chain_at cs k u v) chained.new_is
    ∙ push-seen (seen_of u v) b.chains chained.chain k
    (shows_nothing chained.chain u v (is_of-other chained.chain t r u v chained.table_is chained.rid_is apart))) (omega arith))
    (ap (versions_in b.runs chains t r) named ∙ (ap chain_versions found ∙ chained.versions_are))
    (λ put. HasChain (spare-chained b t r number chains (versions_at b t r) there chained)) (le_refl _)

-- ---- a chain changes in its place

-- it has more room
pub SameVersions-roomier : (b : AllVersions) (number : ℕ) (was is : Touched) → slice_get b.chains number ≡ Some was → IsRoomier was is
    → SameVersions b (record { slots = b.slots; runs = b.runs; chains = set b.chains number is; room = b.room })
unfolding versions_at
SameVersions-roomier b number was is at roomier = record {
  versions = λ t r. same t r (slot_at b t r);
  ready = λ t r put ready. still t r put ready;
  cells = λ t r has. has;
  room = le_refl _;
}
  where
    chains : List Touched
    chains = set b.chains number is

    owner : (t r : ℕ) → is_of is t r ≡ is_of was t r
    owner t r = rw (roomier.table_is, roomier.rid_is) refl

    shows : (t r : ℕ) (c : Bool) → chain_versions (if c then Some is else None) ≡ chain_versions (if c then Some was else None)
    shows t r true = roomier.versions_are
    shows t r false = refl

    same : (t r : ℕ) (s : Slot) → versions_in b.runs chains t r s ≡ versions_in b.runs b.chains t r s
    same t r Empty = refl
    same t r (InRun k) = refl
    same t r (InChain k) =
        set-seen (λ o. chain_versions (seen_of t r o)) b.chains number k was is at
        (ap (λ (c : Bool). chain_versions (if c then Some is else None)) (owner t r) ∙ shows t r (is_of was t r))

    spares : (t r : ℕ) (c : Bool) → 0 < chain_spare (if c then Some was else None) → 0 < chain_spare (if c then Some is else None)
    spares t r true some = let more = roomier.more in omega (arith, more, some)
    spares t r false some = some

    spares_owned : (t r : ℕ) → 0 < chain_spare (seen_of t r (Some was)) → 0 < chain_spare (seen_of t r (Some is))
    spares_owned t r some =
        subst (λ (c : Bool). 0 < chain_spare (if c then Some is else None)) (sym (owner t r)) (spares t r (is_of was t r) some)

    place : (cs : List Touched) (k j : ℕ) (t r : ℕ) → slice_get cs k ≡ Some was → 0 < chain_spare (seen_of t r (slice_get cs j))
        → 0 < chain_spare (seen_of t r (slice_get (set cs k is) j))
    place [] k j t r here some = absurd (cc here)
    place (c ∷ cs) zero zero t r here some = spares_owned t r (subst (λ (o : Option Touched). 0 < chain_spare (seen_of t r o)) here some)
    place (c ∷ cs) zero (suc j) t r here some = some
    place (c ∷ cs) (suc k) zero t r here some = some
    place (c ∷ cs) (suc k) (suc j) t r here some = place cs k j t r here some

    spare : (t r : ℕ) (s : Slot) → 0 < spare_in b.chains t r s → 0 < spare_in chains t r s
    spare t r Empty some = some
    spare t r (InRun k) some = some
    spare t r (InChain k) some = place b.chains number k t r at some

    still : (t r : ℕ) (put : Bool) → IsReady b t r put → IsReady (record { slots = b.slots; runs = b.runs; chains = chains; room = b.room }) t r put
    still t r put (HasChain has) = HasChain (spare t r (slot_at b t r) has)
    still t r put (IsBlank some blank there) = IsBlank some blank there

-- it has one version more, of a later commit
pub HasTaken-chain : (b : AllVersions) (table rid number scn : ℕ) (row : Option (List Value)) (was is : Touched) → slot_at b table rid ≡ InChain number
    → chain_at b.chains number table rid ≡ Some was → slice_get b.chains number ≡ Some was → is_of was table rid ≡ true
    → IsOneLonger was is scn row → (newest_scn (versions_at b table rid) ≡ scn → ⊥)
    → HasTaken b (record { slots = b.slots; runs = b.runs; chains = set b.chains number is; room = b.room }) table rid scn row
unfolding versions_at
HasTaken-chain b table rid number scn row was is slot found at own longer later = record {
  only = record {
    others = λ t r apart. same t r apart (slot_at b t r);
    ready = λ t r put apart ready. still t r put apart ready;
    cells = λ t r has. has;
    room = omega arith;
  };
  versions = ap (versions_in b.runs chains table rid) slot
      ∙ (ap chain_versions now ∙ (longer.versions_are
      ∙ (ap (λ (vs : List Version). vs ++ record { scn = scn; row = row } ∷ []) was_here
      ∙ sym (not_yet (versions_at b table rid) later))));
}
  where
    chains : List Touched
    chains = set b.chains number is

    owner : (was.table ≡ table) × (was.rid ≡ rid)
    owner = let both = and-true (was.table == table) (was.rid == rid) own in (eq-true was.table table both.0, eq-true was.rid rid both.1)

    now : chain_at chains number table rid ≡ Some is
    now = ap (seen_of table rid) (set-here b.chains number was is at)
        ∙ shows_itself is table rid (is_of-here is table rid (longer.table_is ∙ owner.0) (longer.rid_is ∙ owner.1))

    was_here : was.chain.versions ≡ versions_at b table rid
    was_here = in_chain b table rid number (Some was) slot (sym found)

    not_yet : (vs : List Version) → (newest_scn vs ≡ scn → ⊥) → versions_after scn row vs ≡ vs ++ record { scn = scn; row = row } ∷ []
    not_yet vs apart = rw (ne_eqb (newest_scn vs) scn apart) refl

    shows_none : (t r : ℕ) → (t ≡ table → r ≡ rid → ⊥) → seen_of t r (Some is) ≡ seen_of t r (Some was)
    shows_none t r apart =
        shows_nothing is t r (is_of-other is table rid t r (longer.table_is ∙ owner.0) (longer.rid_is ∙ owner.1) apart)
        ∙ sym (shows_nothing was t r (is_of-other was table rid t r owner.0 owner.1 apart))

    place : (k t r : ℕ) → (t ≡ table → r ≡ rid → ⊥) → chain_at chains k t r ≡ chain_at b.chains k t r
    place k t r apart = set-seen (seen_of t r) b.chains number k was is at (shows_none t r apart)

    same : (t r : ℕ) → (t ≡ table → r ≡ rid → ⊥) → (s : Slot) → versions_in b.runs chains t r s ≡ versions_in b.runs b.chains t r s
    same t r apart Empty = refl
    same t r apart (InRun k) = refl
    same t r apart (InChain k) = ap chain_versions (place k t r apart)

    spare : (t r : ℕ) → (t ≡ table → r ≡ rid → ⊥) → (s : Slot) → spare_in chains t r s ≡ spare_in b.chains t r s
    spare t r apart Empty = refl
    spare t r apart (InRun k) = refl
    spare t r apart (InChain k) = ap chain_spare (place k t r apart)

    still : (t r : ℕ) (put : Bool) → (t ≡ table → r ≡ rid → ⊥) → IsReady b t r put
        → IsReady (record { slots = b.slots; runs = b.runs; chains = chains; room = b.room }) t r put
    still t r put apart (HasChain has) = HasChain (subst (λ (n : ℕ). 0 < n) (sym (spare t r apart (slot_at b t r))) has)
    still t r put apart (IsBlank some blank there) = IsBlank some blank there

-- ---- a run is put behind the others

-- its row numbers have its versions, unless they have one of its commit
pub HasTakenRun-put : (b : AllVersions) (run : Run) (slots : List (List Slot)) (room : ℕ) → 0 < run.scn
    → ((t r : ℕ) → holds run t r ≡ true → (versions_at b t r ≡ []) ⊎ (newest_scn (versions_at b t r) ≡ run.scn))
    → HasEntered b.runs b.chains (length b.runs) run b.slots slots → b.room ≤ room + 1
    → HasTakenRun b (record { slots = slots; runs = b.runs ++ run ∷ []; chains = b.chains; room = room }) run.table run.first run.scn (rows_in run.rows)
unfolding versions_at
HasTakenRun-put b run slots room some free went enough = record {
  here = λ t r is. shown_here t r is;
  others = λ t r no. ap (versions_in runs b.chains t r) (went.others t r no) ∙ same t r no (slot_at b t r);
  ready = λ t r put no ready. still t r put no ready;
  cells = went.cells;
  room = enough;
}
  where
    runs : List Run
    runs = b.runs ++ run ∷ []

    new : AllVersions
    new = record { slots = slots; runs = runs; chains = b.chains; room = room }

    same : (t r : ℕ) → holds run t r ≡ false → (s : Slot) → versions_in runs b.chains t r s ≡ versions_in b.runs b.chains t r s
    same t r off Empty = refl
    same t r off (InRun k) = run-others b.runs run k t r off
    same t r off (InChain k) = refl

    still : (t r : ℕ) (put : Bool) → holds run t r ≡ false → IsReady b t r put → IsReady new t r put
    still t r put off (HasChain has) = HasChain (subst (λ (s : Slot). 0 < spare_in b.chains t r s) (sym (went.others t r off)) has)
    still t r put off (IsBlank some blank there) = IsBlank some (went.others t r off ∙ blank) (went.cells t r there)

    kept : (t r : ℕ) (s : Slot) → newest_scn (versions_in b.runs b.chains t r s) ≡ run.scn → versions_in runs b.chains t r s ≡ versions_in b.runs b.chains t r s
    kept t r Empty newest = refl
    kept t r (InRun k) newest = run-kept b.runs run k t r run.scn some newest
    kept t r (InChain k) newest = refl

    shown_here : (t r : ℕ) → holds run t r ≡ true
        → versions_at new t r ≡ versions_after run.scn (slice_get (rows_in run.rows) (r - run.first)) (versions_at b t r)
    shown_here t r is = by (newest_scn (versions_at b t r) == run.scn) refl
      where
        by : (c : Bool) → (newest_scn (versions_at b t r) == run.scn) ≡ c
            → versions_at new t r ≡ versions_after run.scn (slice_get (rows_in run.rows) (r - run.first)) (versions_at b t r)
        by true equal =
            let slot : slot_at new t r ≡ slot_at b t r =
            went.here t r is ∙ ap (λ (c : Bool). if c then slot_at b t r else InRun (length b.runs)) equal in
            ap (versions_in runs b.chains t r) slot
            ∙ (kept t r (slot_at b t r) (eq-true (newest_scn (versions_at b t r)) run.scn equal)
            ∙ sym (ap (λ (c : Bool). if c then versions_at b t r else versions_at b t r ++ version_in run r ∷ []) equal))
        by false differs =
            let slot : slot_at new t r ≡ InRun (length b.runs) =
            went.here t r is ∙ ap (λ (c : Bool). if c then slot_at b t r else InRun (length b.runs)) differs in
            let none : versions_at b t r ≡ [] =
            ⊎_elim (λ (none : versions_at b t r ≡ []). none)
            (λ (equal : newest_scn (versions_at b t r) ≡ run.scn). absurd (true≢false (sym (eq-eqb _ _ equal) ∙ differs))) (free t r is) in
            ap (versions_in runs b.chains t r) slot
            ∙ (run-here b.runs run t r is
            ∙ sym (ap (λ (c : Bool). if c then versions_at b t r else versions_at b t r ++ version_in run r ∷ []) differs
            ∙ ap (λ (vs : List Version). vs ++ version_in run r ∷ []) none))

-- what stands at a row number that is blank and has a slot
pub record IsBlankCell (b : AllVersions) (table rid : ℕ) : Type 0 where
  pub blank : slot_at b table rid ≡ Empty
  pub there : HasCell b.slots table rid

-- a row number that is ready and has no chain is blank
pub ready_blank : (b : AllVersions) (table rid : ℕ) (put : Bool) → ((k : ℕ) → slot_at b table rid ≡ InChain k → ⊥) → IsReady b table rid put
    → IsBlankCell b table rid
ready_blank b table rid put none (HasChain has) = absurd (by (slot_at b table rid) refl has)
  where
    by : (s : Slot) → slot_at b table rid ≡ s → 0 < spare_in b.chains table rid s → ⊥
    by Empty is some = omega (arith, some)
    by (InRun k) is some = omega (arith, some)
    by (InChain k) is some = none k is
ready_blank b table rid put none (IsBlank some blank there) = record { blank = blank; there = there }

-- a run of one row is put at a row number that has no version
pub MayTakeRun-one : (b : AllVersions) (table rid scn : ℕ) → 0 < scn → slot_at b table rid ≡ Empty → HasCell b.slots table rid → 0 < b.room
    → MayTakeRun b table rid 1 scn
MayTakeRun-one b table rid scn some blank there room = record {
  some = some;
  any = omega arith;
  cells = λ t r is.
      let same = is_in-same table rid t r is in
      subst (λ (k : ℕ). HasCell b.slots k r) (sym same.0) (subst (λ (k : ℕ). HasCell b.slots table k) (sym same.1) there);
  free = λ t r is.
      let same = is_in-same table rid t r is in
      inl (ap (λ (k : ℕ). versions_at b k r) same.0 ∙ (ap (versions_at b table) same.1 ∙ sym (in_slot b table rid Empty blank)));
  room = room;
}

-- and it has taken the row
pub HasTaken-run : (old new : AllVersions) (table rid scn : ℕ) (row : List Value) → HasTakenRun old new table rid scn (row ∷ [])
    → HasTaken old new table rid scn (Some row)
HasTaken-run old new table rid scn row taken =
    let first : rid - rid ≡ 0 = omega arith in
    record {
      only = record {
        others = λ t r apart. taken.others t r (is_in-one table rid t r apart);
        ready = λ t r put apart ready. taken.ready t r put (is_in-one table rid t r apart) ready;
        cells = taken.cells;
        room = taken.room;
      };
      versions = taken.here table rid (is_in-here table rid)
          ∙ ap (λ (k : ℕ). versions_after scn (slice_get (row ∷ []) k) (versions_at old table rid)) first;
    }

-- a chain in its place has the room that it has
pub spare-set : (chains : List Touched) (number t r : ℕ) (was is : Touched) (slot : Slot) → slot ≡ InChain number → slice_get chains number ≡ Some was
    → is_of was t r ≡ true → IsRoomier was is → spare_in (set chains number is) t r slot ≡ is.chain.spare
spare-set chains number t r was is slot named at own roomier =
    let owner : is_of is t r ≡ true = rw (roomier.table_is, roomier.rid_is) own in
    ap (spare_in (set chains number is) t r) named
    ∙ ap chain_spare (ap (seen_of t r) (set-here chains number was is at) ∙ shows_itself is t r owner)

-- ---- row numbers without versions

-- past the slots of a table there are none
pub IsFree-past : (b : AllVersions) (table first count : ℕ) → length (row_of b.slots table) ≤ first → IsFree b table first count
unfolding versions_at
IsFree-past b table first count past = record {
  each = λ t r is.
      let both = is_in-true table first count t r is in
      let lies = in_rows-true first count r both.1 in
      let from = lies.from in
      let long = ap (λ (k : ℕ). length (row_of b.slots k)) both.0 in
      ap (versions_in b.runs b.chains t r) (cell_at-past Empty b.slots t r (omega (arith, past, from, long)));
}

-- each of so many has none
pub IsFree-each : (b : AllVersions) (table first count rid : ℕ) → first + count ≤ rid → ((r : ℕ) → first ≤ r → r < rid → versions_at b table r ≡ [])
    → IsFree b table first count
IsFree-each b table first count rid all none = record {
  each = λ t r is.
      let both = is_in-true table first count t r is in
      let lies = in_rows-true first count r both.1 in
      let to = lies.to in
      ap (λ (k : ℕ). versions_at b k r) (sym both.0) ∙ none r lies.from (omega (arith, to, all));
}

-- where the last of them has a slot, each has
pub cells-to : (slots : List (List Slot)) (table first count last : ℕ) → first + count ≤ last + 1 → HasCell slots table last
    → (t r : ℕ) → is_in table first count t r ≡ true → HasCell slots t r
cells-to slots table first count last all has t r is =
    let both = is_in-true table first count t r is in
    let lies = in_rows-true first count r both.1 in
    let to = lies.to in
    let below = has.below in
    let long = ap (λ (k : ℕ). length (row_of slots k)) both.0 in
    record { below = omega (arith, all, to, below, long) }

-- and they end in the table's slots
pub cells-end : (slots : List (List Slot)) (table first count : ℕ) → 0 < count → ((t r : ℕ) → is_in table first count t r ≡ true → HasCell slots t r)
    → HasCell slots table (first + count - 1)
cells-end slots table first count some cells =
    cells table (first + count - 1) (is_in-from table first count (first + count - 1)
    (in_rows-from first count (first + count - 1) (omega (arith, some)) (omega (arith, some))))
