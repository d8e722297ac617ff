-- The steps of taking and giving keep the rule.
use Rattle.std.proofs.Common.{◌≡◌, ◌≢◌, ℕ, ◌==◌, List, [], ◌∷◌, ◌++◌, true, drop, length, set, slice_index, slice_set, Option, Some, None, unwrap_or, refl, sym, ap, ◌∙◌, subst, inl, inr, ⊎_elim, arith, length-append}
use mathlib.Core.Option.{some, none}
use lib.ListN.{get_elem?}
use prog.Atomic.{either}
use Rattle.atomic_table.specs.Table.{State, Act, keeps, takes as takes_slot, gives, Valid, rest, carried_after, stepped, Allows}
use Rattle.atomic_table.proofs.Lists.{set_again}
use Rattle.im_turn.specs.Logs.{entries_since, Begins, GrewByOwn, GrewByOthers}
use Rattle.im_turn.specs.inner.Views.{Recalls, taken, loaded, added, returned}
use Rattle.im_turn.specs.inner.Rule.{Account, Fits, IsAt, Roster, IsHome, IsOut, OneHistory}
use Rattle.im_turn.specs.inner.Steps.{SeatState, IsFree, IsHolder, IsFilled, Took, takes, loads, adds, gives_back}
use Rattle.im_turn.specs.declared.view.View.{View}
use Rattle.im_turn.specs.declared.view.Phase.{Phase}
use Rattle.im_turn.specs.declared.view.Phase.TheVariants.{Idle, Taken, Holding}
use Rattle.im_turn.proofs.LogLemmas.{begins_self, begins_trans, begins_length, own_nothing, own_begins, own_adds, others_leave, others_alone}
use Rattle.im_turn.proofs.RosterLemmas.{with_log, is_at_set, at_of_set, fits_moves, roster_moves}
use Rattle.im_turn.proofs.PlaceLemmas.{holder_is, holding_sees, is_out, out_moves, taken_finds}

module _ {Item : Type 0} (who : Item → ℕ) where
  -- a view changes its phase and what it has found
  pub fits_found : {account : Account Item} {v : View Item} (log : List Item) → Fits who account v → log ≡ account.log
      → Fits who account (taken log v)
  fits_found log f whole =
      fits_moves who f f.sees (subst (Begins log) whole (begins_self log)) (record { past_base = f.recalls.past_base; own = f.recalls.own }) f.all_own

  -- a view that adds own entries knows them
  recalls_added : {v : View Item} {phase : Phase} {later : List Item} → Recalls who v → GrewByOwn who v.who v.seen later
      → Recalls who (record v { phase = phase; seen = later; mine = v.mine ++ drop (length v.seen) later })
  recalls_added {v} {later = later} r grew = record {
    past_base = let p = begins_length (own_begins who grew) in let q = r.past_base in omega arith;
    own = own_adds who v.base grew r.past_base ∙ ap (λ l. l ++ drop (length v.seen) later) r.own;
  }

module _ {Value Item : Type 0} (logs : Value → List Item) (who : Item → ℕ) (fixed_of : Value → List ℕ) where
  -- what the slot holds that was taken last
  slot_of : Option Value → List (ℕ × Option Value) → Option Value
  slot_of other [] = other
  slot_of other (x ∷ xs) = x.1

  -- the slot has one value
  same_log : (value other : Value) → ◌≡◌ {A = List (ℕ × Option Value)} ((0, Some value) ∷ []) ((0, Some other) ∷ [])
      → logs value ≡ logs other
  unfolding slot_of
  same_log value other e = ap (λ (l : List (ℕ × Option Value)). logs (unwrap_or (slot_of None l) value)) e

  -- what a step needs: a new view and an act that keep the rule, and what the step tells
  abbrev pub Goes : State (Option Value) (View Item) → ℕ → ℕ → SeatState Value Item → ℕ → (SeatState Value Item → Type 0) → Type 0
  Goes s i id m new then = (w : View Item) × (a : Act (Option Value)) × Valid s.homes m.1 a
      × OneHistory logs who fixed_of (stepped s i new id m.1 w a) × then (w, carried_after m.1 a)

  -- the flag is down: the value is taken
  takes_home : (id : ℕ) (seat : SeatState Value Item) → IsFree who seat
      → (s : State (Option Value) (View Item)) (h : OneHistory logs who fixed_of s) → IsAt s.views id seat.0 →
      IsHome logs fixed_of h.account.log h.account.fixed s
      → Goes s 1 id seat (either (slice_index s.words 1 == 0) 1 (slice_index s.words 1)) (takes logs who fixed_of seat (slice_index s.words 1))
  takes_home id seat free s h at home =
      let v = seat.0 in
      let log = h.account.log in
      let value = home.value in
      let w : View Item = taken (logs value) v in
      let f : Fits who h.account v = h.roster.fits id v at in
      let found : slice_index s.words 1 ≡ 0 = ap (λ (l : List ℕ). slice_index l 1) home.words in
      let grew : GrewByOthers who v.who v.seen (logs value) = subst (GrewByOthers who v.who v.seen) (sym home.whole)
      (others_alone who v.who v.base f.sees f.recalls.past_base (ap (λ b. entries_since who v.who b log) f.same_base ∙ (f.all_own ∙ sym f.recalls.own))) in (
        w,
        takes_slot 0 (Some value),
        ap (λ l. get_elem? l 0) home.homes,
        record {
          account = h.account;
          roster = roster_moves who w log h.roster at refl (own_nothing who v.who log) (fits_found who (logs value) f home.whole);
          place = inr record {
            holder = id;
            view = w;
            words = ap (λ (l : List ℕ). slice_set l 1 (either (slice_index l 1 == 0) 1 (slice_index l 1))) home.words;
            homes = ap (λ l. slice_set l 0 none) home.homes;
            there = is_at_set w at free.live;
            has = inl (refl, home.whole);
            others = λ other u there ne. ⊎_elim
                (λ (x : (other ≡ id) × (w ≡ u)). absurd (ne x.0))
                (λ (x : (other ≢ id) × IsAt s.views other u). home.idle other u x.1)
                (at_of_set s.views id other w u there);
          };
        },
        (
          (λ _. record {
            value = value;
            is = ap (λ l. (w, (0, Some value) ∷ l)) free.carries;
            grew = grew;
            same_fixed = home.same_fixed ∙ sym f.same_fixed;
          }),
          λ ne. absurd (ne found),
        ),
      )

  -- the flag is up: nothing changes
  takes_out : (id : ℕ) (seat : SeatState Value Item)
      → (s : State (Option Value) (View Item)) (h : OneHistory logs who fixed_of s) → IsAt s.views id seat.0 → IsOut h.account.log s
      → Goes s 1 id seat (either (slice_index s.words 1 == 0) 1 (slice_index s.words 1)) (takes logs who fixed_of seat (slice_index s.words 1))
  takes_out id seat s h at out =
      let found : slice_index s.words 1 ≡ 1 = ap (λ (l : List ℕ). slice_index l 1) out.words in
      let same : set s.views id seat.0 ≡ s.views = set_again s.views id seat.0 at.there in (
        seat.0,
        keeps,
        tt,
        record {
          account = h.account;
          roster = subst (Roster who h.account) (sym same) h.roster;
          place = inr record {
            holder = out.holder;
            view = out.view;
            words = ap (λ (l : List ℕ). slice_set l 1 (either (slice_index l 1 == 0) 1 (slice_index l 1))) out.words;
            homes = out.homes;
            there = subst (λ (l : List (View Item)). IsAt l out.holder out.view) (sym same) out.there;
            has = out.has;
            others = λ other u there. out.others other u (subst (λ (l : List (View Item)). IsAt l other u) same there);
          };
        },
        ((λ e. absurd (omega arith)), λ _. refl),
      )

  -- the exchange that takes
  pub takes_allowed : (slots id : ℕ) (seat : SeatState Value Item) → IsFree who seat
      → Allows (OneHistory logs who fixed_of) slots id seat 1 (λ n. either (n == 0) 1 n) (takes logs who fixed_of seat)
  takes_allowed slots id seat free s h sized there fits =
      let at : IsAt s.views id seat.0 = record { there = there; live = free.live } in
      ⊎_elim (takes_home id seat free s h at) (takes_out id seat s h at) h.place

  -- the load that records what is seen
  pub loads_allowed : (slots id : ℕ) (seat : SeatState Value Item) → seat.0.live ≡ true → seat.0.phase ≡ Taken
      → Allows (OneHistory logs who fixed_of) slots id seat 0 (λ n. n) (λ n. loads seat)
  loads_allowed slots id seat live phase s h sized there fits =
      let v = seat.0 in
      let log = h.account.log in
      let at : IsAt s.views id v = record { there = there; live = live } in
      let is_busy : ¬ (v.phase ≡ Idle) = λ e. absurd cc in
      let f : Fits who h.account v = h.roster.fits id v at in
      let w : View Item = loaded v in
      let out : IsOut log s = is_out logs fixed_of h.place at is_busy in
      let whole : v.held ≡ log = taken_finds out at phase in
      let past = h.roster.past_base in
      let knows : Recalls who w = record {
        past_base = let e = ap length whole in let b = f.same_base in omega arith;
        own = ap (entries_since who v.who v.base) whole ∙ (ap (λ b. entries_since who v.who b log) f.same_base ∙ f.all_own);
      } in
      let fits' : Fits who h.account w = fits_moves who f f.found f.found knows f.all_own in (
        w,
        keeps,
        tt,
        record {
          account = h.account;
          roster = roster_moves who w log h.roster at refl (own_nothing who v.who log) fits';
          place = inr (out_moves w log out at is_busy live (inr (refl, whole)) (ap (λ (l : List ℕ). slice_set l 0 (slice_index l 0)) out.words) refl refl);
        },
        refl,
      )

  -- the add to the count, of what the value in the slot has gained
  adds_allowed : (slots id : ℕ) (v : View Item) (value : Value) (k : ℕ)
      → v.live ≡ true → v.phase ≡ Holding → k ≡ length (logs value) → GrewByOwn who v.who v.seen (logs value)
      → Allows (OneHistory logs who fixed_of) slots id (v, (0, Some value) ∷ []) 0 (λ _. k) (λ n. adds logs (v, (0, Some value) ∷ []))
  adds_allowed slots id v value k live phase count grew s h sized there fits =
      let log = h.account.log in
      let later = logs value in
      let at : IsAt s.views id v = record { there = there; live = live } in
      let is_busy : ¬ (v.phase ≡ Idle) = λ e. absurd cc in
      let f : Fits who h.account v = h.roster.fits id v at in
      let w : View Item = added later v in
      let out : IsOut log s = is_out logs fixed_of h.place at is_busy in
      let whole : v.seen ≡ log = holding_sees out at phase in
      let grew' : GrewByOwn who v.who log later = subst (λ (l : List Item). GrewByOwn who v.who l later) whole grew in
      let knows : Recalls who w = recalls_added who f.recalls grew in
      let fits' : Fits who (with_log h.account later) w = fits_moves who f (begins_self later) (begins_trans f.found (own_begins who grew')) knows
      (ap (λ b. entries_since who v.who b later) (sym f.same_base) ∙ knows.own) in (
        w,
        keeps,
        tt,
        record {
          account = with_log h.account later;
          roster = roster_moves who w later h.roster at refl grew' fits';
          place = inr (out_moves w later out at is_busy live (inr (phase, refl))
              (ap (λ (l : List ℕ). slice_set l 0 k) out.words ∙ ap (λ n. n ∷ 1 ∷ []) count) refl refl);
        },
        λ other e. ap (λ (l : List Item). (added l v, (0, Some value) ∷ [])) (same_log value other e),
      )

  -- the exchange that gives
  gives_allowed : (slots id : ℕ) (v : View Item) (value : Value)
      → v.live ≡ true → v.phase ≡ Holding → logs value ≡ v.seen → fixed_of value ≡ v.fixed
      → Allows (OneHistory logs who fixed_of) slots id (v, (0, Some value) ∷ []) 1 (λ _. 0) (λ n. gives_back (v, (0, Some value) ∷ []))
  gives_allowed slots id v value live phase log_is fixed_is s h sized there fits =
      let log = h.account.log in
      let at : IsAt s.views id v = record { there = there; live = live } in
      let is_busy : ¬ (v.phase ≡ Idle) = λ e. absurd cc in
      let f : Fits who h.account v = h.roster.fits id v at in
      let w : View Item = returned v in
      let out : IsOut log s = is_out logs fixed_of h.place at is_busy in
      let whole : v.seen ≡ log = holding_sees out at phase in
      let mine : id ≡ out.holder = holder_is out at is_busy in
      let fits' : Fits who h.account w =
      fits_moves who f f.sees f.found (record { past_base = f.recalls.past_base; own = f.recalls.own }) f.all_own in (
        w,
        gives,
        tt,
        record {
          account = h.account;
          roster = roster_moves who w log h.roster at refl (own_nothing who v.who log) fits';
          place = inl record {
            value = value;
            words = ap (λ (l : List ℕ). slice_set l 1 0) out.words;
            homes = ap (λ l. slice_set l 0 (some (Some value))) out.homes;
            whole = log_is ∙ whole;
            same_fixed = fixed_is ∙ f.same_fixed;
            idle = λ other u there. ⊎_elim
                (λ (x : (other ≡ id) × (w ≡ u)). ap (λ (y : View Item). y.phase) (sym x.1))
                (λ (x : (other ≢ id) × IsAt s.views other u). out.others other u x.1 (λ e. x.0 (e ∙ sym mine)))
                (at_of_set s.views id other w u there);
          };
        },
        refl,
      )

  -- the seat of a pass, once the value is taken and its log is seen
  pub seen_all : (before after later : SeatState Value Item) (t : Took logs who fixed_of before after) → loads after later
      → later ≡ (loaded (taken (logs t.value) before.0), (0, Some t.value) ∷ [])
  seen_all before after later t told = told ∙ ap (λ (m : SeatState Value Item). (loaded m.0, m.1)) t.is

  -- the slot can be read
  pub slot_is : (seat : SeatState Value Item) (v : View Item) (value : Value) → seat ≡ (v, (0, Some value) ∷ [])
      → (found : Option Value) × (seat.1 ≡ (0, found) ∷ rest seat.1)
  slot_is seat v value is = (Some value, ap (λ (m : SeatState Value Item). m.1) is ∙ sym (ap (λ (m : SeatState Value Item). (0, Some value) ∷ rest m.1) is))

  -- a pass that has taken the value has it
  pub holder_after : (before after : SeatState Value Item) (value : Value) → IsFree who before
      → GrewByOthers who before.0.who before.0.seen (logs value)
      → after ≡ (loaded (taken (logs value) before.0), (0, None) ∷ []) → IsHolder who after
  holder_after before after value f grew is =
      let v = before.0 in
      let taking : SeatState Value Item = (loaded (taken (logs value) v), (0, None) ∷ []) in
      let holder : IsHolder who taking = record {
        live = f.live;
        recalls = record {
          past_base = let p = ap length grew.is ∙ length-append v.seen grew.between in let q = f.recalls.past_base in omega arith;
          own = others_leave who v.base grew f.recalls.past_base ∙ f.recalls.own;
        };
        has = refl;
        carries = refl;
      } in
      subst (IsHolder who) (sym is) holder

  -- the same of a seat that is filled
  pub adds_at : (slots id : ℕ) (seat : SeatState Value Item) (value : Value) (k : ℕ) → IsFilled value seat
      → k ≡ length (logs value) → GrewByOwn who seat.0.who seat.0.seen (logs value)
      → Allows (OneHistory logs who fixed_of) slots id seat 0 (λ _. k) (λ n. adds logs seat)
  adds_at slots id seat value k filled count grew =
      let P : List (ℕ × Option Value) → Type 0 = λ l. Allows (OneHistory logs who fixed_of) slots id (seat.0, l) 0 (λ _. k) (λ n. adds logs (seat.0, l)) in
      subst P (sym filled.carries) (adds_allowed slots id seat.0 value k filled.live filled.has count grew)

  -- and so is this
  pub gives_at : (slots id : ℕ) (seat : SeatState Value Item) (value : Value) → IsFilled value seat
      → logs value ≡ seat.0.seen → fixed_of value ≡ seat.0.fixed
      → Allows (OneHistory logs who fixed_of) slots id seat 1 (λ _. 0) (λ n. gives_back seat)
  gives_at slots id seat value filled log_is fixed_is =
      let P : List (ℕ × Option Value) → Type 0 = λ l. Allows (OneHistory logs who fixed_of) slots id (seat.0, l) 1 (λ _. 0) (λ n. gives_back (seat.0, l)) in
      subst P (sym filled.carries) (gives_allowed slots id seat.0 value filled.live filled.has log_is fixed_is)

  -- a pass that has given the value back is free
  pub free_after : (before after : SeatState Value Item) (value : Value) → IsHolder who before
      → GrewByOwn who before.0.who before.0.seen (logs value)
      → after ≡ (returned (added (logs value) before.0), []) → IsFree who after
  free_after before after value h grew is =
      let v = before.0 in
      let given : SeatState Value Item = (returned (added (logs value) v), []) in
      let free : IsFree who given = record {
        live = h.live;
        recalls = recalls_added who h.recalls grew;
        idle = refl;
        carries = refl;
      } in
      subst (IsFree who) (sym is) free
