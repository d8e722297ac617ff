-- The last changes, table by table, as changes are learned and written.
use Rattle.std.proofs.Common.{◌≡◌, ℕ, zero, suc, ◌+◌, ◌<◌, ◌≤◌, ◌==◌, ◌&&◌, Bool, true, false, if◌then◌else◌, List, [], ◌∷◌, ◌++◌, length, take, get_or, set, Option, Some, refl, sym, ap, ◌∙◌, subst, ⊎_elim, arith, append-nil}
use Rattle.std.specs.Prelude.{slice_get}
use Rattle.std.proofs.lemmas.Bool.{cases_lt}
use Rattle.std.proofs.lemmas.Bool.Decides.{nat_tests}
use Rattle.std.proofs.lemmas.List.{get_or-set_same, get_or-set_other, get_or_append_left, get_or_past, get_or_read, take-append-le, take_all, take_more, length-append}
use Rattle.std.proofs.lemmas.List.Concat.{flat_map-append, get_or-flat_map}
use Rattle.std.proofs.lemmas.Option.{get_or_from_slice_get, slice_get_cases}
use Rattle.im_history.specs.declared.change.Change.{Change}
use Rattle.im_history.specs.Last.{Slot, last_at, left_by, change_of}
use Rattle.im_history.specs.Puts.{all_changes}
use Rattle.im_history.specs.Rows.{Row}
use Rattle.im_history.proofs.LastLaws.{change_of-push}
use Rattle.im_txn.specs.inner.Lasts.{AreLasts, IsPut, ReadsSame, count_known}

-- ---- the changes of writes

-- one write more
pub all_changes-push : (writes : List (List Change)) (changes : List Change) → all_changes (writes ++ changes ∷ []) ≡ all_changes writes ++ changes
all_changes-push writes changes =
    flat_map-append (λ (w : List Change). w) writes (changes ∷ [])
    ∙ ap (λ (more : List Change). all_changes writes ++ more) (append-nil changes)

-- a write is known whole
all_changes-next : (writes : List (List Change)) (known : ℕ) → known < length writes →
    all_changes (take (known + 1) writes) ≡ all_changes (take known writes) ++ get_or writes known []
all_changes-next writes known within =
    ap all_changes (take_more writes known [] within) ∙ all_changes-push (take known writes) (get_or writes known [])

-- the changes that are known are among all
known-within : (writes : List (List Change)) (known part : ℕ) → known ≤ length writes → part ≤ length (get_or writes known []) →
    count_known known part writes ≤ length (all_changes writes)
known-within [] zero part within inside = omega (arith, inside)
known-within [] (suc known) part within inside = absurd (omega (arith, within))
known-within (changes ∷ writes) zero part within inside =
    let long = length-append changes (all_changes writes) in omega (arith, inside, long)
known-within (changes ∷ writes) (suc known) part within inside =
    let long = length-append changes (all_changes writes) in
    let longer = length-append changes (all_changes (take known writes)) in
    let rest = known-within writes known part (omega (arith, within)) inside in
    omega (arith, long, longer, rest)

-- ---- what is known

-- no change is known
pub none-known : (writes : List (List Change)) → AreLasts 0 0 [] writes
none-known writes = record { within = omega arith; inside = omega arith; at = λ table rid. refl }

-- a write behind those that are known
pub AreLasts-push : (known part : ℕ) (tables : List (List Slot)) (writes : List (List Change)) (more : List Change) → AreLasts known part tables writes
    → AreLasts known part tables (writes ++ more ∷ [])
AreLasts-push known part tables writes more are = record {
  within = let old = are.within in let long = length-append writes (more ∷ []) in omega (arith, old, long);
  inside =
      ⊎_elim
      (λ (below : known < length writes). rw (get_or_append_left writes (more ∷ []) [] known below) are.inside)
      (λ (past : length writes ≤ known).
      let none : length (get_or writes known []) ≡ 0 = ap length (get_or_past writes known [] past) in
      let inside = are.inside in
      omega (arith, none, inside))
      (cases_lt known (length writes));
  at =
      λ table rid. are.at table rid ∙ ap (λ (cs : List Change). change_of cs table rid) (sym same);
}
  where
    same : take (count_known known part (writes ++ more ∷ [])) (all_changes (writes ++ more ∷ [])) ≡ take (count_known known part writes) (all_changes writes)
    same =
        ap (λ (ws : List (List Change)). take (length (all_changes ws) + part) (all_changes (writes ++ more ∷ []))) (take-append-le known writes (more ∷ []) are.within)
        ∙ (ap (take (count_known known part writes)) (all_changes-push writes more)
        ∙ take-append-le (count_known known part writes) (all_changes writes) more (known-within writes known part are.within are.inside))

-- the same, where the writes are told by what was put on
pub AreLasts-written : (known part : ℕ) (tables : List (List Slot)) (old new : List (List Change)) (more : List Change) → new ≡ old ++ more ∷ []
    → AreLasts known part tables old → AreLasts known part tables new
AreLasts-written known part tables old new more made are = subst (AreLasts known part tables) (sym made) (AreLasts-push known part tables old more are)

-- how many changes there are then
pub length-written : (old new : List (List Change)) (more : List Change) → new ≡ old ++ more ∷ []
    → length (all_changes new) ≡ length (all_changes old) + length more
length-written old new more made =
    ap (λ (writes : List (List Change)). length (all_changes writes)) made
    ∙ (ap length (all_changes-push old more) ∙ length-append (all_changes old) more)

-- a place at the end of the tables
pub reads-push : (old tables : List (List Slot)) → ReadsSame old tables → ReadsSame old (tables ++ [] ∷ [])
reads-push old tables same table rid = past tables table ∙ same table rid
  where
    past : (ts : List (List Slot)) (t : ℕ) → last_at (get_or (ts ++ [] ∷ []) t []) rid ≡ last_at (get_or ts t []) rid
    past [] zero = refl
    past [] (suc t) = refl
    past (slots ∷ ts) zero = refl
    past (slots ∷ ts) (suc t) = past ts t

-- one change put into its table
pub put-table : (old tables : List (List Slot)) (slots : List Slot) (change : Change) → ReadsSame old tables → change.table < length tables
    → ((other : ℕ) → last_at slots other ≡ (if change.rid == other then Some change.row else last_at (get_or tables change.table []) other))
    → (table rid : ℕ) → last_at (get_or (set tables change.table slots) table []) rid
    ≡ left_by table rid (last_at (get_or old table []) rid) change
put-table old tables slots change same within put table rid = by (change.table == table) refl
  where
    by : (b : Bool) → (change.table == table) ≡ b → last_at (get_or (set tables change.table slots) table []) rid
        ≡ (if b && (change.rid == rid) then Some change.row else last_at (get_or old table []) rid)
    by true e =
        let is : change.table ≡ table = grind (arith, nat_tests, e) in
        ap (λ (t : ℕ). last_at (get_or (set tables change.table slots) t []) rid) (sym is)
        ∙ (ap (λ (s : List Slot). last_at s rid) (get_or-set_same tables change.table slots [] within)
        ∙ (put rid
        ∙ ap (λ (o : Option (Option Row)). if change.rid == rid then Some change.row else o)
        (ap (λ (t : ℕ). last_at (get_or tables t []) rid) is ∙ same table rid)))
    by false e =
        let apart : table ≡ change.table → ⊥ = λ is. grind (arith, nat_tests, e, is) in
        ap (λ (s : List Slot). last_at s rid) (get_or-set_other tables change.table table slots [] apart) ∙ same table rid

-- the change at a place of a write put into its table
pub IsPut-table : (old tables : List (List Slot)) (before slots : List Slot) (changes : List Change) (place : ℕ) (change : Change) →
    slice_get changes place ≡ Some change → ReadsSame old tables → change.table < length tables → before ≡ get_or tables change.table before
    → ((other : ℕ) → last_at slots other ≡ (if change.rid == other then Some change.row else last_at before other))
    → IsPut old (set tables change.table slots) (slice_get changes place)
IsPut-table old tables before slots changes place change found same within was put other is =
    let mine : change ≡ other = let both = sym found ∙ is in cc in
    let read : before ≡ get_or tables change.table [] = get_or_read tables change.table before within was [] in
    let made =
    put-table old tables slots change same within
    (λ (rid : ℕ). put rid ∙ ap (λ (b : List Slot). if change.rid == rid then Some change.row else last_at b rid) read) in
    λ table rid. made table rid ∙ ap (λ (c : Change). left_by table rid (last_at (get_or old table []) rid) c) mine

-- a change that is found stands before the end
found_below : (changes : List Change) (place : ℕ) (change : Change) → slice_get changes place ≡ Some change → place < length changes
found_below changes place change is =
    ⊎_elim (λ found. found.1) (λ past. absurd cc) ((slice_get_cases changes place).1)

-- one change more is known
pub AreLasts-more : (known part : ℕ) (old new : List (List Slot)) (writes : List (List Change)) (change : Change) → AreLasts known part old writes
    → known < length writes → slice_get (get_or writes known []) part ≡ Some change → IsPut old new (Some change)
    → AreLasts known (part + 1) new writes
AreLasts-more known part old new writes change are next is put =
    let n = count_known known part writes in
    let inside : part < length (get_or writes known []) = found_below (get_or writes known []) part change is in
    let within : n < length (all_changes writes) =
    let most = known-within writes known (part + 1) are.within (omega (arith, inside)) in omega (arith, most) in
    let here : get_or (all_changes writes) n change ≡ change =
    get_or-flat_map (λ (w : List Change). w) writes known part [] change next inside ∙ get_or_from_slice_get (get_or writes known []) part change change is in
    let more : take (n + 1) (all_changes writes) ≡ take n (all_changes writes) ++ change ∷ [] =
    take_more (all_changes writes) n change within ∙ ap (λ (c : Change). take n (all_changes writes) ++ c ∷ []) here in
    let count : n + 1 ≡ count_known known (part + 1) writes = omega arith in
    record {
      within = are.within;
      inside = omega (arith, inside);
      at =
          λ table rid. put change refl table rid
          ∙ (ap (λ (o : Option (Option Row)). left_by table rid o change) (are.at table rid)
          ∙
          (sym (change_of-push (take n (all_changes writes)) change table rid)
          ∙ (ap (λ (cs : List Change). change_of cs table rid) (sym more)
          ∙ ap (λ (k : ℕ). change_of (take k (all_changes writes)) table rid) count)));
    }

-- the change at a place of the next write is put
pub AreLasts-put : (start known part now next : ℕ) (old new : List (List Slot)) (writes : List (List Change)) (changes : List Change) →
    known ≡ start → now ≡ known → next ≡ part → AreLasts known part old writes → start < length writes → changes ≡ get_or writes start changes →
    part < length changes → IsPut old new (slice_get changes part) → AreLasts now (next + 1) new writes
AreLasts-put start known part now next old new writes changes begun same_known same_part are within is inside put =
    ⊎_elim
    (λ found.
    let change : Change = found.0 in
    let at : slice_get changes part ≡ Some change = found.2 in
    let write : changes ≡ get_or writes known [] =
    get_or_read writes start changes within is [] ∙ ap (λ (k : ℕ). get_or writes k []) (sym begun) in
    let there : slice_get (get_or writes known []) part ≡ Some change = ap (λ (cs : List Change). slice_get cs part) (sym write) ∙ at in
    rw (same_known, same_part) (AreLasts-more known part old new writes change are (omega (arith, within, begun)) there (rw at at put)))
    (λ past. absurd (omega (arith, inside, past.0)))
    ((slice_get_cases changes part).1)

pub AreLasts-same : (known part : ℕ) (old new : List (List Slot)) (writes : List (List Change)) → AreLasts known part old writes → ReadsSame old new
    → AreLasts known part new writes
AreLasts-same known part old new writes are same = record {
  within = are.within;
  inside = are.inside;
  at = λ table rid. same table rid ∙ are.at table rid;
}

-- a write is known whole
pub AreLasts-next : (known part : ℕ) (tables : List (List Slot)) (writes : List (List Change)) → AreLasts known part tables writes
    → known < length writes → part ≡ length (get_or writes known []) → AreLasts (known + 1) 0 tables writes
AreLasts-next known part tables writes are next whole =
    let long = ap length (all_changes-next writes known next) ∙ length-append (all_changes (take known writes)) (get_or writes known []) in
    let same : count_known (known + 1) 0 writes ≡ count_known known part writes = omega (arith, long, whole) in
    record {
      within = omega (arith, next);
      inside = omega arith;
      at = λ table rid. are.at table rid ∙ ap (λ (n : ℕ). change_of (take n (all_changes writes)) table rid) (sym same);
    }

-- all is known
pub AreLasts-all : (known part : ℕ) (tables : List (List Slot)) (writes : List (List Change)) → AreLasts known part tables writes
    → known ≡ length writes → (table rid : ℕ) → last_at (get_or tables table []) rid ≡ change_of (all_changes writes) table rid
AreLasts-all known part tables writes are all table rid =
    let every : all_changes (take known writes) ≡ all_changes writes = ap all_changes (take_all known writes (omega (arith, all))) in
    let long = ap length every in
    are.at table rid
    ∙ ap (λ (cs : List Change). change_of cs table rid) (take_all (count_known known part writes) (all_changes writes) (omega (arith, long)))
