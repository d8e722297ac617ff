-- Extents that were pinned for a scan: the rows that they give, one after the other and in chunks, and the parts of these, merged.
use Rattle.std.proofs.Common.{◌≡◌, ℕ, zero, suc, ◌+◌, ◌-◌, ◌*◌, ◌/◌, ◌%◌, ◌<◌, ◌≤◌, min, true, List, [], ◌∷◌, ◌++◌, length, Result, Ok, sym, ap, ◌∙◌, subst, ⊎_elim, arith, append-nil, append_assoc, length-append}
use Rattle.std.specs.Prelude.{slice_index_or, IfOk}
use Rattle.std.specs.Fork.{IsChunk}
use Rattle.std.proofs.lemmas.List.{get_or_append_left, get_or_push}
use Rattle.std.proofs.lemmas.Bool.{cases_lt}
use Rattle.std.proofs.lemmas.Nat.{div-add-mod', mod_below}
use Rattle.im_values.specs.declared.limits.TheConstants.{MOST_ROWS}
use Rattle.im_values.specs.declared.no_memory.NoMemory.{NoMemory}
use Rattle.im_core.specs.declared.answers.Pin.{Pin}
use Rattle.im_group.specs.Partials.{CanMerge, Numbered, Parts, merged, partial}
use Rattle.im_group.proofs.ForCallers.{CanMerge-parts, merged-partial}
use Rattle.im_history.specs.declared.view.View.{View}
use Rattle.im_history.specs.History.{History}
use Rattle.im_history.specs.Serving.{rows_in}
use Rattle.im_history.specs.Units.{Content}
use Rattle.im_history.specs.Views.{seen_by}
use Rattle.im_scan.specs.Pinned.{seen_all, seen_in, seen_to}
use Rattle.im_scan.proofs.ForCallers.{length-present, seen_to-more}
use Rattle.im_session.specs.declared.cursor.Cursor.{Cursor}
use Rattle.im_session.specs.declared.serving.Wanted.{Wanted}
use Rattle.im_session.specs.declared.serving.Wanted.TheVariants.{Parts as AllParts, Marks}
use Rattle.im_session.specs.inner.Cursors.{IsKept}
use Rattle.im_session.specs.inner.Pins.{AreChunkParts, AreLeftOf, ArePinsOf, GoesOnBy, HasLeft, HasPins, HasWanted, IsAsked, IsBefore, IsPartFrom, IsPinOf, kept_pins, seen_from}
use Rattle.im_session.specs.inner.Serving.{wanted_of}
use Rattle.im_session.specs.inner.Scans.{IsRead, Went}
use Rattle.im_session.proofs.ServingLemmas.{may-read, part-all, seen_in-went}
use Rattle.im_history.specs.Commits.{scn}
use Rattle.im_history.specs.Legal.{IsLawful}
use Rattle.im_reach.specs.Sides.{Known, speaks}
use Rattle.std.specs.Arc.{arc_value}
use Rattle.std.specs.Option.{option_map}
use Rattle.im_syntax.specs.declared.bound.Bound.{Bound}

-- ---- the rows of extents that follow each other

module _ (h : History) (view : View) where
  pub seen_from-one : (first : ℕ) → seen_from h view first 1 ≡ seen_in h view first
  seen_from-one first = ap (seen_in h view) (let same : first + 0 ≡ first = omega arith in same)

  -- those of the first extents, and of so many behind them
  pub seen_to-from : (first count : ℕ) → seen_to h view first ++ seen_from h view first count ≡ seen_to h view (first + count)
  seen_to-from first zero = append-nil (seen_to h view first) ∙ ap (seen_to h view) (let same : first ≡ first + 0 = omega arith in same)
  seen_to-from first (suc n) =
      let next : first + n + 1 ≡ first + suc n = omega arith in
      sym (append_assoc (seen_to h view first) (seen_from h view first n) (seen_in h view (first + n)))
      ∙ (ap (λ (rows : List Numbered). rows ++ seen_in h view (first + n)) (seen_to-from first n)
      ∙ (seen_to-more h view (first + n) ∙ ap (seen_to h view) next))

  -- those of so many, and of so many more
  pub seen_from-append : (first n m : ℕ) → seen_from h view first n ++ seen_from h view (first + n) m ≡ seen_from h view first (n + m)
  seen_from-append first n zero = append-nil (seen_from h view first n) ∙ ap (seen_from h view first) (let same : n ≡ n + 0 = omega arith in same)
  seen_from-append first n (suc m) =
      let place : first + n + m ≡ first + (n + m) = omega arith in
      let count : suc (n + m) ≡ n + suc m = omega arith in
      sym (append_assoc (seen_from h view first n) (seen_from h view (first + n) m) (seen_in h view (first + n + m)))
      ∙ (ap (λ (rows : List Numbered). rows ++ seen_in h view (first + n + m)) (seen_from-append first n m)
      ∙ (ap (λ (e : ℕ). seen_from h view first (n + m) ++ seen_in h view e) place ∙ ap (seen_from h view first) count))

  -- there are no more than the view has row numbers
  within : (begin given per a b : ℕ) → a ≤ min begin given → b ≤ min per (given - begin) → a + b ≤ min (begin + per) given
  within begin given per a b few more = omega (arith, few, more)

  pub few-from : (first count : ℕ) (rows : List Numbered) → length rows ≤ min (first * view.per) view.rows
      → length (rows ++ seen_from h view first count) ≤ min ((first + count) * view.per) view.rows
  few-from first zero rows few =
      let same = ap length (append-nil rows) in
      let here : (first + 0) * view.per ≡ first * view.per = ap (λ (n : ℕ). n * view.per) (let same : first + 0 ≡ first = omega arith in same) in
      omega (arith, few, same, here)
  few-from first (suc n) rows few =
      let before = few-from first n rows few in
      let here = length-present (seen_by h view) ((first + n) * view.per) (rows_in view (first + n)) in
      let both = within ((first + n) * view.per) view.rows view.per (length (rows ++ seen_from h view first n)) (length (seen_in h view (first + n)))
      before here in
      let next : (first + suc n) * view.per ≡ (first + n) * view.per + view.per = spread first n view.per in
      let sums = length-append (rows ++ seen_from h view first n) (seen_in h view (first + n)) in
      let same = ap length (append_assoc rows (seen_from h view first n) (seen_in h view (first + n))) in
      omega (arith, both, next, sums, same)
    where
      spread : (a b p : ℕ) → (a + suc b) * p ≡ (a + b) * p + p
      spread a b p = omega arith

  pub few-to : (first : ℕ) → length (seen_to h view first) ≤ min (first * view.per) view.rows
  few-to first = length-present (seen_by h view) 0 (min (first * view.per) view.rows)

  -- ---- their parts

  -- the part of so many extents may be merged into that of rows before them, and is merged so
  module _ (bound : Bound) (at count : ℕ) (rows : List Numbered) (before part : Parts) (is : before ≡ partial bound rows)
      (and_is : part ≡ partial bound (seen_from h view at count)) where
    pub can-merge-from : view.rows ≤ MOST_ROWS → length rows ≤ min (at * view.per) view.rows → CanMerge before part
    can-merge-from most few =
        let all = few-from at count rows few in
        let sums = length-append rows (seen_from h view at count) in
        CanMerge-parts bound rows (seen_from h view at count) before part is and_is (omega (arith, most, all, sums))

    pub merged-from : merged before part ≡ partial bound (rows ++ seen_from h view at count)
    merged-from =
        ap (λ (p : Parts). merged p part) is
        ∙ (ap (merged (partial bound rows)) and_is ∙ merged-partial bound rows (seen_from h view at count))

-- ---- pins

-- those of a chunk
pub chunk-pins : (bound : Bound) (view : View) (opening : History) (first size start : ℕ) (pins chunk : List (Pin Content))
    → IsChunk pins size start chunk → ArePinsOf bound view opening first pins → ArePinsOf bound view opening (first + start) chunk
chunk-pins bound view opening first size start pins chunk is all = record { each = here }
  where
    here : (i : ℕ) (d : Pin Content) → i < length chunk → IsPinOf bound view opening (first + start + i) (slice_index_or chunk i d)
    here i d less =
        let inside = is.in_bounds in
        let place : first + (start + i) ≡ first + start + i = omega arith in
        subst (λ (e : ℕ). IsPinOf bound view opening e (slice_index_or chunk i d)) place
        (subst (IsPinOf bound view opening (first + (start + i))) (sym (is.elements i d less)) (all.each (start + i) d (omega (arith, inside, less))))

-- one pin more
pub pins-push : (bound : Bound) (view : View) (opening : History) (first upto : ℕ) (pins : List (Pin Content)) (pin : Pin Content)
    → first + length pins ≡ upto → IsPinOf bound view opening upto pin → ArePinsOf bound view opening first pins
    → ArePinsOf bound view opening first (pins ++ pin ∷ [])
pins-push bound view opening first upto pins pin behind is all = record { each = here }
  where
    here : (i : ℕ) (d : Pin Content) → i < length (pins ++ pin ∷ []) → IsPinOf bound view opening (first + i) (slice_index_or (pins ++ pin ∷ []) i d)
    here i d less =
        let sums = length-append pins (pin ∷ []) in
        ⊎_elim
        (λ (before : i < length pins).
        subst (IsPinOf bound view opening (first + i)) (sym (get_or_append_left pins (pin ∷ []) d i before)) (all.each i d before))
        (λ (last : length pins ≤ i).
        let at : length pins ≡ i = omega (arith, sums, less, last) in
        let place : upto ≡ first + i = omega (arith, behind, at) in
        subst (IsPinOf bound view opening (first + i)) (sym (get_or_push pins pin d i at)) (subst (λ (e : ℕ). IsPinOf bound view opening e pin) place is))
        (cases_lt i (length pins))

pub pins-next : (wanted : Wanted) (bound : Bound) (view : View) (opening : History) (first upto : ℕ) (pins after : List (Pin Content)) (pin : Pin Content)
    → after ≡ kept_pins wanted pins pin → IsPinOf bound view opening upto pin → HasPins wanted bound view opening first upto pins
    → HasPins wanted bound view opening first (upto + 1) after
pins-next AllParts bound view opening first upto pins after pin same is has =
    let sums = length-append pins (pin ∷ []) in
    let behind = has.1 in
    subst (HasPins AllParts bound view opening first (upto + 1)) (sym same)
    (pins-push bound view opening first upto pins pin behind is has.0, omega (arith, sums, behind))
pins-next Marks bound view opening first upto pins after pin same is has = tt

-- ---- one after the other

-- what came before went on by so many extents, and by so many more
module _ (bound : Bound) (view : View) (first k m : ℕ) (pins : List (Pin Content)) (before part more new : Parts)
    (so_far : GoesOnBy bound view first pins k before part) (made : IsPartFrom bound view first pins k m more) where
  pub goes-merges : view.rows ≤ MOST_ROWS → IsBefore bound view first before → (opening : History) → ArePinsOf bound view opening first pins
      → CanMerge part more
  goes-merges most front opening all =
      can-merge-from opening view bound (first + k) m (front.rows ++ seen_from opening view first k) part more
      (so_far.goes opening front.rows front.is all) (made.is opening all) most (few-from opening view first k front.rows front.few)

  pub goes-next : (next : ℕ) → k + m ≡ next → new ≡ merged part more → GoesOnBy bound view first pins next before new
  goes-next next count is = record { goes = goes }
    where
      goes : (opening : History) (rows : List Numbered) → before ≡ partial bound rows → ArePinsOf bound view opening first pins
          → new ≡ partial bound (rows ++ seen_from opening view first next)
      goes opening rows from all =
          is
          ∙ (merged-from opening view bound (first + k) m (rows ++ seen_from opening view first k) part more (so_far.goes opening rows from all)
          (made.is opening all)
          ∙ ap (partial bound)
          (append_assoc rows (seen_from opening view first k) (seen_from opening view (first + k) m)
          ∙ ap (λ (more : List Numbered). rows ++ more)
          (seen_from-append opening view first k m ∙ ap (seen_from opening view first) count)))

-- it went on by none yet
pub goes-none : (bound : Bound) (view : View) (first k : ℕ) (pins : List (Pin Content)) (before part : Parts) → k ≡ 0 → part ≡ before
    → GoesOnBy bound view first pins k before part
goes-none bound view first k pins before part none same = record {
  goes = λ opening rows is all.
      same ∙ (is ∙ ap (partial bound) (sym (append-nil rows) ∙ ap (λ (n : ℕ). rows ++ seen_from opening view first n) (sym none)));
}

-- ---- one extent

module _ (bound : Bound) (view : View) (first i : ℕ) (pins : List (Pin Content)) (pin : Pin Content) (less : i < length pins)
    (read : pin ≡ slice_index_or pins i pin) where
  pub pin-of : (opening : History) → ArePinsOf bound view opening first pins → IsPinOf bound view opening (first + i) pin
  pin-of opening all = subst (IsPinOf bound view opening (first + i)) (sym read) (all.each i pin less)

  pub part-from : (more : Parts)
      → ((opening : History) → IsPinOf bound view opening (first + i) pin → more ≡ partial bound (seen_in opening view (first + i)))
      → IsPartFrom bound view first pins i 1 more
  part-from more made = record {
    is = λ opening all. made opening (pin-of opening all) ∙ ap (partial bound) (sym (seen_from-one opening view (first + i)));
  }

-- ---- chunks

-- so many chunks have all, and no fewer
chunks-span : (count size len : ℕ) → 0 < size → count ≡ len / size + min 1 (len % size) → (len ≤ count * size) × (count * size < len + size)
chunks-span count size len some is =
    ⊎_elim
    (λ (left : 0 < len % size).
    let more : count ≡ len / size + 1 = omega (arith, is, left) in
    let spread = ap (λ (n : ℕ). n * size) more in
    let one : (len / size + 1) * size ≡ len / size * size + size = next (len / size) size in
    (omega (arith, whole, below, spread, one), omega (arith, whole, below, spread, one, left)))
    (λ (none : len % size ≤ 0).
    let same : count ≡ len / size = omega (arith, is, none) in
    let spread = ap (λ (n : ℕ). n * size) same in
    (omega (arith, whole, none, spread), omega (arith, whole, none, spread, some)))
    (cases_lt 0 (len % size))
  where
    next : (q s : ℕ) → (q + 1) * s ≡ q * s + s
    next q s = omega arith

    whole : len / size * size + len % size ≡ len
    whole = div-add-mod' len size

    below : len % size < size
    below = mod_below len size some

-- each of them begins within
chunk-within : (n count size len : ℕ) → n < count → count * size < len + size → n * size < len
chunk-within n count size len less span =
    ⊎_elim (λ (within : n * size < len). within)
    (λ (past : len ≤ n * size).
    let more : n * size + size ≤ count * size = by n size (count - n - 1) count (omega (arith, less)) in
    absurd (omega (arith, past, more, span)))
    (cases_lt (n * size) len)
  where
    by : (n size m count : ℕ) → count ≡ n + 1 + m → n * size + size ≤ count * size
    by n size m count is = rw is (let all : (n + 1 + m) * size ≡ n * size + size + m * size = omega arith in omega (arith, all))

module _ (n count size len : ℕ) (some : 0 < size) (is : count ≡ len / size + min 1 (len % size)) where
  pub chunk-at : n < count → min (n * size) len ≡ n * size
  chunk-at less =
      let within = chunk-within n count size len less (chunks-span count size len some is).1 in
      omega (arith, within)

  pub chunk-next : n < count → n * size + min size (len - n * size) ≡ min ((n + 1) * size) len
  chunk-next less =
      let within = chunk-within n count size len less (chunks-span count size len some is).1 in
      let more : (n + 1) * size ≡ n * size + size = next n size in
      omega (arith, within, more)
    where
      next : (q s : ℕ) → (q + 1) * s ≡ q * s + s
      next q s = omega arith

  pub chunks-all : n ≡ count → min (n * size) len ≡ len
  chunks-all last =
      let all = (chunks-span count size len some is).0 in
      let same = ap (λ (k : ℕ). k * size) last in
      omega (arith, all, same)

-- what is made of a chunk is the part of its pins
pub part-chunk : (bound : Bound) (view : View) (first size start : ℕ) (pins chunk : List (Pin Content)) (before part : Parts)
    → IsChunk pins size start chunk → before ≡ partial bound [] → GoesOnBy bound view (first + start) chunk (length chunk) before part
    → IsPartFrom bound view first pins start (min size (length pins - start)) part
part-chunk bound view first size start pins chunk before part is none goes = record {
  is = λ opening all.
      goes.goes opening [] none (chunk-pins bound view opening first size start pins chunk is all)
      ∙ ap (λ (n : ℕ). partial bound (seen_from opening view (first + start) n)) is.len;
}

-- ---- what is wanted

-- the part of no rows may come before any extent
pub before-none : (bound : Bound) (view : View) (first : ℕ) (part : Parts) → part ≡ partial bound [] → IsBefore bound view first part
before-none bound view first part is = record { rows = []; is = is; few = omega arith }

-- and what a cursor keeps before its next one
pub before-kept : (cursor : Cursor) (opening : History) (pins : List (Pin Content)) → AreLeftOf cursor opening pins
    → IsBefore cursor.bound cursor.view cursor.next cursor.part
before-kept cursor opening pins left = record {
  rows = seen_to opening cursor.view cursor.next;
  is = left.part;
  few = few-to opening cursor.view cursor.next;
}

pub has-left : (wanted : Wanted) (cursor : Cursor) (opening : History) (pins : List (Pin Content))
    → cursor.part ≡ partial cursor.bound (seen_to opening cursor.view cursor.next)
    → HasPins wanted cursor.bound cursor.view opening cursor.next cursor.view.extents pins → HasLeft wanted cursor pins
has-left AllParts cursor opening pins kept has = (opening, record { part = kept; are = has.0; all = has.1 })
has-left Marks cursor opening pins kept has = tt

-- what holds of the one at a place that came out
pub at-chunk : (made : List (Result Parts NoMemory)) (n : ℕ) (one : Result Parts NoMemory) (more : Parts) (P : Parts → Type 0)
    → one ≡ slice_index_or made n one → one ≡ Ok more → IfOk (slice_index_or made n one) P → P more
at-chunk made n one more P read is holds = subst (λ (r : Result Parts NoMemory). IfOk r P) is (subst (λ (r : Result Parts NoMemory). IfOk r P) (sym read) holds)

-- one chunk more is merged
module _ (bound : Bound) (view : View) (first size n : ℕ) (pins : List (Pin Content)) (made : List (Result Parts NoMemory))
    (one : Result Parts NoMemory) (before part more new : Parts) (some : 0 < size)
    (count : length made ≡ length pins / size + min 1 (length pins % size)) (parts : AreChunkParts bound view first size pins made)
    (turn : (n < length made) × (one ≡ slice_index_or made n one)) (is : one ≡ Ok more)
    (so_far : GoesOnBy bound view first pins (min (n * size) (length pins)) before part) where
  made-here : IsPartFrom bound view first pins (n * size) (min size (length pins - n * size)) more
  made-here =
      at-chunk made n one more (IsPartFrom bound view first pins (n * size) (min size (length pins - n * size))) turn.1 is (parts.each n one turn.0)

  goes-here : GoesOnBy bound view first pins (n * size) before part
  goes-here =
      subst (λ (k : ℕ). GoesOnBy bound view first pins k before part) (chunk-at n (length made) size (length pins) some count turn.0) so_far

  pub chunk-merges : view.rows ≤ MOST_ROWS → IsBefore bound view first before → (opening : History) → ArePinsOf bound view opening first pins
      → CanMerge part more
  chunk-merges most front opening all =
      goes-merges bound view first (n * size) (min size (length pins - n * size)) pins before part more new goes-here made-here most front opening all

  pub chunk-goes : (after : ℕ) → after ≡ n + 1 → new ≡ merged part more → GoesOnBy bound view first pins (min (after * size) (length pins)) before new
  chunk-goes after next same =
      goes-next bound view first (n * size) (min size (length pins - n * size)) pins before part more new goes-here made-here
      (min (after * size) (length pins))
      (chunk-next n (length made) size (length pins) some count turn.0
      ∙ ap (λ (k : ℕ). min (k * size) (length pins)) (sym next))
      same

-- and all of them were
pub chunks-done : (bound : Bound) (view : View) (first size n count : ℕ) (pins : List (Pin Content)) (before part : Parts) → 0 < size
    → count ≡ length pins / size + min 1 (length pins % size) → n ≡ count
    → GoesOnBy bound view first pins (min (n * size) (length pins)) before part → GoesOnBy bound view first pins (length pins) before part
chunks-done bound view first size n count pins before part some is last goes =
    subst (λ (k : ℕ). GoesOnBy bound view first pins k before part) (chunks-all n count size (length pins) some is last) goes

-- ---- a scan

-- a query may be asked of a cursor that is kept
pub asked-kept : (who : ℕ) (cursor : Cursor) (now : Known) → IsKept who cursor now → IsAsked cursor.bound cursor.view
asked-kept who cursor now kept = record {
  own = kept.sound.asks.own;
  defaults = kept.sound.asks.defaults;
  cut = kept.scan.sees.cut;
  few = kept.scan.sees.few;
}

-- an extent that was read for it is pinned
pub pin-read : (who : ℕ) (cursor : Cursor) (extent : ℕ) (pin : Pin Content) (old new : Known) → speaks old.side who ≡ true → IsKept who cursor old
    → Went old new → IsLawful new.limits new.log → IsRead new.log cursor.view extent pin.place (option_map arc_value pin.unit) pin.fetched
    → IsPinOf cursor.bound cursor.view old.log extent pin
pin-read who cursor extent pin old new mine kept went lawful read =
    let may = may-read who cursor.number extent pin.place cursor.bound cursor.view (option_map arc_value pin.unit) pin.fetched old new mine kept.scan
    kept.sound.asks went lawful read in
    record {
      at = new.log;
      pinned = may.pinned;
      same = seen_in-went old new cursor.view extent kept.scan.sees.known went;
      unit_fits = may.unit_fits;
      fetched_fits = may.fetched_fits;
      shown = may.shown;
    }

-- also where others went on before
pub pin-went : (bound : Bound) (view : View) (extent : ℕ) (pin : Pin Content) (first now : Known) → view.scn ≤ scn first.log → Went first now
    → IsPinOf bound view now.log extent pin → IsPinOf bound view first.log extent pin
pin-went bound view extent pin first now known went is = record {
  at = is.at;
  pinned = is.pinned;
  same = is.same ∙ seen_in-went first now view extent known went;
  unit_fits = is.unit_fits;
  fetched_fits = is.fetched_fits;
  shown = is.shown;
}

pub pins-none : (wanted : Wanted) (bound : Bound) (view : View) (opening : History) (first : ℕ) → HasPins wanted bound view opening first first []
pins-none AllParts bound view opening first = (record { each = λ i other less. absurd (omega (arith, less)) }, omega arith)
pins-none Marks bound view opening first = tt

pub pins-done : (wanted : Wanted) (bound : Bound) (view : View) (opening : History) (first extent : ℕ) (pins : List (Pin Content))
    → view.extents ≡ extent → HasPins wanted bound view opening first extent pins → HasPins wanted bound view opening first view.extents pins
pins-done wanted bound view opening first extent pins all has = subst (λ (n : ℕ). HasPins wanted bound view opening first n pins) (sym all) has

-- what is wanted is that of all rows
pub wanted-all : (wanted : Wanted) (who : ℕ) (cursor : Cursor) (now : Known) (pins : List (Pin Content)) (part : Parts) → IsKept who cursor now
    → HasPins wanted cursor.bound cursor.view now.log cursor.next cursor.view.extents pins → HasWanted wanted cursor pins part
    → part ≡ partial cursor.bound (wanted_of wanted (seen_all now.log cursor.view))
wanted-all AllParts who cursor now pins part kept has goes =
    part-all AllParts who cursor.number (cursor.next + length pins) cursor.bound cursor.view now part kept.scan (sym has.1)
    (goes.goes now.log (seen_to now.log cursor.view cursor.next) kept.sound.part has.0
    ∙ ap (partial cursor.bound) (seen_to-from now.log cursor.view cursor.next (length pins)))
wanted-all Marks who cursor now pins part kept has none = none
