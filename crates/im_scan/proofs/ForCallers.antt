-- What callers know of the parts of a scan: what each may be asked, how they are merged, and what all of them are.
use Rattle.std.proofs.Common.{◌≡◌, ℕ, zero, suc, ◌+◌, ◌-◌, ◌*◌, ◌/◌, ◌<◌, ◌≤◌, ◌^◌, min, Bool, true, false, if◌then◌else◌, All, List, [], ◌∷◌, ◌++◌, length, map, Option, Some, None, refl, sym, subst, ap, ◌∙◌, ⊎_elim, arith, append-nil}
use Rattle.std.specs.Prelude.{nat_le}
use Rattle.std.specs.List.{AllByRecursion, fold, range_with_len, filter_map, cons_option}
use Rattle.std.specs.Option.{ForSome, option_map}
use Rattle.std.proofs.Math.Nat.{lt-mul-div-succ}
use Rattle.std.proofs.lemmas.Bool.{cases_lt}
use Rattle.std.proofs.lemmas.Bool.Decides.{nat_tests}
use Rattle.std.proofs.lemmas.List.{length-take-le}
use Rattle.std.proofs.lemmas.List.Elements.{All-take, filter_map-append}
use Rattle.im_syntax.specs.declared.bound.Bound.{Bound}
use Rattle.im_history.specs.declared.view.View.{View}
use Rattle.im_history.specs.Commits.{scn}
use Rattle.im_history.specs.Grid.{extents_for}
use Rattle.im_history.specs.History.{History}
use Rattle.im_history.specs.Rows.{Row, rows, row_after, seen, present}
use Rattle.im_history.specs.Legal.{IsLegal}
use Rattle.im_history.specs.Units.{Content, content_at, rows_of_extent, stale, unit as current, unit_row}
use Rattle.im_history.specs.Views.{per_at, seen_by, shown}
use Rattle.im_history.specs.declared.limits.Limits.{Limits}
use Rattle.im_history.proofs.FitLaws.{fits-length, fits-short}
use Rattle.im_history.proofs.RowLaws.{rows-append}
use Rattle.im_history.proofs.ShapeLaws.{are-narrow, defaults-fit}
use Rattle.im_history.proofs.StaleLaws.{defaults-first}
use Rattle.im_history.proofs.ViewLaws.{HasColumns}
use Rattle.im_column.specs.Forms.{IsShort}
use Rattle.im_history.specs.Serving.{not_newer, serving, serving_content, rows_in, fetched_by, fetched_in, shown_all}
use Rattle.im_group.specs.Partials.{Numbered, Parts, partial, merged, CanMerge}
use Rattle.im_group.proofs.ForCallers.{merged-partial, CanMerge-partial}
use Rattle.im_scan.specs.declared.faces.Face.{Face}
use Rattle.im_scan.specs.declared.faces.Face.TheVariants.{Whole, Edges, Bare}
use Rattle.im_scan.specs.Faces.{Shows, unit_of}
use Rattle.im_scan.specs.Parts.{AreDefaults, AreShown, MayAsk, MayAskShown}
use Rattle.im_scan.specs.Pinned.{HasDefaults, Serves, IsPinned, seen_in, seen_to, seen_all}
use Rattle.im_scan.proofs.PinLemmas.{are-shown, present-same, unit-shown}

-- ---- what was pinned

not_newer-old : (scn : ℕ) (current : Option ℕ) (n : ℕ) → not_newer scn current ≡ Some n → n ≤ scn
not_newer-old scn None n is = absurd cc
not_newer-old scn (Some unit_scn) n is = by (nat_le unit_scn scn) refl is
  where
    by : (b : Bool) → nat_le unit_scn scn ≡ b → ◌≡◌ {A = Option ℕ} (if b then Some unit_scn else None) (Some n) → n ≤ scn
    by true within some = let same : unit_scn ≡ n = cc in grind (arith, nat_tests, same, within)
    by false newer some = absurd cc

pinned-at : (h : History) (view : View) (extent : ℕ) (current : Option ℕ) → view.per ≡ per_at h view.table → HasDefaults h view
    → ((n : ℕ) → current ≡ Some n → n ≤ view.scn)
    → IsPinned h view extent (option_map (content_at h view.table extent) current) (shown_all view (fetched_by h view extent current))
pinned-at h view extent None per has old = record { per = per; defaults = has; serves = λ content some. absurd cc; is = refl }
pinned-at h view extent (Some n) per has old = record { per = per; defaults = has; serves = served; is = refl }
  where
    served : (content : Content) → Some (content_at h view.table extent n) ≡ Some content → Serves h view extent content
    served content some =
        let same : content_at h view.table extent n ≡ content = cc in
        let whole : Serves h view extent (content_at h view.table extent n) = record { holds = refl; old = old n refl } in
        subst (Serves h view extent) same whole

-- an extent that was pinned: the unit that serves the view was lent, and what is to be fetched beside it was fetched
pub pinned-serving : (h : History) (view : View) (extent : ℕ) (unit : Option Content) (fetched : List (ℕ × Option Row))
    → view.per ≡ per_at h view.table → HasColumns h view → unit ≡ serving_content h view extent
    → fetched ≡ fetched_in h view extent → IsPinned h view extent unit fetched
pinned-serving h view extent unit fetched per has lent is =
    rw (lent, is) (pinned-at h view extent (serving h view extent) per (λ at old. defaults-first h view at has old)
    (not_newer-old view.scn (current h view.table extent)))

-- what was fetched is as the view shows it
pub fetched-shown : (h : History) (view : View) (extent : ℕ) (unit : Option Content) (fetched : List (ℕ × Option Row))
    → IsPinned h view extent unit fetched → AreShown view fetched
fetched-shown h view extent unit fetched pinned =
    are-shown view fetched (fetched_by h view extent (option_map (λ content. content.scn) unit)) pinned.is

-- in a legal history the view of a cursor has a default for each of its columns, and none is a text that is too long
pub defaults-are : (limits : Limits) (h : History) (view : View) → IsLegal limits h → HasColumns h view → AreDefaults view
defaults-are limits h view legal has =
    let fit = defaults-fit limits h view.table has.made legal has.is in
    let narrow = are-narrow limits h view.table has.made legal has.is in
    let long = fits-length has.made.defaults has.made.schema fit in
    let few = has.few in
    record {
      each = ap length has.defaults ∙ length-take-le (length view.columns) has.made.defaults (omega (arith, few, long));
      short = subst (All IsShort) (sym has.defaults) (All-take IsShort (length view.columns) has.made.defaults (fits-short has.made.defaults has.made.schema fit narrow));
    }

-- a query may be asked of each row that was committed up to a view's SCN, as the view shows it
pub record MayAskOf (bound : Bound) (history : History) (view : View) : Type 0 where
  pub each : (n rid : ℕ) → n ≤ view.scn → MayAskShown bound view (rows history view.table n rid)

each-mapped : (bound : Bound) (view : View) (row_at : ℕ → Option Row) (rids : List ℕ) → ((rid : ℕ) → MayAskShown bound view (row_at rid))
    → AllByRecursion (MayAskShown bound view) (map row_at rids)
each-mapped bound view row_at [] each = tt
each-mapped bound view row_at (rid ∷ rids) each = (each rid, each-mapped bound view row_at rids each)

each-fetched : (bound : Bound) (view : View) (row_at : ℕ → Option Row) (rids : List ℕ) → ((rid : ℕ) → MayAskShown bound view (row_at rid))
    → AllByRecursion (λ (row : ℕ × Option Row). MayAsk bound row.1) (shown_all view (map (λ rid. (rid, row_at rid)) rids))
each-fetched bound view row_at [] each = tt
each-fetched bound view row_at (rid ∷ rids) each = (each rid, each-fetched bound view row_at rids each)

-- it may then be asked of each row of a unit that was lent, as the view shows it
pub unit-may : (bound : Bound) (h : History) (view : View) (extent : ℕ) (unit : Option Content)
    (fetched : List (ℕ × Option Row))
    → IsPinned h view extent unit fetched → MayAskOf bound h view
    → ForSome unit (λ content. AllByRecursion (MayAskShown bound view) content.rows)
unit-may bound h view extent unit fetched pinned may content is =
    let serves = pinned.serves content is in
    rw serves.holds (each-mapped bound view (unit_row h view.table content.scn) (rows_of_extent (per_at h view.table) extent)
    (λ rid. subst (MayAsk bound) (sym (unit-shown h view content.scn rid pinned.defaults serves.old)) (may.each content.scn rid serves.old)))

-- and of each row that was fetched
pub fetched-may : (bound : Bound) (h : History) (view : View) (extent : ℕ) (unit : Option Content)
    (fetched : List (ℕ × Option Row))
    → IsPinned h view extent unit fetched → MayAskOf bound h view → AllByRecursion (λ row. MayAsk bound row.1) fetched
fetched-may bound h view extent None fetched pinned may =
    rw pinned.is
    (each-fetched bound view (rows h view.table view.scn) (range_with_len (extent * view.per) (rows_in view extent))
    (λ rid. may.each view.scn rid (omega arith)))
fetched-may bound h view extent (Some content) fetched pinned may =
    rw pinned.is
    (each-fetched bound view (rows h view.table view.scn) (stale h view.table extent content.scn view.scn)
    (λ rid. may.each view.scn rid (omega arith)))

-- what holds of a unit holds of the one whose rows a face shows
pub shown-may : (face : Face) (unit : Option Content) (bound : Bound) (P : Content → Type 0) → Shows face unit bound → ForSome unit P →
    ForSome (unit_of face) P
shown-may (Whole whole) (Some content) bound P shows holds shown is =
    let here : whole.now ≡ shown = cc in
    let same : shown ≡ content = sym here ∙ shows.0 in
    rw same (holds content refl)
shown-may (Whole whole) None bound P shows holds shown is = absurd shows
shown-may (Edges edges) unit bound P shows holds shown is = absurd cc
shown-may Bare unit bound P shows holds shown is = absurd cc

-- ---- later histories

-- whatever is added to a history, a view of it sees the same rows
pub seen_by-later : (h more : History) (view : View) (rid : ℕ) → view.scn ≤ scn h
    → seen_by (h ++ more) view rid ≡ seen_by h view rid
unfolding seen
seen_by-later h more view rid known =
    ap (λ (row : Option Row). shown view (fold (row_after view.table rid) row view.own)) (rows-append h more view.table view.scn rid known)

pub seen_in-later : (h more : History) (view : View) (extent : ℕ) → view.scn ≤ scn h
    → seen_in (h ++ more) view extent ≡ seen_in h view extent
seen_in-later h more view extent known =
    present-same (seen_by (h ++ more) view) (seen_by h view) (extent * view.per) (rows_in view extent)
    (λ rid from below. seen_by-later h more view rid known)

-- ---- the first extents, and one more

ranges : (first n m : ℕ) → range_with_len first n ++ range_with_len (first + n) m ≡ range_with_len first (n + m)
ranges first zero m = ap (λ (k : ℕ). range_with_len k m) (omega arith) ∙ ap (range_with_len first) (omega arith)
ranges first (suc n) m =
    let past : first + suc n ≡ first + 1 + n = omega arith in
    let more : suc (n + m) ≡ suc n + m = omega arith in
    ap (λ (l : List ℕ). first ∷ l)
    (ap (λ (k : ℕ). range_with_len (first + 1) n ++ range_with_len k m) past ∙ ranges (first + 1) n m)
    ∙ ap (range_with_len first) more

pub present-append : (row_at : ℕ → Option Row) (first n m next : ℕ) → first + n ≡ next
    → present row_at first n ++ present row_at next m ≡ present row_at first (n + m)
present-append row_at first n m next is =
    ap (λ (k : ℕ). present row_at first n ++ present row_at k m) (sym is)
    ∙ (sym (filter_map-append (λ rid. option_map (λ row. (rid, row)) (row_at rid)) (range_with_len first n)
    (range_with_len (first + n) m))
    ∙ ap (filter_map (λ rid. option_map (λ row. (rid, row)) (row_at rid))) (ranges first n m))

-- nothing is added, whatever row number it would begin at
present-nothing : (row_at : ℕ → Option Row) (first n next : ℕ)
    → present row_at first n ++ present row_at next 0 ≡ present row_at first n
present-nothing row_at first n next = append-nil (present row_at first n)

-- row numbers cut at one extent and at the next
one-more : (row_at : ℕ → Option Row) (begin end given per : ℕ) → end ≡ begin + per
    → present row_at 0 (min begin given) ++ present row_at begin (min per (given - begin)) ≡ present row_at 0 (min end given)
one-more row_at begin end given per is =
    ⊎_elim
    (λ (past : given < begin).
    let none : min per (given - begin) ≡ 0 = omega (arith, past) in
    let all : min begin given ≡ min end given = omega (arith, past, is) in
    ap (λ (n : ℕ). present row_at 0 (min begin given) ++ present row_at begin n) none
    ∙ (present-nothing row_at 0 (min begin given) begin
    ∙ ap (present row_at 0) all))
    (λ (within : begin ≤ given).
    let here : 0 + min begin given ≡ begin = omega (arith, within) in
    let next : min begin given + min per (given - begin) ≡ min end given = omega (arith, within, is) in
    present-append row_at 0 (min begin given) (min per (given - begin)) begin here
    ∙ ap (present row_at 0) next)
    (cases_lt given begin)

pub seen_to-none : (h : History) (view : View) → seen_to h view 0 ≡ []
seen_to-none h view = ap (present (seen_by h view) 0) (let none : min (0 * view.per) view.rows ≡ 0 = omega arith in none)

pub seen_to-more : (h : History) (view : View) (extent : ℕ)
    → seen_to h view extent ++ seen_in h view extent ≡ seen_to h view (extent + 1)
seen_to-more h view extent =
    one-more (seen_by h view) (extent * view.per) ((extent + 1) * view.per) view.rows view.per (omega arith)

all-rows : (given per : ℕ) → 1 ≤ per → min (extents_for given per * per) given ≡ given
all-rows given per some =
    let below : given + per - 1 < per * ((given + per - 1) / per + 1) = lt-mul-div-succ (given + per - 1) some in
    let spread : per * ((given + per - 1) / per + 1) ≡ (given + per - 1) / per * per + per = spreads per
    ((given + per - 1) / per) in
    omega (arith, below, spread, some)
  where
    spreads : (p q : ℕ) → p * (q + 1) ≡ q * p + p
    spreads p q = omega arith

-- all extents are all rows
pub seen_to-all : (h : History) (view : View) (extents : ℕ) → 1 ≤ view.per → extents ≡ extents_for view.rows view.per
    → seen_to h view extents ≡ seen_all h view
seen_to-all h view extents some is = ap (seen_to h view) is ∙ ap (present (seen_by h view) 0) (all-rows view.rows view.per some)

-- ---- parts merged

-- the part of the next extent, merged into that of those before it
pub merged-seen : (bound : Bound) (h : History) (view : View) (extent : ℕ) (before part : Parts)
    → before ≡ partial bound (seen_to h view extent) → part ≡ partial bound (seen_in h view extent)
    → merged before part ≡ partial bound (seen_to h view (extent + 1))
merged-seen bound h view extent before part is and_is =
    ap (λ (p : Parts). merged p part) is
    ∙ (ap (merged (partial bound (seen_to h view extent))) and_is
    ∙ (merged-partial bound (seen_to h view extent) (seen_in h view extent)
    ∙ ap (partial bound) (seen_to-more h view extent)))

-- the same where the extent was pinned later, whatever was added to the history meanwhile
pub merged-later : (bound : Bound) (h more : History) (view : View) (extent : ℕ) (before part : Parts) → view.scn ≤ scn h
    → before ≡ partial bound (seen_to h view extent) → part ≡ partial bound (seen_in (h ++ more) view extent)
    → merged before part ≡ partial bound (seen_to h view (extent + 1))
merged-later bound h more view extent before part known is and_is =
    merged-seen bound h view extent before part is (and_is ∙ ap (partial bound) (seen_in-later h more view extent known))

length-optional : (row : Option (ℕ × Row)) (later : List Numbered) (n : ℕ) → length later ≤ n
    → length (cons_option row later) ≤ n + 1
length-optional None later n few = omega (arith, few)
length-optional (Some row) later n few = omega (arith, few)

pub length-present : (row_at : ℕ → Option Row) (first n : ℕ) → length (present row_at first n) ≤ n
length-present row_at first zero = omega arith
length-present row_at first (suc n) =
    let few = length-optional (option_map (λ row. (first, row)) (row_at first)) (present row_at (first + 1) n) n
    (length-present row_at (first + 1) n) in
    omega (arith, few)

-- they may be merged
pub can-merge-seen : (bound : Bound) (h : History) (view : View) (extent : ℕ) (before part : Parts) → view.rows < 2 ^ 64
    → before ≡ partial bound (seen_to h view extent) → part ≡ partial bound (seen_in h view extent) → CanMerge before part
can-merge-seen bound h view extent before part few is and_is =
    rw (is, and_is) (CanMerge-partial bound (seen_to h view extent) (seen_in h view extent)
    (both (extent * view.per) view.rows view.per (length (seen_to h view extent)) (length (seen_in h view extent)) few
    (length-present (seen_by h view) 0 (min (extent * view.per) view.rows))
    (length-present (seen_by h view) (extent * view.per) (rows_in view extent))))
  where
    both : (begin given per front back : ℕ) → given < 2 ^ 64 → front ≤ min begin given → back ≤ min per (given - begin)
        → front + back < 2 ^ 64
    both begin given per front back few a b = omega (arith, few, a, b)
