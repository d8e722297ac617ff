-- Nobody reads below the horizon, whoever it is; and the SCN that a purge keeps.
use Rattle.std.proofs.Common.{◌≡◌, ◌≢◌, ◌^◌, ℕ, zero, suc, ◌+◌, ◌-◌, ◌==◌, ◌<◌, ◌≤◌, Bool, false, if◌then◌else◌, min, map, All, List, [], ◌∷◌, ◌++◌, length, Option, Some, refl, sym, ap, ap₂, subst, ◌∙◌, ⊎_elim, arith, append-nil}
use Rattle.std.specs.List.{flat_map, range_with_len}
use Rattle.std.proofs.lemmas.Bool.{cases_lt}
use Rattle.std.proofs.lemmas.Bool.Decides.{nat_tests}
use Rattle.std.proofs.lemmas.List.Concat.{flat_map-append}
use Rattle.std.proofs.lemmas.List.Elements.{All-nil}
use Rattle.im_values.specs.declared.limits.TheConstants.{NUMBERS}
use Rattle.im_history.specs.declared.entry.Entry.{Entry}
use Rattle.im_history.specs.declared.entry.What.TheVariants.{Purge}
use Rattle.im_history.specs.declared.limits.Limits.{Limits}
use Rattle.im_history.specs.declared.task.Held.{Held}
use Rattle.im_history.specs.declared.task.Task.{Task}
use Rattle.im_history.specs.Commits.{scn}
use Rattle.im_history.specs.Cursors.{Opened, cursor_at, is_cursor, opened, opened_after}
use Rattle.im_history.specs.History.{History, replay}
use Rattle.im_history.specs.Horizon.{horizon, keep, kept, least, scns_built, scns_read}
use Rattle.im_history.specs.Legal.{IsLegal}
use Rattle.im_history.specs.Rows.{snapshot}
use Rattle.im_history.specs.Units.{Content, held, is_id}
use Rattle.im_history.proofs.HorizonLaws.{horizon-push, none_below}
use Rattle.im_history.proofs.Laws.{IsLegal-number, IsLegal-pop, opened-push}
use Rattle.im_history.proofs.RowLaws.{each_history}
use Rattle.im_history.specs.Stored.{Stored}
use Rattle.im_blocks.specs.Chains.{AllVersions}
use Rattle.im_blocks.specs.Standing.{standing}
use Rattle.im_blocks.specs.Transitions.{Purged}
use Rattle.im_blocks.proofs.ForCallers.{standing_kept, standing_purged}
use Rattle.im_directory.specs.Agrees.{Agrees as IsOf}
use Rattle.im_directory.specs.Slots.{Kept, scns_among}
use Rattle.im_directory.proofs.ForCallers.{scns-by as builds-scns}
use Rattle.im_txn.specs.Activity.{scns_in}
use Rattle.im_txn.specs.Agrees.{Agrees}
use Rattle.im_txn.specs.Standing.{Standing, activity_at}
use Rattle.im_txn.proofs.ForCallers.{scns-by as sessions-scns}
use Rattle.im_txn.proofs.LeastLaws.{least-append, least-min}
use Rattle.im_core.specs.declared.answers.Purged.{Purged as Answer}
use Rattle.im_core.specs.Answers.{IsHeld, cursor_view, view_of}
use Rattle.im_core.specs.inner.Holds.{Caches, Holds}
use Rattle.im_core.proofs.FetchLemmas.{found_has}
use Rattle.im_core.proofs.PinLemmas.{is_open_at}

-- ---- open cursors

-- whoever has no number has no cursor open
record NoneOpen (limits : Limits) (h : History) : Type 0 where
  none : IsLegal limits h → (who : ℕ) → NUMBERS ≤ who → opened h who ≡ []

NoneOpen-nil : (limits : Limits) → NoneOpen limits []
unfolding opened replay
NoneOpen-nil limits = record { none = λ legal who past. refl }

NoneOpen-push : (limits : Limits) (h : History) (entry : Entry) → NoneOpen limits h → NoneOpen limits (h ++ entry ∷ [])
NoneOpen-push limits h entry so_far = record { none = λ legal who past. opened-push h entry who ∙ other who (IsLegal-number limits h entry legal) past (IsLegal-pop limits h entry legal).0 }
  where
    apart : (who : ℕ) → entry.who < NUMBERS → NUMBERS ≤ who → (entry.who == who) ≡ false
    apart who few past = grind (arith, nat_tests, few, past)

    other : (who : ℕ) → entry.who < NUMBERS → NUMBERS ≤ who → IsLegal limits h
        → (if entry.who == who then opened_after h who (opened h who) entry.what else opened h who) ≡ []
    other who few past legal =
        ap (λ (b : Bool). if b then opened_after h who (opened h who) entry.what else opened h who) (apart who few past) ∙ so_far.none legal who past

-- no cursor reads below the horizon
all_old : (limits : Limits) (h : History) (who : ℕ) → IsLegal limits h → All (λ o. horizon h ≤ o.view.scn) (opened h who)
all_old limits h who legal =
    ⊎_elim
    (λ (few : who < NUMBERS). (none_below limits h legal).cursors who few)
    (λ (past : NUMBERS ≤ who). subst (All (λ o. horizon h ≤ o.view.scn))
    (sym ((each_history (NoneOpen limits) (NoneOpen-nil limits) (NoneOpen-push limits) h).none legal who past)) (All-nil (λ (o : Opened). horizon h ≤ o.view.scn)))
    (cases_lt who NUMBERS)

pub cursor-old : (limits : Limits) (h : History) (who cursor : ℕ) (found : Opened) → IsLegal limits h → cursor_at h who cursor ≡ Some found
    → horizon h ≤ found.view.scn
cursor-old limits h who cursor found legal is =
    found_has (λ (o : Opened). horizon h ≤ o.view.scn) (is_cursor cursor) (opened h who) found (all_old limits h who legal) is

-- so a cursor whose view has an extent does not
pub view-old : (limits : Limits) (h : History) (who cursor extent : ℕ) → IsLegal limits h → extent < (cursor_view h who cursor).extents
    → horizon h ≤ (cursor_view h who cursor).scn
view-old limits h who cursor extent legal within =
    let at = is_open_at h who cursor extent within in
    subst (λ (o : Option Opened). horizon h ≤ (view_of o).scn) (sym at.is) (cursor-old limits h who cursor at.found legal at.is)

-- ---- held builds

pub task-old : (limits : Limits) (h : History) (task : Task) → IsLegal limits h → IsHeld h task → horizon h ≤ task.scn
task-old limits h task legal is =
    subst (λ (t : Task). horizon h ≤ t.scn) is.same
    (found_has (λ (b : Held). horizon h ≤ b.task.scn) (is_id task.id) (held h) is.held (none_below limits h legal).builds is.is)

-- ---- the SCN that a purge keeps

-- one number more
range-more : (first count : ℕ) → range_with_len first (suc count) ≡ range_with_len first count ++ (first + count) ∷ []
range-more first zero = let same : first ≡ first + 0 = omega arith in ap (λ (n : ℕ). n ∷ []) same
range-more first (suc count) =
    let last : first + 1 + count ≡ first + suc count = omega arith in
    ap (λ (l : List ℕ). first ∷ l)
    (range-more (first + 1) count ∙ ap (λ (n : ℕ). range_with_len (first + 1) count ++ n ∷ []) last)

-- the least SCN that the first so many sessions read at, or the present one
abbrev pub least_read : History → ℕ → ℕ
least_read h count = least (scn h) (flat_map (scns_read h) (range_with_len 0 count))

-- one session more
least_read-next : (h : History) (who so_far now : ℕ) → so_far ≡ least_read h who
    → now ≡ least (min (snapshot h who) so_far) (map (λ o. o.view.scn) (opened h who)) → now ≡ least_read h (who + 1)
least_read-next h who so_far now was is =
    let next : suc who ≡ who + 1 = omega arith in
    let read = map (λ (o : Opened). o.view.scn) (opened h who) in
    let here : who ≡ 0 + who = omega arith in
    let range : range_with_len 0 who ++ who ∷ [] ≡ range_with_len 0 who ++ (0 + who) ∷ [] = ap (λ (n : ℕ). range_with_len 0 who ++ n ∷ []) here in
    is
    ∙ (ap (λ (n : ℕ). least (min (snapshot h who) n) read) was
    ∙ (least-min (snapshot h who) (least_read h who) read
    ∙ (ap (least (least_read h who)) (sym (append-nil (scns_read h who)))
    ∙ (sym (least-append (scn h) (flat_map (scns_read h) (range_with_len 0 who)) (scns_read h who ++ []))
    ∙ (ap (least (scn h)) (sym (flat_map-append (scns_read h) (range_with_len 0 who) (who ∷ [])) ∙ ap (flat_map (scns_read h)) (range ∙ sym (range-more 0 who)))
    ∙ ap (least_read h) next)))))

-- all of them, and the builds
keep-is : (h : History) (so_far : ℕ) → so_far ≡ least_read h NUMBERS → least so_far (scns_built h) ≡ keep h
unfolding keep
keep-is h so_far is =
    ap (λ (n : ℕ). least n (scns_built h)) is ∙ sym (least-append (scn h) (flat_map (scns_read h) (range_with_len 0 NUMBERS)) (scns_built h))

-- one session more, as what is kept tells it
pub session-read : (h : History) (standing : Standing) (who number snap so_far lowest now : ℕ) → Agrees h standing → who ≡ number → snap ≡ snapshot h who
    → lowest ≡ min snap so_far → so_far ≡ least_read h number → now ≡ least lowest (scns_in (activity_at standing who)) → now ≡ least_read h (number + 1)
session-read h standing who number snap so_far lowest now agrees who_is snap_is lowest_is was is =
    least_read-next h number so_far now was
    (is
    ∙ ap₂ (λ (n : ℕ) (l : List ℕ). least n l) (lowest_is ∙ ap (λ (n : ℕ). min n so_far) (snap_is ∙ ap (snapshot h) who_is))
    (sessions-scns h standing who agrees ∙ ap (λ (w : ℕ). map (λ (o : Opened). o.view.scn) (opened h w)) who_is))

-- the builds too
pub builds-read : {U : Type 0} (content : U → Content) (h : History) (kept : Kept U) (number so_far now : ℕ) → IsOf content h kept → number ≡ NUMBERS
    → so_far ≡ least_read h number → now ≡ least so_far (scns_among kept.builds) → now ≡ keep h
builds-read content h kept number so_far now agrees all was is =
    is ∙ (ap (least so_far) (builds-scns content h kept agrees) ∙ keep-is h so_far (was ∙ ap (least_read h) all))

-- ---- a purge

-- where fewer versions stood than can be counted, those that a purge keeps are counted exactly
pub kept-counted : {U : Type 0} {content : U → Content} {limits : Limits} {history : Stored} {caches : Caches U} (was : AllVersions) (floor before now : ℕ)
    → Holds content limits history caches → Purged was caches.blocks floor → before ≡ min (standing was) (2 ^ 64 - 1) → before ≢ 2 ^ 64 - 1
    → now ≡ min (standing caches.blocks) (2 ^ 64 - 1) → now ≡ kept history.entries
kept-counted {U} {content} {limits} {history} {caches} was floor before now holds purged before_is few now_is =
    let fewer = standing_purged was caches.blocks floor purged in
    let exact : now ≡ standing caches.blocks = by (standing was) (standing caches.blocks) fewer before_is few now_is in
    exact ∙ standing_kept limits history.entries caches.blocks holds.legal holds.rows
  where
    by : (old new : ℕ) → new ≤ old → before ≡ min old (2 ^ 64 - 1) → before ≢ 2 ^ 64 - 1 → now ≡ min new (2 ^ 64 - 1) → now ≡ new
    by old new fewer before_is few now_is = grind (arith, fewer, before_is, few, now_is)

-- what a purge answers
pub purged-is : (log after : History) (who place floor count : ℕ) → place ≡ length log → floor ≡ keep log
    → after ≡ log ++ record { who = who; what = Purge } ∷ [] → count ≡ kept after
    → ◌≡◌ {A = Answer} (record { place = place; horizon = floor; kept = count }) (record { place = length log; horizon = horizon after; kept = kept after })
purged-is log after who place floor count place_is floor_is after_is count_is =
    let moved : floor ≡ horizon after = floor_is ∙ (sym (horizon-push log (record { who = who; what = Purge })) ∙ ap horizon (sym after_is)) in
    rw (place_is, moved, count_is) refl
