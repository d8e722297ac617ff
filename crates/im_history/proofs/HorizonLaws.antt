-- The horizon, as a history goes on: nobody reads below it.
use Rattle.std.proofs.Common.{◌≡◌, ℕ, zero, suc, ◌==◌, ◌+◌, ◌≤◌, ◌<◌, ◌⊎◌, inl, inr, Bool, true, false, not, min, List, [], ◌∷◌, ◌++◌, length, map, All, Option, Some, None, if◌then◌else◌, refl, sym, ap, subst, ◌∙◌, ⊎_elim, arith, le_refl, append_assoc, append-nil}
use Rattle.std.specs.List.{flat_map, range_with_len}
use Rattle.std.specs.Option.{option_map}
use Rattle.std.proofs.lemmas.Bool.{cases_lt, eqb-true, false≢true}
use Rattle.std.proofs.lemmas.List.{length_push, take_all, take-append-le}
use Rattle.std.proofs.lemmas.List.Elements.{All-nil, All-cons, All-append, All-filter, All-head, All-tail, All-weaker}
use Rattle.im_values.specs.declared.limits.TheConstants.{NUMBERS}
use Rattle.im_history.specs.declared.entry.Entry.{Entry}
use Rattle.im_history.specs.declared.entry.Mode.{Mode}
use Rattle.im_history.specs.declared.entry.Mode.TheVariants.{Committed, Serializable, ReadOnly}
use Rattle.im_history.specs.declared.entry.What.{What}
use Rattle.im_history.specs.declared.entry.What.TheVariants.{Begin, Open, Shut, Write, Commit, Rollback, Build, Switch, Cancel, Purge}
use Rattle.im_history.specs.declared.limits.Limits.{Limits}
use Rattle.im_history.specs.declared.refused.Why.{Why}
use Rattle.im_history.specs.declared.refused.Why.TheVariants.{TransactionOpen}
use Rattle.im_history.specs.declared.task.Held.{Held}
use Rattle.im_history.specs.Commits.{moves_clock, scn}
use Rattle.im_history.specs.Cursors.{Opened, is_cursor, opened, opened_after}
use Rattle.im_history.specs.History.{History, replay}
use Rattle.im_history.specs.Horizon.{horizon, horizon_after, NoneBelow, keep, least, moves_horizon, scns_built, scns_read}
use Rattle.im_history.specs.Legal.{IsAllowed, IsLegal}
use Rattle.im_history.specs.Refusals.{open_refusal}
use Rattle.im_history.specs.Rows.{scn_at, snapshot, snapshot_under}
use Rattle.im_history.specs.Transactions.{begun, begun_after, mode, mode_after, or_here}
use Rattle.im_history.specs.Units.{held, held_after, is_id, killed_by}
use Rattle.im_history.specs.Views.{reads_at, view_at}
use Rattle.im_history.proofs.BuildLaws.{begun_at}
use Rattle.im_history.proofs.Laws.{IsLegal-number, IsLegal-pop, begun-push, mode-push, opened-push, scn-push}
use Rattle.im_history.proofs.Replay.{replay-push}
use Rattle.im_history.proofs.RowLaws.{each_history}
use Rattle.im_history.proofs.UnitLaws.{held-push}
use Rattle.im_history.proofs.ViewLaws.{asked-within, open-asked}

pub horizon-nil : horizon [] ≡ 0
unfolding horizon replay
horizon-nil = refl

after-is : (h : History) (so_far : ℕ) (what : What) → horizon_after h so_far what ≡ (if moves_horizon what then keep h else so_far)
after-is h so_far Purge = refl
after-is h so_far _ = refl

pub horizon-push : (h : History) (entry : Entry) → horizon (h ++ entry ∷ []) ≡ (if moves_horizon entry.what then keep h else horizon h)
unfolding horizon
horizon-push h entry = replay-push (λ before so_far e. horizon_after before so_far e.what) 0 h entry ∙ after-is h (horizon h) entry.what

-- an entry that is no purge leaves the horizon where it is
pub horizon-quiet : (h : History) (entry : Entry) → moves_horizon entry.what ≡ false → horizon (h ++ entry ∷ []) ≡ horizon h
horizon-quiet h entry quiet = horizon-push h entry ∙ ap (λ (b : Bool). if b then keep h else horizon h) quiet

-- ---- the least of numbers

least-most : (most : ℕ) (ns : List ℕ) → least most ns ≤ most
least-most most [] = le_refl _
least-most most (n ∷ ns) = let rest = least-most most ns in omega (arith, rest)

least-of : (n most : ℕ) (ns : List ℕ) → n ≤ most → All (λ m. n ≤ m) ns → n ≤ least most ns
least-of n most [] below each = below
least-of n most (m ∷ ns) below each =
    let first = All-head (λ m. n ≤ m) m ns each in
    let rest = least-of n most ns below (All-tail (λ m. n ≤ m) m ns each) in
    omega (arith, first, rest)

least-left : (most : ℕ) (xs ys : List ℕ) → All (λ s. least most (xs ++ ys) ≤ s) xs
least-left most [] ys = All-nil (λ s. least most ys ≤ s)
least-left most (x ∷ xs) ys =
    All-cons (λ s. min x (least most (xs ++ ys)) ≤ s) x xs (omega arith)
    (All-weaker (λ s. least most (xs ++ ys) ≤ s) (λ s. min x (least most (xs ++ ys)) ≤ s) (λ s below. omega (arith, below)) xs (least-left most xs ys))

least-right : (most : ℕ) (xs ys : List ℕ) → least most (xs ++ ys) ≤ least most ys
least-right most [] ys = le_refl _
least-right most (x ∷ xs) ys = let rest = least-right most xs ys in omega (arith, rest)

-- the least of all these lists is at most each number of one of them
least-among : (f : ℕ → List ℕ) (most first count x : ℕ) (rest : List ℕ) → first ≤ x → x < first + count
    → All (λ s. least most (flat_map f (range_with_len first count) ++ rest) ≤ s) (f x)
least-among f most first zero x rest from below = absurd (omega (arith, from, below))
least-among f most first (suc count) x rest from below =
    let more = flat_map f (range_with_len (first + 1) count) in
    subst (λ (l : List ℕ). All (λ s. least most l ≤ s) (f x)) (sym (append_assoc (f first) more rest))
    (⊎_elim
    (λ (is : x ≡ first). rw is (least-left most (f first) (more ++ rest)))
    (λ (past : first < x). All-weaker (λ s. least most (more ++ rest) ≤ s) (λ s. least most (f first ++ (more ++ rest)) ≤ s)
    (λ s below. let less = least-right most (f first) (more ++ rest) in omega (arith, less, below)) (f x)
    (least-among f most (first + 1) count x rest (omega (arith, past)) (omega (arith, below))))
    (first_or_past x first from))
  where
    first_or_past : (x first : ℕ) → first ≤ x → (x ≡ first) ⊎ (first < x)
    first_or_past x first from =
        ⊎_elim (λ (past : first < x). inr past) (λ (upto : x ≤ first). inl (omega (arith, from, upto))) (cases_lt first x)

pub keep-le-scn : (h : History) → keep h ≤ scn h
unfolding keep
keep-le-scn h = least-most (scn h) (flat_map (scns_read h) (range_with_len 0 NUMBERS) ++ scns_built h)

-- ---- the horizon was reached

record IsReached (h : History) : Type 0 where
  pub is : horizon h ≤ scn h

IsReached-nil : IsReached []
IsReached-nil = record { is = rw horizon-nil (omega arith) }

IsReached-push : (h : History) (entry : Entry) → IsReached h → IsReached (h ++ entry ∷ [])
IsReached-push h entry so_far = record { is = rw (horizon-push h entry, scn-push h entry) (by (moves_horizon entry.what)) }
  where
    by : (b : Bool) → (if b then keep h else horizon h) ≤ scn h + (if moves_clock entry.what then 1 else 0)
    by true = let kept = keep-le-scn h in omega (arith, kept)
    by false = let before = so_far.is in omega (arith, before)

pub horizon-le-scn : (h : History) → horizon h ≤ scn h
horizon-le-scn h = (each_history IsReached IsReached-nil IsReached-push h).is

-- ---- nobody reads below it

All-unmap : {X : Type 0} (f : X → ℕ) (n : ℕ) (xs : List X) → All (λ m. n ≤ m) (map f xs) → All (λ x. n ≤ f x) xs
All-unmap f n [] all = All-nil (λ x. n ≤ f x)
All-unmap f n (x ∷ xs) all =
    All-cons (λ x. n ≤ f x) x xs (All-head (λ m. n ≤ m) (f x) (map f xs) all) (All-unmap f n xs (All-tail (λ m. n ≤ m) (f x) (map f xs) all))

All-map : {X : Type 0} (f : X → ℕ) (n : ℕ) (xs : List X) → All (λ x. n ≤ f x) xs → All (λ m. n ≤ m) (map f xs)
All-map f n [] all = All-nil (λ m. n ≤ m)
All-map f n (x ∷ xs) all =
    All-cons (λ m. n ≤ m) (f x) (map f xs) (All-head (λ x. n ≤ f x) x xs all) (All-map f n xs (All-tail (λ x. n ≤ f x) x xs all))

-- nobody reads below what a purge keeps
pub NoneBelow-keep : (h : History) → NoneBelow h (keep h)
unfolding keep
NoneBelow-keep h = record {
  reached = least-most (scn h) (flat_map (scns_read h) (range_with_len 0 NUMBERS) ++ scns_built h);
  sessions = λ who within. All-head (λ s. keep h ≤ s) (snapshot h who) (map (λ o. o.view.scn) (opened h who)) (read who within);
  cursors = λ who within.
      All-unmap (λ (o : Opened). o.view.scn) (keep h) (opened h who)
      (All-tail (λ s. keep h ≤ s) (snapshot h who) (map (λ o. o.view.scn) (opened h who)) (read who within));
  builds = All-unmap (λ (b : Held). b.task.scn) (keep h) (held h)
      (All-weaker (λ s. least (scn h) (scns_built h) ≤ s) (λ s. keep h ≤ s)
      (λ s below. let less = least-right (scn h) (flat_map (scns_read h) (range_with_len 0 NUMBERS)) (scns_built h) in omega (arith, less, below)) (scns_built h)
      (rw (append-nil (scns_built h)) at (least-left (scn h) (scns_built h) [])));
}
  where
    read : (who : ℕ) → who < NUMBERS → All (λ s. keep h ≤ s) (scns_read h who)
    read who within = least-among (scns_read h) (scn h) 0 NUMBERS who (scns_built h) (omega arith) within

flat-below : (f : ℕ → List ℕ) (n first count : ℕ) → ((x : ℕ) → x < first + count → All (λ m. n ≤ m) (f x)) → All (λ m. n ≤ m) (flat_map f (range_with_len first count))
flat-below f n first zero each = All-nil (λ m. n ≤ m)
flat-below f n first (suc count) each =
    All-append (λ m. n ≤ m) (f first) (flat_map f (range_with_len (first + 1) count)) (each first (omega arith))
    (flat-below f n (first + 1) count (λ x below. each x (omega (arith, below))))

-- what nobody reads below is kept
pub NoneBelow-kept : (h : History) (n : ℕ) → NoneBelow h n → n ≤ keep h
unfolding keep
NoneBelow-kept h n none =
    least-of n (scn h) (flat_map (scns_read h) (range_with_len 0 NUMBERS) ++ scns_built h) none.reached
    (All-append (λ m. n ≤ m) (flat_map (scns_read h) (range_with_len 0 NUMBERS)) (scns_built h)
    (flat-below (scns_read h) n 0 NUMBERS (λ who within. All-cons (λ m. n ≤ m) (snapshot h who) (map (λ o. o.view.scn) (opened h who))
    (none.sessions who within) (All-map (λ (o : Opened). o.view.scn) n (opened h who) (none.cursors who within))))
    (All-map (λ (b : Held). b.task.scn) n (held h) none.builds))

-- ---- as a history goes on

-- a snapshot that was taken stays, and one that was not comes later
scn-grows : (h : History) (entry : Entry) → scn h ≤ scn (h ++ entry ∷ [])
scn-grows h entry = let moved = scn-push h entry in omega (arith, moved)

scn_at-here : (h : History) (entry : Entry) → scn_at (h ++ entry ∷ []) (length h) ≡ scn h
scn_at-here h entry = ap scn (take-append-le (length h) h (entry ∷ []) (le_refl _) ∙ take_all (length h) h (le_refl _))

scn_at-grows : (h : History) (entry : Entry) (place : ℕ) → scn_at h place ≤ scn_at (h ++ entry ∷ []) place
scn_at-grows h entry place =
    ⊎_elim
    (λ (past : length h < place). rw (take_all place h (omega (arith, past)), take_all place (h ++ entry ∷ []) (long past)) (scn-grows h entry))
    (λ (within : place ≤ length h). rw (take-append-le place h (entry ∷ []) within) (le_refl _))
    (cases_lt (length h) place)
  where
    long : length h < place → length (h ++ entry ∷ []) ≤ place
    long past = let is = length_push h entry in omega (arith, is, past)

under-grows : (h : History) (entry : Entry) (n : ℕ) (mode : Mode) (began : Option ℕ) → n ≤ scn h → n ≤ snapshot_under h mode began
    → n ≤ snapshot_under (h ++ entry ∷ []) mode began
under-grows h entry n Committed began reached below = let more = scn-grows h entry in omega (arith, more, reached)
under-grows h entry n Serializable None reached below = let more = scn-grows h entry in omega (arith, more, reached)
under-grows h entry n Serializable (Some place) reached below = let more = scn_at-grows h entry place in omega (arith, more, below)
under-grows h entry n ReadOnly None reached below = let more = scn-grows h entry in omega (arith, more, reached)
under-grows h entry n ReadOnly (Some place) reached below = let more = scn_at-grows h entry place in omega (arith, more, below)

under-here : (h : History) (entry : Entry) (n : ℕ) (mode : Mode) → n ≤ scn h → n ≤ snapshot_under (h ++ entry ∷ []) mode (Some (length h))
under-here h entry n Committed reached = let more = scn-grows h entry in omega (arith, more, reached)
under-here h entry n Serializable reached = let here = scn_at-here h entry in omega (arith, here, reached)
under-here h entry n ReadOnly reached = let here = scn_at-here h entry in omega (arith, here, reached)

or-here : (h : History) (entry : Entry) (n : ℕ) (mode : Mode) (began : Option ℕ) → n ≤ scn h → n ≤ snapshot_under h mode began
    → n ≤ snapshot_under (h ++ entry ∷ []) mode (or_here (length h) began)
or-here h entry n mode None reached below = under-here h entry n mode reached
or-here h entry n mode (Some place) reached below = under-grows h entry n mode (Some place) reached below

none-begun : (began : Option ℕ) → option_map (λ place. TransactionOpen place) began ≡ None → began ≡ None
none-begun None is = refl
none-begun (Some place) is = absurd (some_none is)
  where
    some_none : {why : Why} → Some why ≡ None → ⊥
    some_none is = cc

snapshot-after : (limits : Limits) (h : History) (entry : Entry) (n who : ℕ) (what : What) → IsAllowed limits h who what → n ≤ scn h → n ≤ snapshot h who
    → n ≤ snapshot_under (h ++ entry ∷ []) (mode_after (mode h who) what) (begun_after (length h) (begun h who) what)
snapshot-after limits h entry n who (Begin new) may reached below =
    rw (none-begun (begun h who) may) (under-here h entry n new reached)
snapshot-after limits h entry n who (Write changes) may reached below = or-here h entry n (mode h who) (begun h who) reached below
snapshot-after limits h entry n who Commit may reached below = let more = scn-grows h entry in omega (arith, more, reached)
snapshot-after limits h entry n who Rollback may reached below = let more = scn-grows h entry in omega (arith, more, reached)
snapshot-after limits h entry n who _ may reached below = under-grows h entry n (mode h who) (begun h who) reached below

-- an SCN that may be asked for is not below the horizon
asked-from : (h : History) (who cursor : ℕ) (asked : Option ℕ) → open_refusal h who cursor asked ≡ None → horizon h ≤ snapshot h who
    → horizon h ≤ reads_at h who asked
asked-from h who cursor None allowed below = below
asked-from h who cursor (Some asked) allowed below = (asked-within h asked (open-asked h who cursor (Some asked) allowed)).0

opened-after : (limits : Limits) (h : History) (who : ℕ) (os : List Opened) (what : What) → IsAllowed limits h who what → horizon h ≤ snapshot h who
    → All (λ o. horizon h ≤ o.view.scn) os → All (λ o. horizon h ≤ o.view.scn) (opened_after h who os what)
opened-after limits h who os (Open cursor table asked) may below all =
    All-append (λ o. horizon h ≤ o.view.scn) os (record { cursor = cursor; view = view_at h who table asked } ∷ []) all
    (All-cons (λ o. horizon h ≤ o.view.scn) (record { cursor = cursor; view = view_at h who table asked }) []
    (asked-from h who cursor asked may.allowed below) (All-nil (λ o. horizon h ≤ o.view.scn)))
opened-after limits h who os (Shut cursor) may below all = All-filter (λ other. not (is_cursor cursor other)) (λ o. horizon h ≤ o.view.scn) os all
opened-after limits h who os _ may below all = all

killed-same : (place : ℕ) (what : What) (b : Held) → (killed_by place what b).task.scn ≡ b.task.scn
killed-same place what b = by _
  where
    by : (c : Bool) → (if c then record b { killed = or_here place b.killed } else b).task.scn ≡ b.task.scn
    by true = refl
    by false = refl

killed-after : (place : ℕ) (what : What) (n : ℕ) (bs : List Held) → All (λ b. n ≤ b.task.scn) bs → All (λ b. n ≤ b.task.scn) (map (killed_by place what) bs)
killed-after place what n [] all = All-nil (λ b. n ≤ b.task.scn)
killed-after place what n (b ∷ bs) all =
    All-cons (λ b. n ≤ b.task.scn) (killed_by place what b) (map (killed_by place what) bs)
    (rw (killed-same place what b) (All-head (λ b. n ≤ b.task.scn) b bs all)) (killed-after place what n bs (All-tail (λ b. n ≤ b.task.scn) b bs all))

held-after : (h : History) (who n : ℕ) (bs : List Held) (what : What) → n ≤ scn h → All (λ b. n ≤ b.task.scn) bs
    → All (λ b. n ≤ b.task.scn) (held_after h who bs what)
held-after h who n bs (Build id table extent trickle) reached all =
    All-append (λ b. n ≤ b.task.scn) bs (begun_at h who id table extent trickle ∷ []) all
    (All-cons (λ b. n ≤ b.task.scn) (begun_at h who id table extent trickle) [] reached (All-nil (λ b. n ≤ b.task.scn)))
held-after h who n bs (Switch id) reached all = All-filter (λ b. not (is_id id b)) (λ b. n ≤ b.task.scn) bs all
held-after h who n bs (Cancel id full) reached all = All-filter (λ b. not (is_id id b)) (λ b. n ≤ b.task.scn) bs all
held-after h who n bs what reached all = killed-after (length h) what n bs all

-- nobody reads below the horizon after one more entry that leaves it where it is
NoneBelow-push : (limits : Limits) (h : History) (entry : Entry) → IsAllowed limits h entry.who entry.what → entry.who < NUMBERS → NoneBelow h (horizon h)
    → NoneBelow (h ++ entry ∷ []) (horizon h)
NoneBelow-push limits h entry may number none = record {
  reached = let more = scn-grows h entry in let before = none.reached in omega (arith, more, before);
  sessions = λ who within. rw (mode-push h entry who, begun-push h entry who) (sessions who within (entry.who == who) refl);
  cursors = λ who within. rw (opened-push h entry who) (cursors who within (entry.who == who) refl);
  builds = rw (held-push h entry) (held-after h entry.who (horizon h) (held h) entry.what none.reached none.builds);
}
  where
    sessions : (who : ℕ) → who < NUMBERS → (b : Bool) → (entry.who == who) ≡ b →
        horizon h ≤ snapshot_under (h ++ entry ∷ []) (if b then mode_after (mode h who) entry.what else mode h who)
        (if b then begun_after (length h) (begun h who) entry.what else begun h who)
    sessions who within true is =
        snapshot-after limits h entry (horizon h) who entry.what (subst (λ (w : ℕ). IsAllowed limits h w entry.what) (eqb-true entry.who who is) may) none.reached
        (none.sessions who within)
    sessions who within false is = under-grows h entry (horizon h) (mode h who) (begun h who) none.reached (none.sessions who within)

    cursors : (who : ℕ) → who < NUMBERS → (b : Bool) → (entry.who == who) ≡ b →
        All (λ o. horizon h ≤ o.view.scn) (if b then opened_after h who (opened h who) entry.what else opened h who)
    cursors who within true is =
        opened-after limits h who (opened h who) entry.what (subst (λ (w : ℕ). IsAllowed limits h w entry.what) (eqb-true entry.who who is) may)
        (none.sessions who within) (none.cursors who within)
    cursors who within false is = none.cursors who within

-- a purge changes nothing that is read
NoneBelow-purge : (h : History) (who n : ℕ) → NoneBelow h n → NoneBelow (h ++ record { who = who; what = Purge } ∷ []) n
NoneBelow-purge h who n none = record {
  reached = let more = scn-grows h (record { who = who; what = Purge }) in let before = none.reached in omega (arith, more, before);
  sessions = λ other within. rw (mode-push h (record { who = who; what = Purge }) other, begun-push h (record { who = who; what = Purge }) other)
      (sessions other within (who == other));
  cursors = λ other within. rw (opened-push h (record { who = who; what = Purge }) other) (cursors other within (who == other));
  builds = rw (held-push h (record { who = who; what = Purge })) (killed-after (length h) Purge n (held h) none.builds);
}
  where
    sessions : (other : ℕ) → other < NUMBERS → (b : Bool) →
        n ≤ snapshot_under (h ++ record { who = who; what = Purge } ∷ []) (if b then mode h other else mode h other) (if b then begun h other else begun h other)
    sessions other within true = under-grows h (record { who = who; what = Purge }) n (mode h other) (begun h other) none.reached (none.sessions other within)
    sessions other within false = under-grows h (record { who = who; what = Purge }) n (mode h other) (begun h other) none.reached (none.sessions other within)

    cursors : (other : ℕ) → other < NUMBERS → (b : Bool) → All (λ o. n ≤ o.view.scn) (if b then opened h other else opened h other)
    cursors other within true = none.cursors other within
    cursors other within false = none.cursors other within

-- it is a purge that moves the horizon
purge-is : (what : What) → moves_horizon what ≡ true → what ≡ Purge
purge-is Purge moves = refl
purge-is _ moves = absurd (false≢true moves)

-- nobody reads below the horizon
record IsUpheld (h : History) : Type 0 where
  pub none : NoneBelow h (horizon h)

IsUpheld-nil : IsUpheld []
unfolding horizon opened held replay
IsUpheld-nil = record {
  none = record {
    reached = omega arith;
    sessions = λ who within. omega arith;
    cursors = λ who within. All-nil (λ o. 0 ≤ o.view.scn);
    builds = All-nil (λ b. 0 ≤ b.task.scn);
  };
}

IsUpheld-push : (limits : Limits) (h : History) (entry : Entry) → IsAllowed limits h entry.who entry.what → entry.who < NUMBERS → IsUpheld h → IsUpheld (h ++ entry ∷ [])
IsUpheld-push limits h entry may number upheld = record { none = rw (horizon-push h entry) (by (moves_horizon entry.what) refl) }
  where
    moved : moves_horizon entry.what ≡ true → NoneBelow (h ++ entry ∷ []) (keep h)
    moved is = subst (λ (w : What). NoneBelow (h ++ record { who = entry.who; what = w } ∷ []) (keep h)) (sym (purge-is entry.what is))
        (NoneBelow-purge h entry.who (keep h) (NoneBelow-keep h))

    by : (b : Bool) → moves_horizon entry.what ≡ b → NoneBelow (h ++ entry ∷ []) (if b then keep h else horizon h)
    by true is = moved is
    by false is = NoneBelow-push limits h entry may number upheld.none

record LegalUpheld (limits : Limits) (h : History) : Type 0 where
  pub is : IsLegal limits h → IsUpheld h

LegalUpheld-push : (limits : Limits) (h : History) (entry : Entry) → LegalUpheld limits h → LegalUpheld limits (h ++ entry ∷ [])
LegalUpheld-push limits h entry before = record {
  is = λ legal.
      let parts = IsLegal-pop limits h entry legal in
      IsUpheld-push limits h entry parts.1 (IsLegal-number limits h entry legal) (before.is parts.0);
}

-- in a legal history no session, no open cursor and no build that is held reads below the horizon
pub none_below : (limits : Limits) (h : History) → IsLegal limits h → NoneBelow h (horizon h)
none_below limits h legal = ((each_history (LegalUpheld limits) (record { is = λ legal. IsUpheld-nil }) (LegalUpheld-push limits) h).is legal).none

-- so a purge moves it on, or leaves it
pub horizon-le-keep : (limits : Limits) (h : History) → IsLegal limits h → horizon h ≤ keep h
horizon-le-keep limits h legal = NoneBelow-kept h (horizon h) (none_below limits h legal)
