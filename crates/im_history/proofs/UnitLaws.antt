-- What each reading of builds and units is after one more entry.
use Rattle.std.proofs.Common.{◌≡◌, ℕ, [], ◌∷◌, ◌++◌, Bool, true, false, List, length, map, Option, None, if◌then◌else◌, refl, ◌∙◌}
use Rattle.std.proofs.lemmas.Bool.{false≢true}
use Rattle.im_history.specs.declared.entry.Entry.{Entry}
use Rattle.im_history.specs.declared.entry.What.{What}
use Rattle.im_history.specs.declared.entry.What.TheVariants.{Build, Switch, Cancel, Commit}
use Rattle.im_history.specs.declared.task.Held.{Held}
use Rattle.im_history.specs.History.{History, replay}
use Rattle.im_history.specs.Units.{builds, builds_after, drops, held, held_after, killed_by, living, living_after, touched_between, touched_between_after, unit, unit_after}
use Rattle.im_history.proofs.Replay.{replay-push}

pub held-push : (h : History) (entry : Entry) → held (h ++ entry ∷ []) ≡ held_after h entry.who (held h) entry.what
unfolding held
held-push h entry = replay-push (λ before so_far e. held_after before e.who so_far e.what) [] h entry

pub builds-push : (h : History) (entry : Entry) → builds (h ++ entry ∷ []) ≡ builds_after (builds h) entry.what
unfolding builds
builds-push h entry = replay-push (λ before so_far e. builds_after so_far e.what) 0 h entry

pub living-push : (h : History) (entry : Entry) (table extent : ℕ)
    → living (h ++ entry ∷ []) table extent ≡ living_after table extent (living h table extent) entry.what
unfolding living
living-push h entry table extent = replay-push (λ before so_far e. living_after table extent so_far e.what) None h entry

pub unit-push : (h : History) (entry : Entry) (table extent : ℕ)
    → unit (h ++ entry ∷ []) table extent ≡ unit_after table extent h (unit h table extent) entry.what
unfolding unit
unit-push h entry table extent = replay-push (λ before so_far e. unit_after table extent before so_far e.what) None h entry

pub touched_between-push : (h : History) (entry : Entry) (after to table rid : ℕ)
    → touched_between (h ++ entry ∷ []) after to table rid
    ≡ touched_between_after table rid after to h (touched_between h after to table rid) entry.who entry.what
unfolding touched_between
touched_between-push h entry after to table rid =
    replay-push (λ before so_far e. touched_between_after table rid after to before so_far e.who e.what) false h entry

-- ---- the empty history

pub held-nil : held [] ≡ []
unfolding held replay
held-nil = refl

pub builds-nil : builds [] ≡ 0
unfolding builds replay
builds-nil = refl

pub living-nil : (table extent : ℕ) → living [] table extent ≡ None
unfolding living replay
living-nil table extent = refl

pub unit-nil : (table extent : ℕ) → unit [] table extent ≡ None
unfolding unit replay
unit-nil table extent = refl

-- ---- entries that begin or end no build

-- the entry begins no build and ends none
abbrev pub is_plain : What → Bool
is_plain (Build id table extent trickle) = false
is_plain (Switch id) = false
is_plain (Cancel id full) = false
is_plain _ = true

held_after-plain : (before : History) (who : ℕ) (so_far : List Held) (what : What) → is_plain what ≡ true
    → held_after before who so_far what ≡ map (killed_by (length before) what) so_far
held_after-plain before who so_far (Build id table extent trickle) plain = absurd (false≢true plain)
held_after-plain before who so_far (Switch id) plain = absurd (false≢true plain)
held_after-plain before who so_far (Cancel id full) plain = absurd (false≢true plain)
held_after-plain before who so_far _ plain = refl

pub held-plain : (h : History) (entry : Entry) → is_plain entry.what ≡ true → held (h ++ entry ∷ []) ≡ map (killed_by (length h) entry.what) (held h)
held-plain h entry plain = held-push h entry ∙ held_after-plain h entry.who (held h) entry.what plain

builds_after-plain : (so_far : ℕ) (what : What) → is_plain what ≡ true → builds_after so_far what ≡ so_far
builds_after-plain so_far (Build id table extent trickle) plain = absurd (false≢true plain)
builds_after-plain so_far _ plain = refl

pub builds-plain : (h : History) (entry : Entry) → is_plain entry.what ≡ true → builds (h ++ entry ∷ []) ≡ builds h
builds-plain h entry plain = builds-push h entry ∙ builds_after-plain (builds h) entry.what plain

living_after-plain : (table extent : ℕ) (so_far : Option ℕ) (what : What) → is_plain what ≡ true
    → living_after table extent so_far what ≡ (if drops table extent what then None else so_far)
living_after-plain table extent so_far (Build id other place trickle) plain = absurd (false≢true plain)
living_after-plain table extent so_far (Switch id) plain = absurd (false≢true plain)
living_after-plain table extent so_far (Cancel id full) plain = absurd (false≢true plain)
living_after-plain table extent so_far _ plain = refl

pub living-plain : (h : History) (entry : Entry) (table extent : ℕ) → is_plain entry.what ≡ true
    → living (h ++ entry ∷ []) table extent ≡ (if drops table extent entry.what then None else living h table extent)
living-plain h entry table extent plain = living-push h entry table extent ∙ living_after-plain table extent (living h table extent) entry.what plain

unit_after-plain : (table extent : ℕ) (before : History) (so_far : Option ℕ) (what : What) → is_plain what ≡ true
    → unit_after table extent before so_far what ≡ (if drops table extent what then None else so_far)
unit_after-plain table extent before so_far (Switch id) plain = absurd (false≢true plain)
unit_after-plain table extent before so_far _ plain = refl

pub unit-plain : (h : History) (entry : Entry) (table extent : ℕ) → is_plain entry.what ≡ true
    → unit (h ++ entry ∷ []) table extent ≡ (if drops table extent entry.what then None else unit h table extent)
unit-plain h entry table extent plain = unit-push h entry table extent ∙ unit_after-plain table extent h (unit h table extent) entry.what plain

-- ---- entries that commit no changes

-- the entry commits no changes
abbrev pub is_quiet : What → Bool
is_quiet Commit = false
is_quiet _ = true

touched_between_after-quiet : (table rid after to : ℕ) (before : History) (so_far : Bool) (who : ℕ) (what : What) → is_quiet what ≡ true
    → touched_between_after table rid after to before so_far who what ≡ so_far
touched_between_after-quiet table rid after to before so_far who Commit quiet = absurd (false≢true quiet)
touched_between_after-quiet table rid after to before so_far who _ quiet = refl

pub touched_between-quiet : (h : History) (entry : Entry) (after to table rid : ℕ) → is_quiet entry.what ≡ true
    → touched_between (h ++ entry ∷ []) after to table rid ≡ touched_between h after to table rid
touched_between-quiet h entry after to table rid quiet =
    touched_between-push h entry after to table rid
    ∙ touched_between_after-quiet table rid after to h (touched_between h after to table rid) entry.who entry.what quiet
