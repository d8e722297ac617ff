-- Which extents wait, after one more entry.
use Rattle.std.proofs.Common.{◌≡◌, ℕ, ◌||◌, Bool, true, false, [], ◌∷◌, ◌++◌, Option, Some, None, if◌then◌else◌, refl, sym, ap, ◌∙◌}
use Rattle.std.proofs.lemmas.Bool.{false≢true}
use Rattle.im_history.specs.declared.entry.Entry.{Entry}
use Rattle.im_history.specs.declared.entry.What.{What}
use Rattle.im_history.specs.declared.entry.What.TheVariants.{Memory, Cancel, Evict}
use Rattle.im_history.specs.declared.task.Held.{Held}
use Rattle.im_history.specs.History.{History, replay}
use Rattle.im_history.specs.Queue.{is_build_of, waits, waits_after}
use Rattle.im_history.specs.Units.{held_at, is_on}
use Rattle.im_history.proofs.Replay.{replay-push}
use Rattle.im_directory.specs.Agrees.{is_apart, takes_out}

pub waits-push : (h : History) (entry : Entry) (table extent : ℕ)
    → waits (h ++ entry ∷ []) table extent ≡ waits_after table extent h (waits h table extent) entry.what
unfolding waits
waits-push h entry table extent = replay-push (λ before so_far e. waits_after table extent before so_far e.what) false h entry

pub waits-nil : (table extent : ℕ) → waits [] table extent ≡ false
unfolding waits replay
waits-nil table extent = refl

after_out : (table extent : ℕ) (h : History) (so_far : Bool) (what : What) → takes_out what ≡ true → waits_after table extent h so_far what ≡ false
after_out table extent h so_far (Evict other place) out = refl
after_out table extent h so_far (Memory other None) out = refl
after_out table extent h so_far (Memory other (Some priority)) out = absurd (false≢true out)
after_out table extent h so_far _ out = absurd (false≢true out)

-- an entry that takes extents out of the column store lets none wait any more
pub waits-out : (h : History) (who : ℕ) (what : What) (table extent : ℕ) → takes_out what ≡ true →
    waits (h ++ record { who = who; what = what } ∷ []) table extent ≡ false
waits-out h who what table extent out =
    waits-push h (record { who = who; what = what }) table extent ∙ after_out table extent h (waits h table extent) what out

after_apart : (table extent : ℕ) (h : History) (so_far : Bool) (what : What) → is_apart what ≡ true → waits_after table extent h so_far what ≡ so_far
after_apart table extent h so_far (Evict other place) apart = absurd (false≢true apart)
after_apart table extent h so_far (Memory other None) apart = absurd (false≢true apart)
after_apart table extent h so_far (Memory other (Some priority)) apart = refl
after_apart table extent h so_far (Cancel id full) apart = absurd (false≢true apart)
after_apart table extent h so_far _ apart = refl

-- one that changes no build lets each wait that waited
pub waits-apart : (h : History) (who : ℕ) (what : What) (table extent : ℕ) → is_apart what ≡ true →
    waits (h ++ record { who = who; what = what } ∷ []) table extent ≡ waits h table extent
waits-apart h who what table extent apart =
    waits-push h (record { who = who; what = what }) table extent ∙ after_apart table extent h (waits h table extent) what apart

either_way : (on full so_far : Bool) → (if on then so_far || full else so_far) ≡ (if full then on || so_far else so_far)
either_way true true true = refl
either_way true true false = refl
either_way true false true = refl
either_way true false false = refl
either_way false true true = refl
either_way false true false = refl
either_way false false true = refl
either_way false false false = refl

-- a build that is cancelled lets its own extent wait where its unit did not fit
pub waits-cancel : (h : History) (who id : ℕ) (full : Bool) (held : Held) (table extent : ℕ) → held_at h id ≡ Some held →
    (if is_on table extent held then waits h table extent || full else waits h table extent)
    ≡ waits (h ++ record { who = who; what = Cancel id full } ∷ []) table extent
waits-cancel h who id full held table extent is =
    either_way (is_on table extent held) full (waits h table extent)
    ∙ sym (waits-push h (record { who = who; what = Cancel id full }) table extent
    ∙ ap (λ (o : Option Held). if full then is_build_of table extent o || waits h table extent else waits h table extent) is)
