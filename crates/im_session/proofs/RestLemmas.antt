-- How a line that is played over a side of a store goes by its plan, exit by exit.
use Rattle.std.proofs.Common.{◌≡◌, ℕ, ◌+◌, ◌⊎◌, Bool, true, false, if◌then◌else◌, List, [], ◌∷◌, length, Option, Some, None, refl, sym, ap, ◌∙◌, subst, inl, inr}
use Rattle.std.specs.List.{list_any}
use Rattle.im_core.specs.Answers.{IsRefusal}
use Rattle.im_history.specs.declared.entry.What.{What}
use Rattle.im_history.specs.declared.entry.What.TheVariants as what
use Rattle.im_history.specs.declared.refused.Refused.{Refused}
use Rattle.im_history.specs.declared.refused.Why.{Why}
use Rattle.im_history.specs.declared.refused.Why.TheVariants as why
use Rattle.im_history.specs.Cursors.{Opened, has_own_open, is_cursor, is_one_of, opened, own_cursors}
use Rattle.im_history.specs.History.{History}
use Rattle.im_statements.proofs.CursorLaws.{any-either}
use Rattle.im_plan.specs.Plan.{Plan, End, Turn}
use Rattle.im_reach.specs.Rests.{Logged}
use Rattle.im_reach.specs.Sides.{Added, Found, Known, speaks}
use Rattle.im_reach.proofs.RestLaws.{keeps-logged, onward-added}
use Rattle.im_reach.proofs.RestLaws as laws
use Rattle.im_replies.specs.declared.body.Body.TheVariants.{Error}
use Rattle.im_replies.specs.declared.fault.Fault.{Fault}
use Rattle.im_replies.specs.declared.reply.Reply.{Reply}
use Rattle.im_statements.specs.Outcomes.{Outcome, said}
use Rattle.im_statements.specs.Turns.{look, amends, memory_reply, shut_each, shut_open, unless_refused, or_refused, refused_reply, attempt, decide, decide_by, settled_reply}
use Rattle.im_session.specs.inner.Rests.{IsDecided, IsRest}
use Rattle.im_session.specs.inner.Scans.{Went}
use Rattle.im_session.proofs.OtherLemmas.{own-after}

-- ---- ends

-- a line is at its end
pub rest-end : (who k : ℕ) (old : Known) (plan : Plan Outcome) (outcome : Outcome) → plan ≡ End outcome → IsRest who k old plan outcome old
rest-end who = laws.rest-end Logged keeps-logged who (amends who)

pub decided-end : (who : ℕ) (old : Known) (plan : Plan Outcome) (outcome : Outcome) → plan ≡ End outcome → IsDecided who old plan outcome old
decided-end = laws.decided-end Logged keeps-logged

-- ---- calls that added nothing

pub went-found : (old new : Known) (P : History → Type 0) → Found old new P → Went old new
went-found = laws.went-found Logged keeps-logged

pub went-log : (old new : Known) (P : History → Type 0) → (found : Found old new P) → P new.log
went-log old new P found = subst P (sym (ap (λ (s : Known). s.log) found.now)) found.fact

-- ---- out of memory

-- none of these cursors is open, so none is closed
shut-none : (who : ℕ) (cursors : List ℕ) (now : Known) (outcome : Outcome)
    → list_any (λ (other : Opened). is_one_of cursors other.cursor) (opened now.log who) ≡ false
    → IsDecided who now (shut_each who cursors (End outcome)) outcome now
shut-none who [] now outcome none = decided-end who now (End outcome) outcome refl
shut-none who (cursor ∷ cursors) now outcome none =
    let each = any-either (is_cursor cursor) (λ (other : Opened). is_one_of cursors other.cursor) (opened now.log who) none in
    laws.decided-nothing Logged keeps-logged who now now now false (shut_open who cursor) (λ at. shut_each who cursors (End outcome)) outcome
    (laws.went-here Logged keeps-logged now) (ap (λ (b : Bool). if b then Some (what.Shut cursor) else None) each.0)
    (shut-none who cursors now outcome each.1)

-- a line runs out of memory while no cursor is open that it opened by itself, and adds nothing for it
went-lacks : (who k : ℕ) (old new : Known) (plan : Plan Outcome) → speaks old.side who ≡ true → has_own_open old.log who ≡ false
    → Went old new → IsRest who k old plan (said (memory_reply k)) new
went-lacks who k old new plan mine shut went =
    laws.rest-went Logged keeps-logged who (amends who) k old new new plan (said (memory_reply k)) went
    (laws.rest-lacks Logged keeps-logged who (amends who) k new new plan (said (memory_reply k))
    (shut-none who own_cursors new (said (memory_reply k)) (own-after old.side who old.log new.log mine went.after ∙ shut)))

-- a call added nothing, and memory ran out before the next turn
pub rest-lacks : (who k : ℕ) (old new : Known) (P : History → Type 0) (plan : Plan Outcome) → speaks old.side who ≡ true
    → has_own_open old.log who ≡ false → Found old new P → IsRest who k old plan (said (memory_reply k)) new
rest-lacks who k old new P plan mine shut found = went-lacks who k old new plan mine shut (went-found old new P found)

-- memory ran out with no call
pub rest-lacks_here : (who k : ℕ) (old : Known) (plan : Plan Outcome) → speaks old.side who ≡ true
    → has_own_open old.log who ≡ false → IsRest who k old plan (said (memory_reply k)) old
rest-lacks_here who k old plan mine shut = went-lacks who k old old plan mine shut (laws.went-here Logged keeps-logged old)

-- ---- turns

-- a call that added nothing, before the next turn
pub rest-went : (who k : ℕ) (old middle new : Known) (plan : Plan Outcome) (outcome : Outcome) → Went old middle
    → IsRest who k middle plan outcome new → IsRest who k old plan outcome new
rest-went who = laws.rest-went Logged keeps-logged who (amends who)

-- a turn that added nothing
pub rest-nothing : (who k : ℕ) (old middle new : Known) (decides : Bool) (adds : History → Option What) (on : History → Plan Outcome)
    (outcome : Outcome) → Went old middle → adds middle.log ≡ None → IsRest who k middle (on middle.log) outcome new
    → IsRest who k old (Turn decides adds on) outcome new
rest-nothing who = laws.rest-nothing Logged keeps-logged who (amends who)

-- a turn that looks
pub rest-look : (who k : ℕ) (old middle new : Known) (P : History → Type 0) (on : History → Plan Outcome) (outcome : Outcome)
    → Found old middle P → IsRest who k middle (on middle.log) outcome new → IsRest who k old (look on) outcome new
rest-look who k old middle new P on outcome found rest =
    rest-nothing who k old middle new false (λ at. None) on outcome (went-found old middle P found) refl rest

-- an entry that nothing refused, in a turn that does not decide
pub rest-adds : (who k : ℕ) (old middle new : Known) (adds : History → Option What) (entry : History → What) (P : History → Type 0)
    (on : History → Plan Outcome) (outcome : Outcome) → (added : Added old middle who entry P) → adds added.at ≡ Some (entry added.at)
    → IsRest who (k + 1) middle (on added.at) outcome new → IsRest who k old (Turn false adds on) outcome new
rest-adds who k old middle new adds entry P on outcome added =
    laws.rest-adds Logged keeps-logged who (amends who) k old middle new adds (entry added.at) added.at on outcome
    (onward-added who old middle entry P added)

-- an entry that decides
pub rest-decides : (who k : ℕ) (old middle new : Known) (decides : Bool) (adds : History → Option What) (entry : History → What)
    (P : History → Type 0) (on : History → Plan Outcome) (outcome : Outcome) → (added : Added old middle who entry P)
    → adds added.at ≡ Some (entry added.at) → IsDecided who middle (on added.at) outcome new → IsRest who k old (Turn decides adds on) outcome new
rest-decides who k old middle new decides adds entry P on outcome added =
    laws.rest-decides Logged keeps-logged who (amends who) k old middle new decides adds (entry added.at) added.at on outcome
    (onward-added who old middle entry P added)

-- ---- entries that may be refused

unrefused : (refused : Option Why) (entry : What) → refused ≡ None → unless_refused refused entry ≡ Some entry
unrefused refused entry none = ap (λ (o : Option Why). unless_refused o entry) none

-- an entry that does not decide was made
pub attempt-done : (who k : ℕ) (old middle new : Known) (tells : Why → Fault) (refused : History → Option Why) (entry : History → What)
    (P : History → Type 0) (on : History → Plan Outcome) (outcome : Outcome) → (added : Added old middle who entry P) → refused added.at ≡ None
    → IsRest who (k + 1) middle (on added.at) outcome new → IsRest who k old (attempt tells refused entry on) outcome new
attempt-done who k old middle new tells refused entry P on outcome added allowed rest =
    rest-adds who k old middle new (λ at. unless_refused (refused at) (entry at)) entry P (λ at. or_refused tells at (refused at) (on at)) outcome added
    (unrefused (refused added.at) (entry added.at) allowed)
    (subst (λ (p : Plan Outcome). IsRest who (k + 1) middle p outcome new)
    (sym (ap (λ (r : Option Why). or_refused tells added.at r (on added.at)) allowed)) rest)

-- the entry that decides was made
decide-goes : (who k : ℕ) (old middle new : Known) (tells : Why → Fault) (refused : History → Option Why) (entry : History → What)
    (P : History → Type 0) (on : History → Plan Outcome) (outcome : Outcome) → (added : Added old middle who entry P) → refused added.at ≡ None
    → IsDecided who middle (on added.at) outcome new → IsRest who k old (decide tells refused entry on) outcome new
decide-goes who k old middle new tells refused entry P on outcome added allowed rest =
    rest-decides who k old middle new true (λ at. unless_refused (refused at) (entry at)) entry P (λ at. or_refused tells at (refused at) (on at)) outcome added
    (unrefused (refused added.at) (entry added.at) allowed)
    (subst (λ (p : Plan Outcome). IsDecided who middle p outcome new)
    (sym (ap (λ (r : Option Why). or_refused tells added.at r (on added.at)) allowed)) rest)

-- and the line ends with it
pub decide-done : (who k : ℕ) (old new : Known) (tells : Why → Fault) (refused : History → Option Why) (entry : History → What)
    (P : History → Type 0) (on : History → Plan Outcome) (outcome : Outcome) → Added old new who entry P
    → ((at : History) → P at → refused at ≡ None) → ((at : History) → P at → on at ≡ End outcome)
    → IsRest who k old (decide tells refused entry on) outcome new
decide-done who k old new tells refused entry P on outcome added allowed ends =
    decide-goes who k old new new tells refused entry P on outcome added (allowed added.at added.fact)
    (decided-end who new (on added.at) outcome (ends added.at added.fact))

-- the entry that decides was made, which nothing refuses, and the line ends with it
pub decide_by-done : (who k : ℕ) (old new : Known) (entry : History → What) (P : History → Type 0) (on : History → Plan Outcome)
    (outcome : Outcome) → Added old new who entry P → ((at : History) → P at → on at ≡ End outcome)
    → IsRest who k old (decide_by entry on) outcome new
decide_by-done who k old new entry P on outcome added ends =
    rest-decides who k old new new true (λ at. Some (entry at)) entry P on outcome added refl
    (decided-end who new (on added.at) outcome (ends added.at added.fact))

-- ---- refusals

-- the reply for a cause: that memory ran out, or its fault
refused_reply-either : (tells : Why → Fault) (k place : ℕ) (cause : Why)
    → (refused_reply tells k place cause ≡ memory_reply k) ⊎ (refused_reply tells k place cause ≡ settled_reply place (Error (tells cause)))
refused_reply-either tells k place why.NoMemory = inl refl
refused_reply-either tells k place _ = inr refl

-- a call for an entry was refused
pub rest-refused : (who k : ℕ) (old new : Known) (decides : Bool) (tells : Why → Fault) (refused : History → Option Why)
    (entry : History → What) (on : History → Plan Outcome) (told : Refused) → speaks old.side who ≡ true
    → has_own_open old.log who ≡ false → Found old new (λ at. IsRefusal at (refused at) told)
    → IsRest who k old (Turn decides (λ at. unless_refused (refused at) (entry at)) (λ at. or_refused tells at (refused at) (on at)))
    (said (refused_reply tells k told.place told.why)) new
rest-refused who k old new decides tells refused entry on told mine shut found = by (refused_reply-either tells k told.place told.why)
  where
    plan : Plan Outcome
    plan = Turn decides (λ at. unless_refused (refused at) (entry at)) (λ at. or_refused tells at (refused at) (on at))

    lacking : refused_reply tells k told.place told.why ≡ memory_reply k → IsRest who k old plan (said (refused_reply tells k told.place told.why)) new
    lacking e = subst (λ (reply : Reply). IsRest who k old plan (said reply) new) (sym e)
        (rest-lacks who k old new (λ at. IsRefusal at (refused at) told) plan mine shut found)

    is : IsRefusal new.log (refused new.log) told
    is = went-log old new (λ at. IsRefusal at (refused at) told) found

    faulty : refused new.log ≡ Some told.why → IsRest who k old plan (said (settled_reply (length new.log) (Error (tells told.why)))) new
    faulty cause =
        rest-nothing who k old new new decides (λ at. unless_refused (refused at) (entry at)) (λ at. or_refused tells at (refused at) (on at))
        (said (settled_reply (length new.log) (Error (tells told.why)))) (went-found old new (λ at. IsRefusal at (refused at) told) found)
        (ap (λ (o : Option Why). unless_refused o (entry new.log)) cause)
        (rest-end who k new (or_refused tells new.log (refused new.log) (on new.log)) (said (settled_reply (length new.log) (Error (tells told.why))))
        (ap (λ (o : Option Why). or_refused tells new.log o (on new.log)) cause))

    by : (refused_reply tells k told.place told.why ≡ memory_reply k)
        ⊎ (refused_reply tells k told.place told.why ≡ settled_reply told.place (Error (tells told.why)))
        → IsRest who k old plan (said (refused_reply tells k told.place told.why)) new
    by (inl e) = lacking e
    by (inr e) = elim is.why [
      | inl lacks ↦ lacking (ap (refused_reply tells k told.place) lacks)
      | inr cause ↦ subst (λ (reply : Reply). IsRest who k old plan (said reply) new)
          (sym (e ∙ ap (λ (place : ℕ). settled_reply place (Error (tells told.why))) is.place)) (faulty cause)
    ]
