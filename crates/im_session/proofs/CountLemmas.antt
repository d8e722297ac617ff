-- The steps of a line, by what it was served.
use Rattle.std.proofs.Common.{◌≡◌, ℕ, ◌+◌, ◌<◌, ◌≤◌, ◌⊎◌, inl, inr, Bool, true, false, List, [], ◌∷◌, Some, refl, sym, ap, subst, arith, append-nil}
use Rattle.std.specs.Option.{option_map}
use Rattle.im_history.specs.Cursors.{cursor_at}
use Rattle.im_history.specs.History.{History}
use Rattle.im_reach.specs.Sides.{Known}
use Rattle.im_replies.specs.declared.reply.Reply.{Reply}
use Rattle.im_replies.specs.declared.served.Served.{Served}
use Rattle.im_replies.specs.Mixes.{reads}
use Rattle.im_session.specs.declared.cursor.Cursor.{Cursor}
use Rattle.im_session.specs.declared.scan.Purpose.{Purpose}
use Rattle.im_session.specs.inner.Cursors.{served_reply_of}
use Rattle.im_session.specs.inner.Purposes.{MayUse}
use Rattle.im_session.specs.inner.Scans.{Longer}
use Rattle.im_session.specs.inner.Serving.{HasRead, IsCountedFor}
use Rattle.im_session.specs.Cursors.{query_of}
use Rattle.im_session.specs.Reads.{AreRead, IsCounted, IsOutOfMemory, IsSpan, Lacked, Left, Marked, Next, Own, reads_of, span_left, span_next, span_own}
use Rattle.im_statements.specs.Outcomes.{State}

-- ---- over an open cursor

module _ (who : ℕ) (kept : Cursor) (reply : Reply) (before after : ℕ) (old new : History) where
  -- all extents that were left of it were served
  pub left-marked : (marks : List Served) → reply.marks ≡ marks → after ≤ before + reads_of kept.view marks
      → IsCountedFor Left kept who reply before after old new
  left-marked marks same few = λ state here.
      Marked (span_left (query_of kept)) (ap (option_map span_left) here)
      (subst (λ (told : List Served). after ≤ before + reads_of kept.view told) (sym same) few)

  -- memory ran out
  pub left-lacked : IsOutOfMemory reply → HasRead who kept before after old new → IsCountedFor Left kept who reply before after old new
  left-lacked lacks read = λ state here.
      Lacked (span_left (query_of kept)) (ap (option_map span_left) here) lacks read.upto read.within read.read

  -- its next extent was read, and memory ran out
  pub next-lacked : kept.next < kept.view.extents → IsOutOfMemory reply
      → AreRead who kept.number kept.view kept.next (kept.next + 1) before after old new → IsCountedFor Next kept who reply before after old new
  next-lacked within lacks read = λ state here.
      Lacked (span_next (query_of kept)) (ap (option_map span_next) here) lacks (kept.next + 1) (omega (arith, within)) read

  -- it was served, or memory ran out
  pub next-taken : kept.next < kept.view.extents → (served : Bool) (mark : Served) → reply ≡ served_reply_of served mark → mark.extent ≡ kept.next
      → after ≤ before + reads kept.view kept.next mark.how → AreRead who kept.number kept.view kept.next (kept.next + 1) before after old new
      → IsCountedFor Next kept who reply before after old new
  next-taken within true mark is same few read = λ state here.
      let there : reads kept.view mark.extent mark.how ≡ reads kept.view kept.next mark.how = ap (λ (n : ℕ). reads kept.view n mark.how) same in
      let told : after ≤ before + reads_of kept.view (mark ∷ []) = omega (arith, few, there) in
      Marked (span_next (query_of kept)) (ap (option_map span_next) here)
      (subst (λ (marks : List Served). after ≤ before + reads_of kept.view marks) (sym (ap (λ (r : Reply). r.marks) is)) told)
  next-taken within false mark is same few read = next-lacked within (0, is) read

-- ---- by a scan of a statement's own

module _ (who : ℕ) (purpose : Purpose) (cursor : Cursor) (old new : Known) (may : MayUse who purpose cursor old) (longer : Longer old new) (reply : Reply)
    (before after : ℕ) (state : State) where
  own-span : IsSpan Own state who old.log new.log (span_own cursor.view)
  own-span = (
    old.log,
    record {
      before = [];
      behind = longer.more;
      at_is = sym (append-nil old.log);
      new_is = longer.log;
      opened =
          subst (λ (n : ℕ). cursor_at old.log who n ≡ Some (record { cursor = n; view = cursor.view })) may.own may.kept.scan.opened;
    },
    refl,
  )

  -- all extents were served
  pub own-marked : (marks : List Served) → reply.marks ≡ marks → after ≤ before + reads_of cursor.view marks
      → IsCounted Own state who reply before after old.log new.log
  own-marked marks same few =
      Marked (span_own cursor.view) own-span (subst (λ (told : List Served). after ≤ before + reads_of cursor.view told) (sym same) few)

  -- memory ran out
  pub own-lacked : IsOutOfMemory reply → HasRead who cursor before after old.log new.log → IsCounted Own state who reply before after old.log new.log
  own-lacked lacks read =
      Lacked (span_own cursor.view) own-span lacks read.upto read.within
      (subst (λ (n : ℕ). AreRead who n cursor.view 0 read.upto before after old.log new.log) may.own
      (subst (λ (n : ℕ). AreRead who cursor.number cursor.view n read.upto before after old.log new.log) may.first read.read))

  -- either
  pub own-told : (marks : List Served) → (reply.marks ≡ marks) ⊎ IsOutOfMemory reply → after ≤ before + reads_of cursor.view marks
      → HasRead who cursor before after old.log new.log → IsCounted Own state who reply before after old.log new.log
  own-told marks told few read = elim told [
    | inl same ↦ own-marked marks same few
    | inr lacks ↦ own-lacked lacks read
  ]
