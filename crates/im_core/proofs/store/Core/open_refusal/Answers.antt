use Rattle.std.proofs.Common.{◌≡◌, true, false, is_some, sym, ap, ◌∙◌, arith}
use Rattle.im_history.specs.Cursors.{is_cursor_open}
use Rattle.im_history.specs.Refusals.{asked_refusal, open_refusal}
use Rattle.im_txn.proofs.ForCallers.{is_cursor_open-by, cursors_open-by}
use Rattle.im_core.specs.Seen.{Seen}
use Rattle.im_core.proofs.RefusalLemmas.{open_refused, too_many_open, may_open, may_open_own}
use Rattle.im_core.proofs.store.Core.open_refusal.Goals as goal
use Rattle.im_core.proofs.store.Core.open_refusal.Goals.{else-not-is_own-via-then-not-is_own+else-cursors_open-ge-MOST_CURSORS, else-not-is_own-via-else-not-is_own}

pub returns-then-is_some : goal.returns-then-is_some
returns-then-is_some g c =
    let opened : is_cursor_open c.self.inside.history.entries c.args.who c.args.cursor ≡ true =
    is_cursor_open-by _ _ c.args.who c.args.cursor c.self.invariant.sessions ∙ (ap is_some (sym c.cursor.ensures) ∙ sym c.if-is_some.ensures) in
    open_refused _ _ _ c.args.asked opened ∙ ap (λ (s : Seen). open_refusal s.log c.args.who c.args.cursor c.args.asked) c.self.view_is

pub returns-then-cursors_open-ge-MOST_CURSORS : goal.returns-then-cursors_open-ge-MOST_CURSORS
returns-then-cursors_open-ge-MOST_CURSORS g c =
    let shut : is_cursor_open c.self.inside.history.entries c.args.who c.args.cursor ≡ false =
    is_cursor_open-by _ _ c.args.who c.args.cursor c.self.invariant.sessions ∙ (ap is_some (sym c.cursor.ensures) ∙ sym c.if-is_some.ensures) in
    let count = c.cursors_open.ensures ∙ cursors_open-by _ _ c.args.who c.self.invariant.sessions in
    let many = c.if-cursors_open-ge-MOST_CURSORS.true in
    too_many_open _ _ _ c.args.asked shut (sym c.is_own.ensures ∙ c.if-not-is_own.true) (omega (arith, count, many)) ∙ ap (λ (s : Seen). open_refusal s.log c.args.who c.args.cursor c.args.asked) c.self.view_is

pub returns-else-not-is_own : goal.returns-else-not-is_own
returns-else-not-is_own g c =
    let shut : is_cursor_open c.self.inside.history.entries c.args.who c.args.cursor ≡ false =
    is_cursor_open-by _ _ c.args.who c.args.cursor c.self.invariant.sessions ∙ (ap is_some (sym c.cursor.ensures) ∙ sym c.if-is_some.ensures) in
    let may : asked_refusal c.self.inside.history.entries c.args.asked ≡ open_refusal c.self.inside.history.entries c.args.who c.args.cursor c.args.asked =
    elim c.else-not-is_own.branch [
      | else-not-is_own-via-then-not-is_own+else-cursors_open-ge-MOST_CURSORS w ↦
          let count = w.cursors_open.ensures ∙ cursors_open-by _ _ c.args.who c.self.invariant.sessions in
          let few = w.if-cursors_open-ge-MOST_CURSORS.false in
          may_open _ _ _ c.args.asked shut (omega (arith, count, few))
      | else-not-is_own-via-else-not-is_own w ↦
          may_open_own _ _ _ c.args.asked shut (sym c.is_own.ensures ∙ w.if-not-is_own.false)
    ] in
    c.asked_refusal.ensures
    ∙ (ap (λ (s : Seen). asked_refusal s.log c.args.asked) (sym c.self.view_is)
    ∙ (may ∙ ap (λ (s : Seen). open_refusal s.log c.args.who c.args.cursor c.args.asked) c.self.view_is))
