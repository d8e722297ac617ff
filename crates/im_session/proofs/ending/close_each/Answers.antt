use Rattle.std.proofs.Common.{◌≡◌, ◌∙◌, ◌<◌, ◌≤◌, All, List, length, sym, subst, true}
use Rattle.std.specs.List.{list_any}
use Rattle.im_session.specs.declared.cursor.Cursor.{Cursor}
use Rattle.im_session.specs.inner.Ends.{IsClosing}
use Rattle.im_session.specs.inner.Running.{is_number}
use Rattle.im_session.proofs.EndLemmas.{closing-here, closing-next, open-closing, speaks-closing, without-less}
use Rattle.im_session.proofs.ending.close_each.Goals as goal

pub loop-number-init : goal.loop-number-init
loop-number-init g c = closing-here c.args.who c.args.cursors.now.items (g.H.Reach.known c.args.reach.now) c.requires.queries c.requires.apart

pub shut-requires-clause-speaks : goal.shut-requires-clause-speaks
shut-requires-clause-speaks g c =
    speaks-closing c.args.who c.args.cursors.now.items (g.H.Reach.known c.args.reach.now) c.loop-number.cursors.items
    (g.H.Reach.known c.loop-number.reach) c.requires.speaks c.loop-number.invariant

pub shut-requires-clause-cursor : goal.shut-requires-clause-cursor
shut-requires-clause-cursor g c =
    open-closing c.args.who c.args.cursors.now.items (g.H.Reach.known c.args.reach.now) c.loop-number.cursors.items
    (g.H.Reach.known c.loop-number.reach) c.requires.speaks c.loop-number.invariant c.in-Some.number
    (subst (λ (cursors : List Cursor). list_any (is_number c.in-Some.number) cursors ≡ true) c.as_slice.ensures.value c.in-Some.ensures.kept)

pub loop-number-smaller : goal.loop-number-smaller
loop-number-smaller g c =
    subst (λ (cursors : List Cursor). length cursors < length c.loop-number.cursors.items) (sym c.forget.ensures)
    (without-less c.in-Some.number c.loop-number.cursors.items
    (subst (λ (cursors : List Cursor). list_any (is_number c.in-Some.number) cursors ≡ true) c.as_slice.ensures.value c.in-Some.ensures.kept))

pub loop-number-preserved : goal.loop-number-preserved
loop-number-preserved g c =
    subst (λ (cursors : List Cursor). IsClosing c.args.who c.args.cursors.now.items (g.H.Reach.known c.args.reach.now) cursors
    (g.H.Reach.known c.shut.new.self)) (sym c.forget.ensures)
    (closing-next c.args.who c.args.cursors.now.items (g.H.Reach.known c.args.reach.now) c.loop-number.cursors.items
    (g.H.Reach.known c.loop-number.reach) c.requires.speaks c.loop-number.invariant c.in-Some.number (g.H.Reach.known c.shut.new.self) _
    (subst (λ (cursors : List Cursor). list_any (is_number c.in-Some.number) cursors ≡ true) c.as_slice.ensures.value c.in-Some.ensures.kept)
    (subst (λ (cursors : List Cursor). All (λ kept. c.in-Some.number ≤ kept.number) cursors) c.as_slice.ensures.value c.in-Some.ensures.least)
    c.shut.ensures.added)

pub returns-clause-closing : goal.returns-clause-closing
returns-clause-closing g c =
    subst (λ (cursors : List Cursor). IsClosing c.args.who c.args.cursors.now.items (g.H.Reach.known c.args.reach.now) cursors
    (g.H.Reach.known c.loop-number.reach)) (sym c.as_slice.ensures.value ∙ c.least.ensures.none c.in_default.is) c.loop-number.invariant
