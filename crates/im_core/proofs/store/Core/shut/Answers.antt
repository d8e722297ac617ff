use Rattle.std.proofs.Common.{◌≡◌, true, sym, subst, arith}
use Rattle.im_history.specs.Cursors.{is_cursor_open}
use Rattle.im_txn.proofs.ForCallers.{owed-cursor}
use Rattle.im_core.specs.Seen.{Seen}
use Rattle.im_core.proofs.HoldsLemmas.{Holds-shut}
use Rattle.im_core.proofs.store.Core.shut.Goals as goal

pub append-requires-clause-room : goal.append-requires-clause-room
append-requires-clause-room g c =
    let opened = subst (λ (s : Seen). is_cursor_open s.log c.args.who c.args.cursor ≡ true) (sym c.self.view_is) c.requires.cursor in
    let owes = owed-cursor c.self.inside.history.entries c.self.inside.sessions c.args.who c.args.cursor c.self.invariant.sessions c.requires.session opened in
    let room = c.self.invariant.room in
    omega (arith, owes, room)

pub invariant_of-self : goal.invariant_of-self
invariant_of-self g c =
    let opened = subst (λ (s : Seen). is_cursor_open s.log c.args.who c.args.cursor ≡ true) (sym c.self.view_is) c.requires.cursor in
    Holds-shut _ _ c.self.inside.history _ _ c.args.who c.args.cursor _ c.self.invariant c.requires.session opened c.append.ensures.added
    (rw c.of-caller.ensures at c.shut.ensures)
