use Rattle.std.proofs.Common.{◌≡◌, false, None, sym, subst, arith}
use Rattle.im_history.specs.Legal.{Exists, MayAdd}
use Rattle.im_history.specs.Refusals.{add_refusal}
use Rattle.im_history.specs.Transactions.{is_open}
use Rattle.im_core.specs.Seen.{Seen}
use Rattle.im_core.proofs.HoldsLemmas.{is-number, grew-reserved, grew-who, Holds-add}
use Rattle.im_core.proofs.WriteLemmas.{column_room}
use Rattle.im_core.proofs.store.Core.record_add.Goals as goal

pub with_column-requires : goal.with_column-requires
with_column-requires g c =
    let allowed = subst (λ (s : Seen). add_refusal s.log c.args.table c.args.column.name ≡ None) (sym c.self.view_is) c.requires.allowed in
    rw (← c.self.invariant.tables.tables) at (column_room _ c.args.table c.args.column.name allowed)

pub overflow_add-added : goal.overflow_add-added
overflow_add-added g c = let few = c.scn.ensures.few in omega (arith, few)

pub invariant_of-self-2 : goal.invariant_of-self-2
invariant_of-self-2 g c =
    let may : MayAdd c.self.inside.history.entries c.args.who c.args.table c.args.column c.args.default = record {
      exists = subst (λ (s : Seen). Exists s.log c.args.table) (sym c.self.view_is) c.requires.exists;
      idle = subst (λ (s : Seen). is_open s.log c.args.who ≡ false) (sym c.self.view_is) c.requires.idle;
      allowed = subst (λ (s : Seen). add_refusal s.log c.args.table c.args.column.name ≡ None) (sym c.self.view_is) c.requires.allowed;
      fits = c.requires.fits;
      narrow = c.known_width.ensures;
    } in
    Holds-add _ _ c.self.inside.history _ _ c.args.who c.args.table c.args.column c.args.default _ c.self.invariant
    (is-number _ _ c.number.ensures.same c.number.ensures.few) may
    (grew-who _ _ _ _ _ _ c.number.ensures.same
    (grew-reserved c.self.inside.history c.reserve.new.self _ _ _ (rw c.owed.ensures.owed at c.in_ok-reserve.ensures.ok) c.append.ensures.added))
    c.in_ok-catalog.ensures
