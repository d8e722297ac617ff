use Rattle.std.proofs.Common.{◌≡◌, ◌≤◌, List, length, false, None, sym, subst, arith}
use Rattle.im_values.specs.declared.limits.TheConstants.{MOST_COLUMNS}
use Rattle.im_values.specs.declared.schema.Column.{Column}
use Rattle.im_history.specs.Legal.{MayCreate}
use Rattle.im_history.specs.Refusals.{create_refusal}
use Rattle.im_history.specs.Transactions.{is_open}
use Rattle.im_core.specs.Seen.{Seen}
use Rattle.im_core.proofs.HoldsLemmas.{is-number, grew-reserved, grew-who, Holds-made}
use Rattle.im_core.proofs.WriteLemmas.{table_room}
use Rattle.im_core.proofs.store.Core.record_create.Goals as goal

pub overflow_add-made-2 : goal.overflow_add-made-2
overflow_add-made-2 g c = let few = c.scn.ensures.few in omega (arith, few)

pub invariant_of-self-2 : goal.invariant_of-self-2
invariant_of-self-2 g c =
    let idle = subst (λ (s : Seen). is_open s.log c.args.who ≡ false) (sym c.self.view_is) c.requires.idle in
    let allowed = subst (λ (s : Seen). create_refusal s.log c.args.name ≡ None) (sym c.self.view_is) c.requires.allowed in
    let room = rw (← c.self.invariant.tables.tables) at (table_room _ c.args.name allowed) in
    let may : MayCreate c.self.inside.history.entries c.args.who c.args.name c.args.schema c.known-shape.result = record {
      idle = idle;
      allowed = allowed;
      columns = subst (λ (columns : List Column). (1 ≤ length columns) × (length columns ≤ MOST_COLUMNS)) c.schema.view_is c.schema.invariant;
      narrow = c.known_widths.ensures;
      shape = rw c.known-shape.ensures.same (c.known-shape.ensures.block, c.known-shape.ensures.extent);
    } in
    Holds-made _ _ c.self.inside.history _ _ c.args.who c.args.name c.args.schema c.known-shape.result _ _ _ c.self.invariant
    (is-number _ _ c.number.ensures.same c.number.ensures.few) may room
    (grew-who _ _ _ _ _ _ c.number.ensures.same
    (grew-reserved c.self.inside.history c.reserve.new.self _ _ _ (rw c.owed.ensures.owed at c.in_ok-reserve.ensures.ok) c.append.ensures.added))
    c.in_ok-table.ensures c.in_ok-catalog.ensures c.in_ok-push.ensures.items
