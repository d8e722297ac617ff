use Rattle.std.proofs.Common.{◌≡◌, List, None, length, sym, subst, ap, ◌∙◌}
use Rattle.im_values.specs.declared.schema.Column.{Column}
use Rattle.im_history.specs.declared.view.View.{View}
use Rattle.im_history.specs.Legal.{Exists}
use Rattle.im_history.specs.Refusals.{open_refusal}
use Rattle.im_history.specs.Views.{view_at}
use Rattle.im_txn.specs.Effects.{IsOpened}
use Rattle.im_core.specs.Seen.{Seen}
use Rattle.im_core.proofs.HoldsLemmas.{is-number, grew-reserved, grew-who, Holds-grown, Holds-open}
use Rattle.im_core.proofs.WriteLemmas.{open_shut}
use Rattle.im_core.proofs.store.Core.record_open.Goals as goal

pub invariant_of-self : goal.invariant_of-self
invariant_of-self g c = Holds-grown _ _ c.self.inside.history _ _ c.self.invariant c.reserve_cursor.ensures.same

pub invariant_of-self-in_err-reserve : goal.invariant_of-self-in_err-reserve
invariant_of-self-in_err-reserve g c =
    rw c.in_err-reserve.ensures.err (Holds-grown _ _ c.self.inside.history _ _ c.self.invariant c.reserve_cursor.ensures.same)

pub invariant_of-self-2 : goal.invariant_of-self-2
invariant_of-self-2 g c =
    let exists = subst (λ (s : Seen). Exists s.log c.args.table) (sym (c.self.view_is ∙ c.view.ensures.same)) c.requires.exists in
    let allowed = subst (λ (s : Seen). open_refusal s.log c.args.who c.args.cursor c.args.asked ≡ None) (sym (c.self.view_is ∙ c.view.ensures.same)) c.requires.allowed in
    let view = c.in_ok-view.ensures.view ∙ ap (λ (s : Seen). view_at s.log c.args.who c.args.table c.args.asked) (sym (c.self.view_is ∙ c.view.ensures.same)) in
    let lent =
    subst
    (λ (columns : List Column). IsOpened c.reserve_cursor.new.self c.open_cursor.new.self c.args.who
    (record {
      cursor = c.args.cursor;
      table = c.args.table;
      scn = c.in_ok-view.view.scn;
      rows = c.in_ok-view.view.rows;
      per = c.in_ok-view.view.per;
      columns = length columns;
    }))
    c.columns.ensures.columns c.open_cursor.ensures in
    let opened =
    subst
    (λ (v : View). IsOpened c.reserve_cursor.new.self c.open_cursor.new.self c.args.who
    (record { cursor = c.args.cursor; table = c.args.table; scn = v.scn; rows = v.rows; per = v.per; columns = length v.columns }))
    view lent in
    Holds-open _ _ c.self.inside.history _ _ c.args.who c.args.cursor c.args.table c.args.asked _ _ c.self.invariant
    (is-number _ _ c.number.ensures.same c.number.ensures.few) exists allowed (open_shut _ _ _ c.args.asked allowed) c.reserve_cursor.ensures.same
    (grew-who _ _ _ _ _ _ c.number.ensures.same
    (grew-reserved c.self.inside.history c.reserve.new.self _ _ _ (rw c.owed.ensures.owed at c.in_ok-reserve.ensures.ok) c.append.ensures.added))
    opened
