use Rattle.std.proofs.Common.{◌∙◌, arith}
use Rattle.im_core.proofs.FetchLemmas.{is_found, has_view, fetched_is, rows_in_is}
use Rattle.im_core.proofs.HorizonLemmas.{view-old}
use Rattle.im_core.proofs.SeenLemmas.{Holds-seen}
use Rattle.im_core.proofs.store.Core.fetch.Goals as goal

pub unwrap-view-requires : goal.unwrap-view-requires
unwrap-view-requires g c =
    is_found c.args.who c.args.cursor (Holds-seen c.self.invariant c.self.view_is) c.requires.within c.cursor.ensures

pub overflow_mul-first : goal.overflow_mul-first
overflow_mul-first g c =
    let has = has_view c.args.who c.args.cursor (Holds-seen c.self.invariant c.self.view_is) c.requires.within c.cursor.ensures c.unwrap-view.ensures in
    omega (arith, has.first, has.few)

pub overflow_sub-view : goal.overflow_sub-view
overflow_sub-view g c =
    let has = has_view c.args.who c.args.cursor (Holds-seen c.self.invariant c.self.view_is) c.requires.within c.cursor.ensures c.unwrap-view.ensures in
    omega (arith, has.first)

pub extent_rows-requires : goal.extent_rows-requires
extent_rows-requires g c =
    let has = has_view c.args.who c.args.cursor (Holds-seen c.self.invariant c.self.view_is) c.requires.within c.cursor.ensures c.unwrap-view.ensures in
    omega (arith, has.first, has.few, c.min-count.ensures)

pub returns-in_err-fetched-clause-steps : goal.returns-in_err-fetched-clause-steps
returns-in_err-fetched-clause-steps g c =
    let has = has_view c.args.who c.args.cursor (Holds-seen c.self.invariant c.self.view_is) c.requires.within c.cursor.ensures c.unwrap-view.ensures in
    rw (rows_in_is _ _ _ _ has c.min-count.ensures) at c.extent_rows.ensures.few

pub returns-clause-fetched : goal.returns-clause-fetched
returns-clause-fetched g c =
    let has = has_view c.args.who c.args.cursor (Holds-seen c.self.invariant c.self.view_is) c.requires.within c.cursor.ensures c.unwrap-view.ensures in
    c.in_ok-fetched.ensures.rows ∙ fetched_is _ _ _ _ _ _ (Holds-seen c.self.invariant c.self.view_is).rows
    (view-old _ _ c.args.who c.args.cursor c.args.extent (Holds-seen c.self.invariant c.self.view_is).legal c.requires.within) has c.min-count.ensures

pub returns-clause-steps : goal.returns-clause-steps
returns-clause-steps g c =
    let has = has_view c.args.who c.args.cursor (Holds-seen c.self.invariant c.self.view_is) c.requires.within c.cursor.ensures c.unwrap-view.ensures in
    rw (rows_in_is _ _ _ _ has c.min-count.ensures) at c.extent_rows.ensures.few
