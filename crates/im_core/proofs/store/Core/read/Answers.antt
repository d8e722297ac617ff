use Rattle.std.proofs.Common.{refl, ◌∙◌}
use Rattle.im_core.proofs.FetchLemmas.{is_found, has_view}
use Rattle.im_core.proofs.LendLemmas.{cursor_exists, fetched-wide, store_columns}
use Rattle.im_core.proofs.SeenLemmas.{Holds-seen}
use Rattle.im_core.proofs.store.Core.read.Goals as goal

pub unwrap-view-requires : goal.unwrap-view-requires
unwrap-view-requires g c =
    is_found c.args.who c.args.cursor (Holds-seen c.self.invariant c.self.view_is) c.requires.within c.cursor.ensures

pub shown-requires : goal.shown-requires
shown-requires g c =
    let has = has_view c.args.who c.args.cursor (Holds-seen c.self.invariant c.self.view_is) c.requires.within c.cursor.ensures c.unwrap-view.ensures in
    cursor_exists _ _ _ _ has (store_columns c.args.who c.args.cursor c.args.extent (Holds-seen c.self.invariant c.self.view_is) c.requires.within)

pub returns-clause-fetched : goal.returns-clause-fetched
returns-clause-fetched g c =
    let has = has_view c.args.who c.args.cursor (Holds-seen c.self.invariant c.self.view_is) c.requires.within c.cursor.ensures c.unwrap-view.ensures in
    c.in_ok-fetched.ensures
    ∙ fetched-wide _ _ _ _ _ _ has
    (store_columns c.args.who c.args.cursor c.args.extent (Holds-seen c.self.invariant c.self.view_is) c.requires.within)
    refl c.in_ok-read.ensures.fetched
