use Rattle.std.proofs.Common.{◌∙◌}
use Rattle.im_core.proofs.FetchLemmas.{is_found, has_view}
use Rattle.im_core.proofs.HorizonLemmas.{view-old}
use Rattle.im_core.proofs.LendLemmas.{lent-content, reads_stale, reads_all}
use Rattle.im_core.proofs.SeenLemmas.{Holds-seen}
use Rattle.im_core.proofs.store.Core.read_written.Goals as goal

pub unwrap-view-requires : goal.unwrap-view-requires
unwrap-view-requires g c =
    is_found c.args.who c.args.cursor (Holds-seen c.self.invariant c.self.view_is) c.requires.within c.cursor.ensures

pub fetch_stale-requires : goal.fetch_stale-requires
fetch_stale-requires g c =
    let has = has_view c.args.who c.args.cursor (Holds-seen c.self.invariant c.self.view_is) c.requires.within c.cursor.ensures c.unwrap-view.ensures in
    record { old = rw has.scn (view-old _ _ c.args.who c.args.cursor c.args.extent (Holds-seen c.self.invariant c.self.view_is).legal c.requires.within) }

pub returns-in_ok-fetch_stale-in-Some-clause-unit : goal.returns-in_ok-fetch_stale-in-Some-clause-unit
returns-in_ok-fetch_stale-in-Some-clause-unit g c =
    let has = has_view c.args.who c.args.cursor (Holds-seen c.self.invariant c.self.view_is) c.requires.within c.cursor.ensures c.unwrap-view.ensures in
    (rw c.in-Some.is at c.in_ok-unit.ensures) ∙ lent-content _ _ _ _ has

pub returns-in_ok-fetch_stale-in-Some-clause-fetched : goal.returns-in_ok-fetch_stale-in-Some-clause-fetched
returns-in_ok-fetch_stale-in-Some-clause-fetched g c =
    let has = has_view c.args.who c.args.cursor (Holds-seen c.self.invariant c.self.view_is) c.requires.within c.cursor.ensures c.unwrap-view.ensures in
    let stale = reads_stale _ _ _ _ has _ (rw c.in-Some.is at c.in_ok-unit.ensures) in
    c.in_ok-fetch_stale-in-Some.ensures.fetched stale.at stale.is ∙ stale.rows

pub returns-in_ok-fetch-in-None-clause-unit : goal.returns-in_ok-fetch-in-None-clause-unit
returns-in_ok-fetch-in-None-clause-unit g c =
    let has = has_view c.args.who c.args.cursor (Holds-seen c.self.invariant c.self.view_is) c.requires.within c.cursor.ensures c.unwrap-view.ensures in
    (rw c.in-None.is at c.in_ok-unit.ensures) ∙ lent-content _ _ _ _ has

pub returns-in_ok-fetch-in-None-clause-fetched : goal.returns-in_ok-fetch-in-None-clause-fetched
returns-in_ok-fetch-in-None-clause-fetched g c =
    let has = has_view c.args.who c.args.cursor (Holds-seen c.self.invariant c.self.view_is) c.requires.within c.cursor.ensures c.unwrap-view.ensures in
    let all = reads_all _ _ _ _ has (rw c.in-None.is at c.in_ok-unit.ensures) in
    c.in_ok-fetch-in-None.ensures.fetched ∙ all.rows

pub returns-in_err-fetch_stale-in-Some-clause-steps : goal.returns-in_err-fetch_stale-in-Some-clause-steps
returns-in_err-fetch_stale-in-Some-clause-steps g c =
    let has = has_view c.args.who c.args.cursor (Holds-seen c.self.invariant c.self.view_is) c.requires.within c.cursor.ensures c.unwrap-view.ensures in
    let stale = reads_stale _ _ _ _ has _ (rw c.in-Some.is at c.in_ok-unit.ensures) in
    rw stale.rows at (c.fetch_stale.ensures.steps stale.at stale.is)

pub returns-in_err-fetch-in-None-clause-steps : goal.returns-in_err-fetch-in-None-clause-steps
returns-in_err-fetch-in-None-clause-steps g c =
    let has = has_view c.args.who c.args.cursor (Holds-seen c.self.invariant c.self.view_is) c.requires.within c.cursor.ensures c.unwrap-view.ensures in
    let all = reads_all _ _ _ _ has (rw c.in-None.is at c.in_ok-unit.ensures) in
    rw all.long at c.fetch.ensures.steps

pub returns-in_ok-fetch_stale-in-Some-clause-steps : goal.returns-in_ok-fetch_stale-in-Some-clause-steps
returns-in_ok-fetch_stale-in-Some-clause-steps g c =
    let has = has_view c.args.who c.args.cursor (Holds-seen c.self.invariant c.self.view_is) c.requires.within c.cursor.ensures c.unwrap-view.ensures in
    let stale = reads_stale _ _ _ _ has _ (rw c.in-Some.is at c.in_ok-unit.ensures) in
    rw stale.rows at (c.fetch_stale.ensures.steps stale.at stale.is)

pub returns-in_ok-fetch-in-None-clause-steps : goal.returns-in_ok-fetch-in-None-clause-steps
returns-in_ok-fetch-in-None-clause-steps g c =
    let has = has_view c.args.who c.args.cursor (Holds-seen c.self.invariant c.self.view_is) c.requires.within c.cursor.ensures c.unwrap-view.ensures in
    let all = reads_all _ _ _ _ has (rw c.in-None.is at c.in_ok-unit.ensures) in
    rw all.long at c.fetch.ensures.steps
