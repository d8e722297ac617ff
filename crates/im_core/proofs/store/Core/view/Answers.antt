use Rattle.std.proofs.Common.{◌-◌, List, get_or, Some, sym, ap, subst, ◌∙◌}
use Rattle.im_history.specs.declared.look.TableInfo.{TableInfo}
use Rattle.im_history.specs.Legal.{Exists}
use Rattle.im_history.specs.Tables.{given, tables}
use Rattle.im_history.specs.Views.{reads_at, shows_own, view_at}
use Rattle.im_core.specs.Seen.{Seen}
use Rattle.im_core.proofs.ViewLemmas.{info-there, view-made}
use Rattle.im_core.proofs.store.Core.view.Goals as goal

pub returns-clause-view : goal.returns-clause-view
returns-clause-view g c =
    let h = c.self.inside.history.entries in
    let now = c.self.view_is ∙ c.shows_own.ensures.same in
    let found = c.index-tables-table.result in
    let exists = subst (λ (s : Seen). Exists s.log c.args.table) (sym now) c.requires.exists in
    let made =
    info-there (tables h) c.args.table exists.made found exists.is
    (c.index-tables-table.is
    ∙ ap (λ (catalog : List TableInfo). get_or catalog (c.args.table - 1) found) (c.tables.ensures.tables ∙ c.self.invariant.tables.tables)) in
    view-made h c.args.who c.args.table c.args.asked _ _ _ _ _ _ _ c.info-info.result.now (exists.is ∙ ap Some (sym (c.info-info.ensures ∙ made)))
    c.len.ensures (c.reads_at.ensures ∙ ap (λ (s : Seen). reads_at s.log c.args.who c.args.asked) (sym c.self.view_is)) (c.given_of-rows.ensures.given ∙ ap (λ (s : Seen). given s.log c.args.table) (sym c.self.view_is)) c.per_extent-per.ensures.product c.in_ok-columns.ensures c.in_ok-defaults.ensures
    (c.in_ok-own.ensures.own ∙ ap (λ (s : Seen). shows_own s.log c.args.who c.args.table c.args.asked) (sym now))
    ∙ ap (λ (s : Seen). view_at s.log c.args.who c.args.table c.args.asked) now
