use Rattle.std.proofs.Common.{◌∷◌, ◌++◌, [], List, length, sym, ap, ◌∙◌, subst, arith, All}
use Rattle.im_values.specs.declared.content.Content.{Content as Value}
use Rattle.im_blocks.specs.declared.ready.Ready.TheVariants.{Run}
use Rattle.im_blocks.specs.Chains.{AllVersions}
use Rattle.im_blocks.specs.Readied.{HasPlace, IsFree}
use Rattle.im_blocks.specs.Transitions.{SameVersions}
use Rattle.im_blocks.proofs.RoomLemmas.{AreReady-push}
use Rattle.im_blocks.proofs.StoreLemmas.{SameVersions-grown, cells-to}
use Rattle.im_blocks.proofs.version_table.VersionTable.reserve_run.Goals as goal

pub returns-in_err-reserve-clause-same : goal.returns-in_err-reserve-clause-same
returns-in_err-reserve-clause-same c = rw (← c.self.view_is) (SameVersions-grown _ c.reserve.new.self c.reserve.ensures.same)

pub returns-in_err-rows-clause-same : goal.returns-in_err-rows-clause-same
returns-in_err-rows-clause-same c = rw (← c.self.view_is) (SameVersions-grown _ c.reserve.new.self c.in_ok-reserve.ensures.same)

pub returns-in_err-push-clause-same : goal.returns-in_err-push-clause-same
returns-in_err-push-clause-same c = rw (← c.self.view_is) (SameVersions-grown _ c.reserve.new.self c.in_ok-reserve.ensures.same)

pub returns-clause-same : goal.returns-clause-same
returns-clause-same c = rw (← c.self.view_is) (SameVersions-grown _ c.reserve.new.self c.in_ok-reserve.ensures.same)

pub returns-clause-more : goal.returns-clause-more
returns-clause-more c =
    let table = c.args.table in
    let first = c.args.first in
    let rows = c.args.rows.now in
    let was : AllVersions =
    record { slots = c.self.inside.slots; runs = c.self.inside.runs.items; chains = c.self.inside.chains.items; room = c.self.inside.room } in
    let new : AllVersions =
    record { slots = c.reserve.new.self; runs = c.self.inside.runs.items; chains = c.self.inside.chains.items; room = c.self.inside.room } in
    let same : SameVersions was new = SameVersions-grown was c.reserve.new.self c.in_ok-reserve.ensures.same in
    let places = subst (λ (b : AllVersions). All (HasPlace b) c.args.ready.now.items) (sym c.self.view_is) c.requires.each in
    let free = subst (λ (b : AllVersions). IsFree b table first (length rows)) (sym c.self.view_is) c.requires.free in
    let some = c.requires.some in
    let count = c.len.ensures in
    let pushed = c.in_ok-push.ensures.items ∙ ap (λ (rs : List (List Value)). c.args.ready.now.items ++ Run table first rs ∷ []) c.in_ok-rows.ensures in
    AreReady-push was new c.args.ready.now.items c.push.new.self.items (Run table first rows) same places (record {
      some = some;
      cells = cells-to c.reserve.new.self table first (length rows) _ (omega (arith, some, count)) c.in_ok-reserve.ensures.there;
      free = record { each = λ t r is. same.versions t r ∙ free.each t r is };
    }) pushed
