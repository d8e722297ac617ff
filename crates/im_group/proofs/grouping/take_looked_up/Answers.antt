use Rattle.std.proofs.Common.{sym, ap, ◌∙◌}
use Rattle.std.proofs.lemmas.Result.{on_ok_weaker}
use Rattle.im_group.specs.Tallies.{row_taken}
use Rattle.im_group.specs.Partials.{keyed}
use Rattle.im_group.specs.inner.Steps.{placed, so_far, tallies_at, stands_at}
use Rattle.indexmap.proofs.MapLemmas.{Found-position}
use Rattle.im_group.proofs.Agreement.{keys_tie}
use Rattle.im_group.proofs.Held.{lookup-tested}
use Rattle.im_group.proofs.NearLaws.{passes-at, none_is}
use Rattle.im_group.proofs.grouping.take_looked_up.Goals as goal

pub take_there-requires-clause-there : goal.take_there-requires-clause-there
take_there-requires-clause-there c =
    let first = Found-position _ c.args.groups.now.entries c.in-Some.place (sym c.in-Some.ensures.index) in
    ap (λ q. stands_at (keyed (λ k. k.items) c.args.groups.now.entries) q c.in-Some.place) (sym c.requires.key)
    ∙ passes-at _ c.args.key.now (λ k. k.items) (λ y. keys_tie c.args.key.now y.items) c.args.groups.now.entries c.in-Some.place first.within first.key

pub returns-in-None : goal.returns-in-None
returns-in-None c =
    let groups = keyed (λ k. k.items) c.args.groups.now.entries in
    let absent = sym (lookup-tested _ c.args.key.now (λ k. k.items) (λ y. keys_tie c.args.key.now y.items) c.args.groups.now.entries)
    ∙ none_is _ c.in-None.ensures.found in
    on_ok_weaker c.put_group.result
    (λ new. new
    ∙ (ap (λ old. placed groups c.args.key.now (row_taken c.args.asked.now (so_far c.args.asked.now old) c.args.row.now)) (sym absent)
    ∙ ap (λ q. placed groups q (row_taken c.args.asked.now (so_far c.args.asked.now (tallies_at groups q)) c.args.row.now)) c.requires.key))
    c.put_group.ensures
