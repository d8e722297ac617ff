use Rattle.std.proofs.Common.{◌≡◌, ◌-◌, ap, arith}
use Rattle.im_history.specs.declared.entry.What.TheVariants.{Write}
use Rattle.im_history.specs.Stored.{Stored}
use Rattle.im_history.proofs.PlaceLaws.{read-write, walk-begins, walk-ends, walk-few, walk-stands}
use Rattle.im_history.proofs.stored.History.writes_before.Goals as goal

pub loop-at-init : goal.loop-at-init
loop-at-init g c =
    let same : c.self.inside.entries.items ≡ c.args.self.now.entries = ap (λ (s : Stored). s.entries) c.self.view_is in
    rw (c.new-pending.ensures.items)
    (walk-begins c.self.inside.places c.self.inside.entries.items c.args.place c.link-at.result c.args.steps.now c.self.invariant.2
    (rw same c.requires.numbers) (rw same c.requires.within) c.link-at.ensures)

pub entry-entry-requires : goal.entry-entry-requires
entry-entry-requires g c =
    let same : c.self.inside.entries.items ≡ c.args.self.now.entries = ap (λ (s : Stored). s.entries) c.self.view_is in
    rw (← same)
    (walk-stands c.self.inside.places c.self.inside.entries.items c.args.place c.loop-at.at c.loop-at.pending.items c.args.steps.now
    c.loop-at.steps c.self.invariant.2 c.loop-at-test.true c.loop-at.invariant).inside

pub returns-in_err-push_write-clause-steps : goal.returns-in_err-push_write-clause-steps
returns-in_err-push_write-clause-steps g c entry is =
    let same : c.self.inside.entries.items ≡ c.args.self.now.entries = ap (λ (s : Stored). s.entries) c.self.view_is in
    let stands =
    walk-stands c.self.inside.places c.self.inside.entries.items c.args.place c.loop-at.at c.loop-at.pending.items c.args.steps.now
    c.loop-at.steps c.self.invariant.2 c.loop-at-test.true c.loop-at.invariant in
    rw (c.entry-entry.ensures.step, ← same) (stands.few entry (rw same is))

pub loop-at-smaller : goal.loop-at-smaller
loop-at-smaller g c =
    (walk-stands c.self.inside.places c.self.inside.entries.items c.args.place c.loop-at.at c.loop-at.pending.items c.args.steps.now
    c.loop-at.steps c.self.invariant.2 c.loop-at-test.true c.loop-at.invariant).less c.link-at-in-loop-at.result c.link-at-in-loop-at.ensures

pub loop-at-preserved : goal.loop-at-preserved
loop-at-preserved g c =
    let same : c.self.inside.entries.items ≡ c.args.self.now.entries = ap (λ (s : Stored). s.entries) c.self.view_is in
    let stands =
    walk-stands c.self.inside.places c.self.inside.entries.items c.args.place c.loop-at.at c.loop-at.pending.items c.args.steps.now
    c.loop-at.steps c.self.invariant.2 c.loop-at-test.true c.loop-at.invariant in
    let what : c.entry-entry.result.now.what ≡ Write stands.changes =
    read-write c.self.inside.entries.items (c.loop-at.at - 1) c.entry-entry.result.now stands.who stands.changes
    (rw same c.entry-entry.ensures.entry) stands.is in
    rw (c.in_ok-push_write.ensures stands.changes what, c.entry-entry.ensures.step)
    (stands.further c.link-at-in-loop-at.result c.link-at-in-loop-at.ensures)

pub returns-clause-writes : goal.returns-clause-writes
returns-clause-writes g c entry is =
    let same : c.self.inside.entries.items ≡ c.args.self.now.entries = ap (λ (s : Stored). s.entries) c.self.view_is in
    let end : c.loop-at.at ≡ 0 = let over = c.loop-at-test.false in omega (arith, over) in
    rw (c.reverse.ensures.items, ← same)
    (walk-ends c.self.inside.entries.items c.args.place c.loop-at.pending.items c.args.steps.now c.loop-at.steps
    (rw end at c.loop-at.invariant) entry (rw same is))

pub returns-clause-steps : goal.returns-clause-steps
returns-clause-steps g c entry is =
    let same : c.self.inside.entries.items ≡ c.args.self.now.entries = ap (λ (s : Stored). s.entries) c.self.view_is in
    rw (← same)
    (walk-few c.self.inside.entries.items c.args.place c.loop-at.at c.loop-at.pending.items c.args.steps.now c.loop-at.steps
    c.loop-at.invariant entry (rw same is))
