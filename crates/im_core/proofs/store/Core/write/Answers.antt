use Rattle.std.proofs.Common.{Some, inr, refl, sym, ap, ◌∙◌}
use Rattle.im_history.specs.declared.refused.Why.{Why}
use Rattle.im_core.proofs.RewriteLemmas.{rewrites, is_kept}
use Rattle.im_core.proofs.SeenLemmas.{Holds-seen}
use Rattle.im_core.proofs.store.Core.write.Goals as goal

pub unwrap-view-requires : goal.unwrap-view-requires
unwrap-view-requires g c =
    is_kept c.args.who c.args.cursor c.args.changes.items (Holds-seen c.self.invariant c.self.view_is) c.requires.may c.of-caller.ensures c.cursor.ensures

pub write_refusal-requires-clause-old : goal.write_refusal-requires-clause-old
write_refusal-requires-clause-old g c =
    let facts = rewrites c.args.who c.args.cursor c.args.changes.items (Holds-seen c.self.invariant c.self.view_is) c.requires.may
    c.of-caller.ensures c.cursor.ensures c.unwrap-view.ensures in
    facts.old

pub returns-in-Some-clause-refused : goal.returns-in-Some-clause-refused
returns-in-Some-clause-refused g c =
    let facts = rewrites c.args.who c.args.cursor c.args.changes.items (Holds-seen c.self.invariant c.self.view_is) c.requires.may
    c.of-caller.ensures c.cursor.ensures c.unwrap-view.ensures in
    let cause = c.write_refusal.ensures ∙ rw (c.of-caller.ensures, c.of-changes.ensures, facts.scn) refl in
    record {
      place = c.refused-in-Some.ensures.place;
      why = inr (sym cause ∙ (c.in-Some.is ∙ ap (λ (w : Why). Some w) (sym c.refused-in-Some.ensures.why)));
    }

pub given_of-count-requires : goal.given_of-count-requires
given_of-count-requires g c =
    let facts = rewrites c.args.who c.args.cursor c.args.changes.items (Holds-seen c.self.invariant c.self.view_is) c.requires.may
    c.of-caller.ensures c.cursor.ensures c.unwrap-view.ensures in
    facts.exists

pub record_write-requires-clause-table : goal.record_write-requires-clause-table
record_write-requires-clause-table g c =
    let facts = rewrites c.args.who c.args.cursor c.args.changes.items (Holds-seen c.self.invariant c.self.view_is) c.requires.may
    c.of-caller.ensures c.cursor.ensures c.unwrap-view.ensures in
    facts.range

pub record_write-requires-clause-allowed : goal.record_write-requires-clause-allowed
record_write-requires-clause-allowed g c =
    let facts = rewrites c.args.who c.args.cursor c.args.changes.items (Holds-seen c.self.invariant c.self.view_is) c.requires.may
    c.of-caller.ensures c.cursor.ensures c.unwrap-view.ensures in
    let cause = c.write_refusal.ensures ∙ rw (c.of-caller.ensures, c.of-changes.ensures, facts.scn) refl in
    rw (c.of-caller.ensures, c.of-changes.ensures) (facts.allowed (sym cause ∙ c.in_default-write_refusal.is))

pub record_write-requires-clause-gives : goal.record_write-requires-clause-gives
record_write-requires-clause-gives g c =
    let facts = rewrites c.args.who c.args.cursor c.args.changes.items (Holds-seen c.self.invariant c.self.view_is) c.requires.may
    c.of-caller.ensures c.cursor.ensures c.unwrap-view.ensures in
    rw (c.given_of-count.ensures.given, c.of-changes.ensures) facts.gives

pub returns-in-Ok-record_write-clause-allowed : goal.returns-in-Ok-record_write-clause-allowed
returns-in-Ok-record_write-clause-allowed g c =
    let facts = rewrites c.args.who c.args.cursor c.args.changes.items (Holds-seen c.self.invariant c.self.view_is) c.requires.may
    c.of-caller.ensures c.cursor.ensures c.unwrap-view.ensures in
    let cause = c.write_refusal.ensures ∙ rw (c.of-caller.ensures, c.of-changes.ensures, facts.scn) refl in
    sym cause ∙ c.in_default-write_refusal.is
