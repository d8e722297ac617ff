use Rattle.std.proofs.Common.{List, [], ◌∷◌, ◌++◌, ◌∙◌, ap, subst}
use Rattle.im_blocks.specs.declared.ready.Ready.{Ready}
use Rattle.im_blocks.proofs.HandingLemmas.{Handed, Handed-next, Handed-run, MayTake-next, MayTakeRun-next}
use Rattle.im_blocks.proofs.version_table.VersionTable.apply.Goals as goal

pub put_run-requires : goal.put_run-requires
put_run-requires c =
    let left = c.pop.new.self.items in
    let last = c.in-Some.ensures.items ∙ ap (λ (one : Ready). left ++ one ∷ []) c.in-Run.is in
    let next = subst (λ (l : List Ready). Handed c.args.self.now c.loop-last.self c.args.scn l c.args.ready.items) last c.loop-last.invariant in
    let place = c.of_rows.ensures.place in
    rw (place.0, place.1, place.2, c.of_rows.ensures.rows)
    (MayTakeRun-next c.args.self.now c.loop-last.self c.args.scn left c.args.ready.items c.in-Run.table c.in-Run.first c.in-Run.rows c.requires.later next)

pub put-requires : goal.put-requires
put-requires c =
    let left = c.pop.new.self.items in
    let last = c.in-Some.ensures.items ∙ ap (λ (one : Ready). left ++ one ∷ []) c.in-One.is in
    let next = subst (λ (l : List Ready). Handed c.args.self.now c.loop-last.self c.args.scn l c.args.ready.items) last c.loop-last.invariant in
    MayTake-next c.args.self.now c.loop-last.self c.args.scn left c.args.ready.items c.in-One.change c.requires.later next

pub loop-last-preserved-in-Run : goal.loop-last-preserved-in-Run
loop-last-preserved-in-Run c =
    let left = c.pop.new.self.items in
    let last = c.in-Some.ensures.items ∙ ap (λ (one : Ready). left ++ one ∷ []) c.in-Run.is in
    let next = subst (λ (l : List Ready). Handed c.args.self.now c.loop-last.self c.args.scn l c.args.ready.items) last c.loop-last.invariant in
    let place = c.of_rows.ensures.place in
    let taken = rw (place.0, place.1, place.2, c.of_rows.ensures.rows) at c.put_run.ensures in
    Handed-run c.args.self.now c.loop-last.self c.put_run.new.self c.args.scn left c.args.ready.items c.in-Run.table c.in-Run.first c.in-Run.rows
    c.requires.later taken next

pub loop-last-preserved : goal.loop-last-preserved
loop-last-preserved c =
    let left = c.pop.new.self.items in
    let last = c.in-Some.ensures.items ∙ ap (λ (one : Ready). left ++ one ∷ []) c.in-One.is in
    let next = subst (λ (l : List Ready). Handed c.args.self.now c.loop-last.self c.args.scn l c.args.ready.items) last c.loop-last.invariant in
    Handed-next c.args.self.now c.loop-last.self c.put.new.self c.args.scn left c.args.ready.items c.in-One.change c.requires.later c.put.ensures next
