use Rattle.std.proofs.Common.{refl}
use Rattle.im_session.specs.declared.scan.Purpose.TheVariants.{Explain}
use Rattle.im_session.proofs.CountLemmas.{own-lacked, own-marked}
use Rattle.im_session.proofs.PurposeLemmas.{behind, used-replied, used-stopped}
use Rattle.im_session.proofs.ScanLemmas.{longer-went}
use Rattle.im_session.proofs.scan.explain_seen.Goals as goal

pub returns-in_default-clause-used : goal.returns-in_default-clause-used
returns-in_default-clause-used g c =
    let who = c.args.context.now.who in
    let cursor = c.args.cursor.now in
    let old = g.H.Reach.known c.args.reach.now in
    let new = g.H.Reach.known c.gather.new.reach in
    let went = c.in_default.ensures.went in
    rw c.out_of_memory.ensures
    (used-stopped who Explain cursor old new c.requires.speaks c.requires.may went
    (c.in_default.ensures.err 1 (behind who Explain cursor old)))

pub returns-in-Ok-explanation-clause-used : goal.returns-in-Ok-explanation-clause-used
returns-in-Ok-explanation-clause-used g c =
    let who = c.args.context.now.who in
    let cursor = c.args.cursor.now in
    let old = g.H.Reach.known c.args.reach.now in
    let new = g.H.Reach.known c.gather.new.reach in
    let went = c.in-Ok.ensures.went in
    used-replied who Explain cursor old new c.requires.speaks c.requires.may went _ c.in-Ok.gathered.marks.items
    (c.in-Ok.ensures.marks 1 (behind who Explain cursor old))
    (rw (c.of.ensures, c.in-Ok-explanation.ensures, c.as_slice.ensures.value) refl)

pub returns-in-Err-clause-used : goal.returns-in-Err-clause-used
returns-in-Err-clause-used g c =
    let who = c.args.context.now.who in
    let cursor = c.args.cursor.now in
    let old = g.H.Reach.known c.args.reach.now in
    let new = g.H.Reach.known c.gather.new.reach in
    let went = c.in-Ok.ensures.went in
    let on = behind who Explain cursor old in
    rw c.out_of_memory-in-Err.ensures
    (used-stopped who Explain cursor old new c.requires.speaks c.requires.may went
    (record { later = on c.in-Ok.gathered.marks.items; comes = c.in-Ok.ensures.marks 1 on }))

pub returns-in_default-clause-ticks : goal.returns-in_default-clause-ticks
returns-in_default-clause-ticks g c = λ state.
    let old = g.H.Reach.known c.args.reach.now in
    let new = g.H.Reach.known c.gather.new.reach in
    own-lacked c.args.context.now.who Explain c.args.cursor.now old new c.requires.may (longer-went old new c.in_default.ensures.went)
    c.out_of_memory.result c.args.steps.now c.gather.new.steps state (1, c.out_of_memory.ensures) c.in_default.ensures.ticks

pub returns-in-Ok-explanation-clause-ticks : goal.returns-in-Ok-explanation-clause-ticks
returns-in-Ok-explanation-clause-ticks g c = λ state.
    let old = g.H.Reach.known c.args.reach.now in
    let new = g.H.Reach.known c.gather.new.reach in
    own-marked c.args.context.now.who Explain c.args.cursor.now old new c.requires.may (longer-went old new c.in-Ok.ensures.went) _
    c.args.steps.now c.gather.new.steps state c.in-Ok.gathered.marks.items c.of.ensures c.in-Ok.ensures.rows

pub returns-in-Err-clause-ticks : goal.returns-in-Err-clause-ticks
returns-in-Err-clause-ticks g c = λ state.
    let old = g.H.Reach.known c.args.reach.now in
    let new = g.H.Reach.known c.gather.new.reach in
    own-lacked c.args.context.now.who Explain c.args.cursor.now old new c.requires.may (longer-went old new c.in-Ok.ensures.went)
    c.out_of_memory-in-Err.result c.args.steps.now c.gather.new.steps state (1, c.out_of_memory-in-Err.ensures) c.in-Ok.ensures.ticks
