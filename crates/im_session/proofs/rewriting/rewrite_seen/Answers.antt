use Rattle.std.proofs.Common.{◌≡◌, ◌∙◌, ℕ, List, ap, sym, subst}
use Rattle.im_group.specs.Partials.{Parts}
use Rattle.im_history.specs.declared.cursors.TheConstants.{OWN_CURSOR}
use Rattle.im_history.specs.declared.limits.Limits.{Limits}
use Rattle.im_history.specs.Rows.{Row}
use Rattle.im_reach.specs.Sides.{Known}
use Rattle.im_replies.specs.declared.served.Served.{Served}
use Rattle.im_scan.specs.Pinned.{seen_all}
use Rattle.im_session.specs.declared.scan.Purpose.TheVariants.{Rewrite}
use Rattle.im_session.specs.inner.Rests.{IsRest}
use Rattle.im_session.specs.inner.Scans.{IsScan}
use Rattle.im_session.specs.inner.Writes.{AreRows}
use Rattle.im_session.specs.Reads.{Own}
use Rattle.im_session.proofs.CountLemmas.{own-lacked, own-told}
use Rattle.im_session.proofs.PurposeLemmas.{behind, used-on, used-stopped}
use Rattle.im_session.proofs.ReadsLemmas.{counted-within, longer-same}
use Rattle.im_session.proofs.ScanLemmas.{longer-went, scan-went, speaks-went}
use Rattle.im_session.proofs.WriteLemmas.{kept-rows, rewrites-went, rows-went}
use Rattle.im_session.proofs.rewriting.rewrite_seen.Goals as goal
use Rattle.im_statements.specs.Outcomes.{said}
use Rattle.im_statements.specs.Writes.{changes_to, kept_rows, write_or_end, written}

pub rewrite_kept-requires-clause-speaks : goal.rewrite_kept-requires-clause-speaks
rewrite_kept-requires-clause-speaks g c =
    speaks-went c.args.context.now.who (g.H.Reach.known c.args.reach.now) (g.H.Reach.known c.gather.new.reach) c.in-Ok.ensures.went c.requires.speaks

pub rewrite_kept-requires-clause-scan : goal.rewrite_kept-requires-clause-scan
rewrite_kept-requires-clause-scan g c =
    scan-went c.args.context.now.who OWN_CURSOR c.args.cursor.now.view (g.H.Reach.known c.args.reach.now) (g.H.Reach.known c.gather.new.reach) c.requires.speaks
    c.in-Ok.ensures.went
    (subst (λ (n : ℕ). IsScan c.args.context.now.who n c.args.cursor.now.view (g.H.Reach.known c.args.reach.now)) c.requires.may.own
    c.requires.may.kept.scan)

pub rewrite_kept-requires-clause-may : goal.rewrite_kept-requires-clause-may
rewrite_kept-requires-clause-may g c =
    rewrites-went c.args.context.now.who c.args.rewriting.now c.args.cursor.now.view (g.H.Reach.known c.args.reach.now)
    (g.H.Reach.known c.gather.new.reach) c.requires.speaks c.requires.may.kept.scan.sees.known c.in-Ok.ensures.went c.requires.may.serves.1

pub rewrite_kept-requires-clause-rows : goal.rewrite_kept-requires-clause-rows
rewrite_kept-requires-clause-rows g c =
    let cursor = c.args.cursor.now in
    let rows : c.into_rows-rows.result.items ≡ kept_rows cursor.bound.filter (seen_all (g.H.Reach.known c.args.reach.now).log cursor.view) =
    c.into_rows-rows.ensures
    ∙ (ap (λ (parts : Parts). parts.rows) c.in-Ok.ensures.part
    ∙ kept-rows cursor.bound (seen_all (g.H.Reach.known c.args.reach.now).log cursor.view) c.requires.may.serves.0) in
    subst (AreRows (g.H.Reach.known c.gather.new.reach).log cursor.view) (sym rows)
    (rows-went cursor.view (g.H.Reach.known c.args.reach.now) (g.H.Reach.known c.gather.new.reach) cursor.bound.filter
    c.requires.may.kept.scan.sees.known c.in-Ok.ensures.went)

pub returns-in-Ok-clause-used : goal.returns-in-Ok-clause-used
returns-in-Ok-clause-used g c =
    let who = c.args.context.now.who in
    let cursor = c.args.cursor.now in
    let view = cursor.view in
    let rewriting = c.args.rewriting.now in
    let old = g.H.Reach.known c.args.reach.now in
    let new = g.H.Reach.known c.gather.new.reach in
    let seen = kept_rows cursor.bound.filter (seen_all old.log view) in
    let rows : c.into_rows-rows.result.items ≡ seen =
    c.into_rows-rows.ensures
    ∙ (ap (λ (parts : Parts). parts.rows) c.in-Ok.ensures.part ∙ kept-rows cursor.bound (seen_all old.log view) c.requires.may.serves.0) in
    let limits : new.limits ≡ old.limits = ap (λ (s : Known). s.limits) c.in-Ok.ensures.went.now in
    let whole : Known → Limits → List Served → List (ℕ × Row) → Type 0 =
    λ late l marks kept. IsRest who 1 new
    (write_or_end l who view.place view.scn marks (changes_to view.table rewriting kept) (written rewriting)) (said c.rewrite_kept.result) late in
    used-on who (Rewrite rewriting) cursor old new c.requires.speaks c.requires.may c.in-Ok.ensures.went
    (g.H.Reach.known c.rewrite_kept.new.reach) c.rewrite_kept.result c.in-Ok.gathered.marks.items
    (c.in-Ok.ensures.marks 1 (behind who (Rewrite rewriting) cursor old))
    c.rewrite_kept.ensures.side c.rewrite_kept.ensures.cursor c.rewrite_kept.ensures.longer
    (λ late shut.
    subst (λ (l : Limits). whole late l c.in-Ok.gathered.marks.items seen) limits
    (subst (λ (kept : List (ℕ × Row)). whole late new.limits c.in-Ok.gathered.marks.items kept) rows
    (subst (λ (marks : List Served). whole late new.limits marks c.into_rows-rows.result.items) c.of-marks.ensures
    (c.rewrite_kept.ensures.rest late shut))))

pub returns-in-Err-clause-used : goal.returns-in-Err-clause-used
returns-in-Err-clause-used g c =
    let who = c.args.context.now.who in
    let cursor = c.args.cursor.now in
    let old = g.H.Reach.known c.args.reach.now in
    let new = g.H.Reach.known c.gather.new.reach in
    let purpose = Rewrite c.args.rewriting.now in
    rw c.out_of_memory.ensures
    (used-stopped who purpose cursor old new c.requires.speaks c.requires.may c.in-Err.ensures.went
    (c.in-Err.ensures.err 1 (behind who purpose cursor old)))

pub returns-in-Ok-clause-ticks : goal.returns-in-Ok-clause-ticks
returns-in-Ok-clause-ticks g c = λ state.
    let who = c.args.context.now.who in
    let cursor = c.args.cursor.now in
    let old = g.H.Reach.known c.args.reach.now in
    let mid = g.H.Reach.known c.gather.new.reach in
    let new = g.H.Reach.known c.rewrite_kept.new.reach in
    let reply = c.rewrite_kept.result in
    counted-within Own state who reply c.args.steps.now c.gather.new.steps old old mid new (longer-same old) c.rewrite_kept.ensures.longer
    (own-told who (Rewrite c.args.rewriting.now) cursor old mid c.requires.may (longer-went old mid c.in-Ok.ensures.went) reply c.args.steps.now
    c.gather.new.steps state c.of-marks.result c.rewrite_kept.ensures.marks (rw c.of-marks.ensures c.in-Ok.ensures.rows) c.in-Ok.ensures.ticks)

pub returns-in-Err-clause-ticks : goal.returns-in-Err-clause-ticks
returns-in-Err-clause-ticks g c = λ state.
    let old = g.H.Reach.known c.args.reach.now in
    let new = g.H.Reach.known c.gather.new.reach in
    own-lacked c.args.context.now.who (Rewrite c.args.rewriting.now) c.args.cursor.now old new c.requires.may (longer-went old new c.in-Err.ensures.went)
    c.out_of_memory.result c.args.steps.now c.gather.new.steps state (1, c.out_of_memory.ensures) c.in-Err.ensures.ticks
