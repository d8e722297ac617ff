use Rattle.std.proofs.Common.{◌≡◌, false, None, refl, subst, sym}
use Rattle.im_history.specs.Tables.{tables}
use Rattle.im_names.specs.Fitting.{OfTable, QueryServes}
use Rattle.im_session.specs.declared.scan.Purpose.TheVariants.{Rewrite}
use Rattle.im_session.specs.inner.Purposes.{plan_of}
use Rattle.im_session.specs.inner.Rests.{IsRest}
use Rattle.im_session.specs.inner.Writes.{RewriteServes}
use Rattle.im_session.proofs.WriteLemmas.{condition-serves}
use Rattle.im_session.proofs.rewriting.rewrite_rows.Goals as goal
use Rattle.im_statements.specs.Outcomes.{said}
use Rattle.im_statements.specs.Statements.{seen_columns}
use Rattle.im_syntax.specs.declared.bound.Bound.{Bound}

pub scan-requires-clause-serves : goal.scan-requires-clause-serves
scan-requires-clause-serves g c κs within =
    subst (λ (b : Bound). OfTable (tables (g.H.Reach.known c.args.reach.now).log) b.table (QueryServes b)) (sym c.condition_query-bound.ensures)
    (condition-serves (g.H.Reach.known c.args.reach.now).log c.args.table c.args.filter c.args.rewriting c.requires.serves)

pub scan-requires-clause-seen : goal.scan-requires-clause-seen
scan-requires-clause-seen g c κs within =
    subst (λ (b : Bound). c.args.columns ≡ seen_columns (g.H.Reach.known c.args.reach.now).log b.table) (sym c.condition_query-bound.ensures)
    c.requires.seen

pub scan-requires-clause-may : goal.scan-requires-clause-may
scan-requires-clause-may g c κs within =
    subst (λ (b : Bound). (b.grouped ≡ false)
    × (b.asked ≡ None)
    × OfTable (tables (g.H.Reach.known c.args.reach.now).log) b.table (RewriteServes b.filter c.args.rewriting)) (sym c.condition_query-bound.ensures)
    (refl, refl, c.requires.serves)

pub returns-clause-rest : goal.returns-clause-rest
returns-clause-rest g c =
    subst (λ (b : Bound). IsRest c.args.context.now.who 0 (g.H.Reach.known c.args.reach.now)
    (plan_of (g.H.Reach.known c.args.reach.now).limits c.args.context.now.who
    (seen_columns (g.H.Reach.known c.args.reach.now).log b.table) b (Rewrite c.args.rewriting)) (said c.scan.result)
    (g.H.Reach.known c.scan.new.reach)) c.condition_query-bound.ensures c.scan.ensures.rest
