use Rattle.im_session.proofs.TableLemmas.{exists-of}
use Rattle.im_session.proofs.statement.define_resolved.Goals as goal
use Rattle.std.proofs.Common.{subst}
use Rattle.im_history.specs.Tables.{tables}
use Rattle.im_names.specs.declared.resolved.Resolved.{Resolved}
use Rattle.im_names.specs.Fitting.{Serves}

pub alter-requires-clause-may : goal.alter-requires-clause-may
alter-requires-clause-may g c = record {
  exists = exists-of (g.H.Reach.known c.args.reach.now).log c.in-Memory.table _
      (subst (λ (r : Resolved). Serves (tables (g.H.Reach.known c.args.reach.now).log) r) c.in-Memory.is c.requires.serves);
  idle = c.requires.idle;
}

pub add_column-requires-clause-exists : goal.add_column-requires-clause-exists
add_column-requires-clause-exists g c =
    exists-of (g.H.Reach.known c.args.reach.now).log c.in-AddColumn.table _
    (subst (λ (r : Resolved). Serves (tables (g.H.Reach.known c.args.reach.now).log) r) c.in-AddColumn.is c.requires.serves)

pub add_column-requires-clause-fits : goal.add_column-requires-clause-fits
add_column-requires-clause-fits g c =
    (subst (λ (r : Resolved). Serves (tables (g.H.Reach.known c.args.reach.now).log) r) c.in-AddColumn.is c.requires.serves).is
