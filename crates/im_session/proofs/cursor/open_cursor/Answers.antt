use Rattle.std.proofs.Common.{inl, inr, refl}
use Rattle.im_names.specs.Fitting.{QueryServes}
use Rattle.im_session.specs.declared.cursor.Cursor.{Cursor}
use Rattle.im_session.proofs.CursorLemmas.{agrees-opened}
use Rattle.im_session.proofs.OpeningLemmas.{opened-added}
use Rattle.im_session.proofs.TableLemmas.{exists-of}
use Rattle.im_session.proofs.cursor.open_cursor.Goals as goal

pub returns-in_default-clause-err : goal.returns-in_default-clause-err
returns-in_default-clause-err g c = record { cause = inl (refl, refl) }

pub open_cursor-requires-clause-exists : goal.open_cursor-requires-clause-exists
open_cursor-requires-clause-exists g c =
    exists-of (g.H.Reach.known c.args.reach.now).log c.args.bound.table (QueryServes c.args.bound) c.requires.serves

pub returns-in-Ok-open_cursor-clause-opened : goal.returns-in-Ok-open_cursor-clause-opened
returns-in-Ok-open_cursor-clause-opened g c = record {
  is = rw c.in-Ok.ensures refl;
  added = opened-added c.args.context.now.who c.args.number c.args.bound.table c.args.columns c.args.bound.asked (g.H.Reach.known c.args.reach.now)
      (g.H.Reach.known c.open_cursor.new.self) c.in-Ok-open_cursor.view c.requires.seen c.in-Ok-open_cursor.ensures.ok;
}

pub returns-in-Ok-open_cursor-clause-kept : goal.returns-in-Ok-open_cursor-clause-kept
returns-in-Ok-open_cursor-clause-kept g c =
    let cursor : Cursor = record
    { number = c.args.number; bound = c.args.bound; view = c.in-Ok-open_cursor.view; next = 0; part = c.in-Ok.part } in
    agrees-opened c.args.context.now.who cursor (g.H.Reach.known c.args.reach.now) (g.H.Reach.known c.open_cursor.new.self)
    (opened-added c.args.context.now.who c.args.number c.args.bound.table c.args.columns c.args.bound.asked (g.H.Reach.known c.args.reach.now)
    (g.H.Reach.known c.open_cursor.new.self) c.in-Ok-open_cursor.view c.requires.seen c.in-Ok-open_cursor.ensures.ok)
    c.in-Ok-open_cursor.ensures.lawful c.requires.serves c.in-Ok-open_cursor.ensures.few c.in-Ok-open_cursor.ensures.some refl c.in-Ok.ensures

pub returns-in-Err-clause-err : goal.returns-in-Err-clause-err
returns-in-Err-clause-err g c = record { cause = inr (rw (← c.requires.seen) c.in-Err.ensures.err) }
