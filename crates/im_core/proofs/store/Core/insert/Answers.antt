use Rattle.std.proofs.Common.{ℕ, sym, ap, ◌∙◌, inl}
use Rattle.im_history.specs.Legal.{put_from}
use Rattle.im_core.proofs.CountLemmas.{Gives-insert}
use Rattle.im_core.proofs.WriteLemmas.{may_insert}
use Rattle.im_core.proofs.store.Core.insert.Goals as goal

pub record_write-requires-clause-allowed : goal.record_write-requires-clause-allowed
record_write-requires-clause-allowed g c =
    inl (record {
      table = c.args.opening.table;
      rows = c.args.rows;
      may =
          may_insert c.args.self.now.log c.args.opening c.args.rows c.requires.may
          (sym c.altered.ensures ∙ c.in_default.is);
      next = c.put-changes.ensures ∙ ap (λ (first : ℕ). put_from c.args.opening.table first c.args.rows) c.given_of-first.ensures.given;
      allowed = sym c.insert_refusal.ensures ∙ c.in_default-insert_refusal.is;
    })

pub record_write-requires-clause-gives : goal.record_write-requires-clause-gives
record_write-requires-clause-gives g c =
    rw (c.put-changes.ensures, c.in-Ok.ensures.sum, c.given_of-first.ensures.given, c.len.ensures)
    (Gives-insert c.args.self.now.log c.args.opening.table c.args.rows c.requires.may.some c.given_of-first.ensures.light)
