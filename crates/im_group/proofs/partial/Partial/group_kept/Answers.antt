use Rattle.std.proofs.Common.{List, ap, ◌∙◌}
use Rattle.std.specs.FinMap as map_of
use Rattle.std.proofs.lemmas.Result.{on_ok_weaker}
use Rattle.im_group.specs.Partials.{Numbered, Groups, Parts, key_of, keyed, held}
use Rattle.im_group.specs.inner.Holding.{with_taken}
use Rattle.im_group.proofs.TakingLaws.{can_take, takes-group}
use Rattle.im_group.proofs.partial.Partial.group_kept.Goals as goal

pub take_row-requires-clause-few : goal.take_row-requires-clause-few
take_row-requires-clause-few c =
    rw (c.bound.ensures, c.asked.ensures)
    (can_take (λ k. k.items) c.args.asking.now c.args.self.now c.self.inside.groups.entries (ap (λ (p : Parts). p.groups) c.self.view_is)
    c.requires.grouped c.args.row.now c.requires.few)

abbrev parts_of : List Numbered → Groups → Parts
parts_of rows groups = record { rows = rows; groups = groups }

pub returns : goal.returns
returns c =
    let es = c.self.inside.groups.entries in
    let new = held (λ k. k.items) c.take_row.new.groups.entries in
    on_ok_weaker c.take_row.result
    (λ taken number. record {
      goes = λ rows is.
          ap (λ rs. parts_of rs new) (ap (λ (p : Parts). p.rows) c.self.view_is)
          ∙ takes-group (λ k. k.items) c.args.asking.now c.args.self.now es (ap (λ (p : Parts). p.groups) c.self.view_is)
          c.requires.grouped (number, c.args.row.now) new c.requires.kept
          (ap map_of.from_entries (taken
          ∙ (λ i. with_taken (c.asked.ensures i) (keyed (λ k. k.items) es) (key_of (c.bound.ensures i).groups c.args.row.now) c.args.row.now)))
          rows is;
    })
    c.take_row.ensures
