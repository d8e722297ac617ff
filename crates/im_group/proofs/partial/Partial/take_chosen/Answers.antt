use Rattle.std.proofs.Common.{List, ap, ◌∙◌}
use Rattle.std.specs.FinMap as map_of
use Rattle.std.proofs.lemmas.Result.{on_ok_weaker}
use Rattle.im_group.specs.Partials.{Numbered, Groups, Parts, held}
use Rattle.im_group.proofs.ChosenLaws.{can_take_each, takes-chosen}
use Rattle.im_group.proofs.partial.Partial.take_chosen.Goals as goal

pub take_run-requires-clause-few : goal.take_run-requires-clause-few
take_run-requires-clause-few c =
    can_take_each (λ k. k.items) c.args.asking.now c.args.self.now c.self.inside.groups.entries (ap (λ (p : Parts). p.groups) c.self.view_is)
    c.requires.grouped c.args.rows.now c.requires.few

abbrev parts_of : List Numbered → Groups → Parts
parts_of rows groups = record { rows = rows; groups = groups }

pub returns : goal.returns
returns c =
    let es = c.self.inside.groups.entries in
    let new = held (λ k. k.items) c.take_run.new.groups.entries in
    on_ok_weaker c.take_run.result
    (λ taken. record {
      goes = λ front back is values.
          ap (λ rs. parts_of rs new) (ap (λ (p : Parts). p.rows) c.self.view_is)
          ∙ takes-chosen (λ k. k.items) c.args.asking.now c.args.self.now es (ap (λ (p : Parts). p.groups) c.self.view_is)
          c.requires.grouped c.args.rows.now new (ap map_of.from_entries taken) front back is values;
    })
    c.take_run.ensures
