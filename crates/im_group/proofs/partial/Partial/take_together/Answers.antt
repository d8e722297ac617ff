use Rattle.std.proofs.Common.{List, ap, ◌∙◌}
use Rattle.std.specs.FinMap as map_of
use Rattle.im_group.specs.Partials.{Numbered, Groups, Parts, held}
use Rattle.im_group.proofs.TogetherLaws.{first-stands, can_join-first, goes-together}
use Rattle.im_group.proofs.partial.Partial.take_together.Goals as goal

pub join_first-requires-clause-there : goal.join_first-requires-clause-there
join_first-requires-clause-there c =
    first-stands (λ k. k.items) c.args._asking.now c.args.self.now c.self.inside.groups.entries (ap (λ (p : Parts). p.groups) c.self.view_is)
    c.requires.grouped c.requires.whole c.requires.few.front c.requires.few.is

pub join_first-requires-clause-few : goal.join_first-requires-clause-few
join_first-requires-clause-few c =
    can_join-first (λ k. k.items) c.args._asking.now c.args.self.now c.self.inside.groups.entries (ap (λ (p : Parts). p.groups) c.self.view_is)
    c.requires.grouped c.requires.whole c.args.rows c.args.sums.items c.requires.few

abbrev parts_of : List Numbered → Groups → Parts
parts_of rows groups = record { rows = rows; groups = groups }

pub returns : goal.returns
returns c = record {
  goes = λ front back is these.
      let new = held (λ k. k.items) c.join_first.new.groups.entries in
      ap (λ rs. parts_of rs new) (ap (λ (p : Parts). p.rows) c.self.view_is)
      ∙ goes-together (λ k. k.items) c.args._asking.now c.args.self.now c.self.inside.groups.entries (ap (λ (p : Parts). p.groups) c.self.view_is)
      c.requires.grouped c.requires.whole c.args.rows c.args.sums.items new (ap map_of.from_entries c.join_first.ensures) front back is these;
}
