use Rattle.std.proofs.Common.{◌≡◌, ◌++◌, List, is_ok, if◌then◌else◌, ap, ◌∙◌}
use Rattle.im_group.specs.Partials.{Numbered, Groups, Parts, merged}
use Rattle.im_group.proofs.Parts.{merged-partial, can_merge-held}
use Rattle.im_group.proofs.partial.Partial.merge.Goals as goal

pub join_groups-requires : goal.join_groups-requires
join_groups-requires c = record {
  few =
      can_merge-held (λ k. k.items) c.args.self.now c.args.other c.self.inside.groups.entries c.other.inside.groups.entries
      (ap (λ p. p.groups) c.self.view_is) (ap (λ p. p.groups) c.other.view_is) c.requires.few;
}

abbrev parts_of : List Numbered → Groups → Parts
parts_of rows groups = record { rows = rows; groups = groups }

pub returns-clause-merged : goal.returns-clause-merged
returns-clause-merged c =
    let rows : c.append.new.self.items ≡ c.self.inside.rows.items ++ c.other.inside.rows.items =
    c.append.ensures.items
    ∙ (ap (λ r. if is_ok r then c.reserve.new.self.items ++ c.other.inside.rows.items else c.reserve.new.self.items) c.unwrap.ensures
    ∙ ap (λ l. l ++ c.other.inside.rows.items) c.reserve.ensures.items) in
    (λ i. parts_of (rows i) (c.in_ok-join_groups.ensures.ok i)) ∙ (λ i. merged (c.self.view_is i) (c.other.view_is i))

pub returns-clause-parts : goal.returns-clause-parts
returns-clause-parts c bound front back is then_is = returns-clause-merged c ∙ ((λ i. merged (is i) (then_is i)) ∙ merged-partial bound front back)
