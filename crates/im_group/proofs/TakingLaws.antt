-- What a part becomes by one row more.
use Rattle.std.proofs.Common.{◌≡◌, Bool, true, false, cond, List, [], ◌∷◌, ◌++◌, map, refl, sym, ap, ◌∙◌, subst, arith}
use Rattle.std.specs.FinMap as map_of
use Rattle.im_values.specs.declared.content.Content.{Content as Value}
use Rattle.im_syntax.specs.declared.bound.Bound.{Bound}
use Rattle.im_group.specs.Tallies.{Tallied, wanted, asked_in, HasRoom}
use Rattle.im_group.specs.Partials.{Numbered, Groups, Parts, key_of, keeps, kept, keyed, held, groups_of, partial, IsPartOfFew}
use Rattle.im_group.specs.inner.Steps.{tallies_at, so_far, first_groups, GroupsAre}
use Rattle.im_group.specs.inner.Holding.{with_taken}
use Rattle.im_group.proofs.Orders.{key_total}
use Rattle.im_group.proofs.GroupSteps.{few_so_far, groups-push, first-are, values-push, kept-push, kept-pass, few_kept, held_are}

abbrev parts_of : List Numbered → Groups → Parts
parts_of rows groups = record { rows = rows; groups = groups }

-- the part of these kept rows, by whether the query is grouped
abbrev part_of : Bool → Bound → List Numbered → Parts
part_of b bound found = cond b (parts_of [] (groups_of bound (map (λ r. r.1) found))) (parts_of found map_of.empty)

module _ {K : Type 0} (f : K → List Value) (bound : Bound) (part : Parts) (es : List (K × Tallied)) (of : held f es ≡ part.groups)
    (grouped : bound.grouped ≡ true) where
  -- the groups that are held are those of the rows
  pub groups-are : (rows : List Numbered) → part ≡ partial bound rows → GroupsAre bound (map (λ r. r.1) (kept bound rows)) (keyed f es)
  groups-are rows is = record {
    at = λ q.
        sym (map_of.get-from_entries key_total (keyed f es) q)
        ∙ ap (λ m. map_of.get m q) (of ∙ (ap (λ (p : Parts). p.groups) is ∙ ap (λ b. (part_of b bound (kept bound rows)).groups) grouped));
  }

  -- they can take one row more
  pub can_take : (row : List Value) → IsPartOfFew bound part → HasRoom (so_far (asked_in (wanted bound)) (tallies_at (keyed f es) (key_of bound.groups row)))
  can_take row few =
      few_so_far bound (map (λ r. r.1) (kept bound few.rows)) (keyed f es) row (groups-are few.rows few.is) (omega (arith, few_kept bound few.rows, few.few))

  -- and are then those of the rows and of this one, where the query keeps it
  pub takes-group : (row : Numbered) (new : Groups) → keeps bound.filter row.1 ≡ true
      → new ≡ map_of.from_entries (with_taken (asked_in (wanted bound)) (keyed f es) (key_of bound.groups row.1) row.1)
      → (rows : List Numbered) → part ≡ partial bound rows → parts_of part.rows new ≡ partial bound (rows ++ row ∷ [])
  takes-group row new keep taken rows is =
      let found = kept bound rows in
      let groups = with_taken (asked_in (wanted bound)) (keyed f es) (key_of bound.groups row.1) row.1 in
      let here : part.rows ≡ [] = ap (λ (p : Parts). p.rows) is ∙ ap (λ b. (part_of b bound found).rows) grouped in
      let there : new ≡ groups_of bound (map (λ r. r.1) (kept bound (rows ++ row ∷ []))) =
      taken ∙ held_are bound _ groups
      (subst (λ vs. GroupsAre bound vs groups) (sym (values-push bound rows row keep))
      (groups-push bound (map (λ r. r.1) found) (keyed f es) row.1 (groups-are rows is))) in
      (λ i. parts_of (here i) (there i)) ∙ sym (ap (λ b. part_of b bound (kept bound (rows ++ row ∷ []))) grouped)

module _ (bound : Bound) (part : Parts) (plain : bound.grouped ≡ false) where
  pub takes-row : (row : Numbered) (new : List Numbered) → keeps bound.filter row.1 ≡ true → new ≡ part.rows ++ row ∷ []
      → (rows : List Numbered) → part ≡ partial bound rows → parts_of new part.groups ≡ partial bound (rows ++ row ∷ [])
  takes-row row new keep taken rows is =
      let found = kept bound rows in
      let same = is ∙ ap (λ b. part_of b bound found) plain in
      let here : new ≡ kept bound (rows ++ row ∷ []) =
      taken ∙ ap (λ rs. rs ++ row ∷ []) (ap (λ (p : Parts). p.rows) same) ∙ sym (kept-push bound rows row keep) in
      (λ i. parts_of (here i) (ap (λ (p : Parts). p.groups) same i)) ∙ sym (ap (λ b. part_of b bound (kept bound (rows ++ row ∷ []))) plain)

-- the part of the same kept rows is the same
pub partial-kept : (bound : Bound) (xs ys : List Numbered) → kept bound xs ≡ kept bound ys → partial bound xs ≡ partial bound ys
partial-kept bound xs ys e = ap (part_of bound.grouped bound) e

-- a row that is not kept changes nothing
pub passes-row : (bound : Bound) (rows : List Numbered) (row : Numbered) → keeps bound.filter row.1 ≡ false
    → partial bound (rows ++ row ∷ []) ≡ partial bound rows
passes-row bound rows row is = partial-kept bound (rows ++ row ∷ []) rows (kept-pass bound rows row is)

-- those that are kept are kept
pub kept-again : (bound : Bound) (rows : List Numbered) → kept bound (kept bound rows) ≡ kept bound rows
kept-again bound [] = refl
kept-again bound (row ∷ rows) = go (keeps bound.filter row.1) refl (kept-again bound rows)
  where
    go : (b : Bool) → keeps bound.filter row.1 ≡ b → kept bound (kept bound rows) ≡ kept bound rows
        → kept bound (cond b (row ∷ kept bound rows) (kept bound rows)) ≡ cond b (row ∷ kept bound rows) (kept bound rows)
    go true is more = ap (λ b. cond b (row ∷ kept bound (kept bound rows)) (kept bound (kept bound rows))) is ∙ ap (λ l. row ∷ l) more
    go false is more = more

-- no row
pub none-grouped : (bound : Bound) (groups : Groups) → bound.grouped ≡ true
    → groups ≡ map_of.from_entries (first_groups bound.groups (asked_in (wanted bound))) → parts_of [] groups ≡ partial bound []
none-grouped bound groups grouped is =
    ap (parts_of []) (is ∙ held_are bound [] (first_groups bound.groups (asked_in (wanted bound))) (first-are bound))
    ∙ sym (ap (λ b. part_of b bound []) grouped)

pub none-plain : (bound : Bound) (groups : Groups) → bound.grouped ≡ false → groups ≡ map_of.empty → parts_of [] groups ≡ partial bound []
none-plain bound groups plain is = ap (parts_of []) is ∙ sym (ap (λ b. part_of b bound []) plain)
