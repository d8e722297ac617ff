use Rattle.std.proofs.Common.{◌≡◌, ℕ, ◌+◌, ◌<◌, ◌≤◌, List, [], ◌∷◌, ◌++◌, length, All, Option, Some, None, refl, subst, sym, ap, ◌∙◌, arith}
use Rattle.std.specs.List.{AllByRecursion}
use Rattle.std.specs.Option.{ForSome, option_map}
use Rattle.std.proofs.lemmas.List.{map_push}
use Rattle.std.proofs.lemmas.List.Elements.{All-from_recursion, All-push, recursion_from_All}
use Rattle.im_values.specs.Widened.{widened}
use Rattle.im_values.proofs.WideLaws.{widened-long}
use Rattle.im_column.specs.Forms.{IsShort}
use Rattle.im_history.specs.Rows.{Row}
use Rattle.im_unit.specs.Rebuilt.{RiseWithin, fetched_rows}
use Rattle.check_parts.specs.Fetching.{AreFetched}
use Rattle.check_parts.proofs.unit.put_changed.Goals as goal

abbrev Found : Type 0
Found = ℕ × Option Row

-- row numbers that rise, and one behind them
rise-push : (low next end : ℕ) (fetched : List Found) (found : Found) → RiseWithin low next fetched → low ≤ found.0 → next ≤ found.0 → found.0 < end →
    RiseWithin low end (fetched ++ found ∷ [])
rise-push low next end [] found rise from above below = (from, below, tt)
rise-push low next end (one ∷ fetched) found rise from above below =
    (rise.0, omega (arith, rise.1), rise-push (one.0 + 1) next end fetched found rise.2 (omega (arith, rise.1)) above below)

-- they stay below a greater end
rise-wider : (low next end : ℕ) (fetched : List Found) → RiseWithin low next fetched → next ≤ end → RiseWithin low end fetched
rise-wider low next end [] rise up = tt
rise-wider low next end (one ∷ fetched) rise up = (rise.0, omega (arith, rise.1), rise-wider (one.0 + 1) next end fetched rise.2 up)

-- what holds of the rows so far and of one more holds of all
each : (P : Row → Type 0) (old : List Found) (found : Found) → AllByRecursion (λ row. ForSome row P) (fetched_rows old) → ForSome found.1 P →
    AllByRecursion (λ row. ForSome row P) (fetched_rows (old ++ found ∷ []))
each P old found all one =
    let Q : Option Row → Type 0 = λ row. ForSome row P in
    subst (AllByRecursion Q) (sym (map_push (λ (f : Found). f.1) old found))
    (recursion_from_All Q (fetched_rows old ++ found.1 ∷ []) (All-push Q (fetched_rows old) found.1 (All-from_recursion Q (fetched_rows old) all) one))

more : (old : List Found) (place : ℕ) (found : Found) → AreFetched old place → found.0 ≡ 1000 + place → ForSome found.1 (λ values. length values ≡ 3) →
    ForSome found.1 (λ values. All IsShort values) → AreFetched (old ++ found ∷ []) (place + 1)
more old place found before at width short = record {
  rise = rise-push 1000 (1000 + place) (1000 + (place + 1)) old found before.rise (omega (arith, at)) (omega (arith, at)) (omega (arith, at));
  width = each (λ values. length values ≡ 3) old found before.width width;
  short = each (λ values. All IsShort values) old found before.short short;
}

later : (old : List Found) (place : ℕ) → AreFetched old place → AreFetched old (place + 1)
later old place before = record {
  rise = rise-wider 1000 (1000 + place) (1000 + (place + 1)) old before.rise (omega arith);
  width = before.width;
  short = before.short;
}

-- without defaults a row stays as it is
alone : (row : Option Row) → option_map (widened []) row ≡ row
alone None = refl
alone (Some row) = ap Some (widened-long [] row (omega arith))

pub returns-in_ok-push : goal.returns-in_ok-push
returns-in_ok-push c =
    let old = c.args.fetched.now.items in
    let found : Found = (1000 + c.args.place, c.wide_values.result) in
    let is = sym (c.wide_values.ensures ∙ alone c.args.row.now) in
    subst (λ (l : List Found). AreFetched l (c.args.place + 1)) (sym c.in_ok-push.ensures.items)
    (more old c.args.place found c.requires.before refl
    (subst (λ (r : Option Row). ForSome r (λ values. length values ≡ 3)) is c.requires.width)
    (subst (λ (r : Option Row). ForSome r (λ values. All IsShort values)) is c.requires.short))

pub returns-else-is_changed : goal.returns-else-is_changed
returns-else-is_changed c = later c.args.fetched.now.items c.args.place c.requires.before
