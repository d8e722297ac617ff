-- What callers know of the parts of an answer: when two may be merged, what a plain part has, and what an answer is of.
use Rattle.std.proofs.Common.{◌≡◌, Contains, ℕ, ◌+◌, ◌<◌, ◌≤◌, ◌^◌, Bool, true, false, cond, List, [], ◌∷◌, ◌++◌, length, map, filter, None, Some, refl, sym, ap, ◌∙◌, subst, arith}
use Rattle.std.specs.Option.{ForSome}
use Rattle.std.specs.List.{AllByRecursion}
use Rattle.std.specs.FinMap as map_of
use Rattle.im_values.specs.declared.content.Content.{Content as Value}
use Rattle.im_syntax.specs.declared.bound.Bound.{Bound}
use Rattle.im_syntax.specs.BoundFits.{BoundFits}
use Rattle.im_group.specs.Tallies.{Tallied, wanted, asked_in, CanJoin}
use Rattle.im_group.specs.Partials.{Numbered, Parts, key_order, key_of, is_key, keeps, kept, members, tallies_of, keys_of, groups_of, merged, partial, CanMerge}
use Rattle.im_group.specs.Interleaved.{Interleaves}
use Rattle.im_group.specs.MadeGroups.{AreGroupsOf, kept_values}
use Rattle.im_group.specs.Answers.{put_out, finished, answer}
use Rattle.im_group.proofs.Few.{few_join, shorter}
use Rattle.im_group.proofs.GroupLemmas.{get-groups_of}
use Rattle.im_group.proofs.Parts as parts
use Rattle.im_group.proofs.OrderFree as free
use Rattle.im_group.proofs.ReadingLaws.{records-part}
use Rattle.im_group.proofs.TakingLaws.{passes-row, kept-again, partial-kept}
use Rattle.im_group.proofs.AskedLemmas.{asked_fit}
use Rattle.im_group.proofs.MadeLaws.{same-keys}
use Rattle.im_group.proofs.CountLaws as count
use Rattle.im_group.specs.Counts.{counts_of_rows, counts}
use Rattle.std.proofs.lemmas.List.{length-map}

-- ---- two parts may be merged

the_tallies : (b : Bool) (ts us : Tallied) → cond b (Some ts) None ≡ Some us → ts ≡ us
the_tallies true ts us e = cc
the_tallies false ts us e = absurd cc

groups_merge : (bound : Bound) (xs ys : List (List Value)) → length xs + length ys < 2 ^ 64
    → (key : List Value) → ForSome (map_of.get (groups_of bound xs) key) (λ ts. ForSome (map_of.get (groups_of bound ys) key) (λ us. CanJoin ts us))
groups_merge bound xs ys few key ts t us u =
    let front = the_tallies _ _ ts (sym (get-groups_of bound xs key) ∙ t) in
    let back = the_tallies _ _ us (sym (get-groups_of bound ys key) ∙ u) in
    let fewer : length (members bound.groups xs key) + length (members bound.groups ys key) < 2 ^ 64 =
    omega (arith, shorter (λ row. is_key (key_of bound.groups row) key) xs, shorter (λ row. is_key (key_of bound.groups row) key) ys) in
    subst (λ ts. CanJoin ts us) front
    (subst (CanJoin (tallies_of bound xs key)) back (few_join (asked_in (wanted bound)) (members bound.groups xs key) (members bound.groups ys key) fewer))

-- a part, by whether the query is grouped
abbrev part_of : Bool → Bound → List Numbered → Parts
part_of b bound rows =
    cond b (record { rows = []; groups = groups_of bound (map (λ r. r.1) (kept bound rows)) }) (record { rows = kept bound rows; groups = map_of.empty })

no_group : (key : List Value) (ts : Tallied) → map_of.get {X = Tallied} {R = key_order} map_of.empty key ≡ Some ts → ⊥
no_group key ts t = let none = sym (map_of.get-empty {X = Tallied} key_order key) ∙ t in absurd cc

few_kept : (bound : Bound) (rows : List Numbered) → length (map (λ r. r.1) (kept bound rows)) ≤ length rows
few_kept bound rows = let same = length-map (kept bound rows) (λ r. r.1) in let less = shorter (λ r. keeps bound.filter r.1) rows in omega arith

-- the parts of fewer than 2^64 rows
pub CanMerge-partial : (bound : Bound) (front back : List Numbered) → length front + length back < 2 ^ 64 → CanMerge (partial bound front) (partial bound back)
CanMerge-partial bound front back few =
    elim bound.grouped as (λ b. CanMerge (part_of b bound front) (part_of b bound back)) [
      | true ↦ groups_merge bound (map (λ r. r.1) (kept bound front)) (map (λ r. r.1) (kept bound back))
          (omega (arith, few_kept bound front, few_kept bound back))
      | false ↦ λ key ts t us u. absurd (no_group key ts t)
    ]

pub CanMerge-parts : (bound : Bound) (front back : List Numbered) (a b : Parts) → a ≡ partial bound front → b ≡ partial bound back
    → length front + length back < 2 ^ 64 → CanMerge a b
CanMerge-parts bound front back a b is then_is few =
    subst (λ p. CanMerge p b) (sym is) (subst (CanMerge (partial bound front)) (sym then_is) (CanMerge-partial bound front back few))

-- ---- parts of two lists of rows

pub merged-partial : (bound : Bound) (front back : List Numbered) → merged (partial bound front) (partial bound back) ≡ partial bound (front ++ back)
merged-partial bound front back = parts.merged-partial bound front back

-- the part of no row changes nothing
pub merged-nil : (bound : Bound) (rows : List Numbered) → merged (partial bound []) (partial bound rows) ≡ partial bound rows
merged-nil bound rows = parts.merged-partial bound [] rows

-- a query may be asked of two lists of rows together where it may be asked of each
pub fits-append : (bound : Bound) (front back : List Numbered) → AllByRecursion (λ r. BoundFits r.1 bound) front
    → AllByRecursion (λ r. BoundFits r.1 bound) back → AllByRecursion (λ r. BoundFits r.1 bound) (front ++ back)
fits-append bound [] back a b = b
fits-append bound (r ∷ front) back a b = (a.0, fits-append bound front back a.1 b)

-- ---- a query that is grouped

-- its part does not depend on the order of the rows: of two lists either may come first
pub partial-swapped : (bound : Bound) (front back : List Numbered) → bound.grouped ≡ true
    → partial bound (front ++ back) ≡ partial bound (back ++ front)
partial-swapped bound front back grouped = free.partial-swap bound grouped front back

-- and the rows of both may come one by one in turn
pub partial-interleaved : (bound : Bound) (front back whole : List Numbered) → bound.grouped ≡ true → Interleaves front back whole
    → partial bound whole ≡ partial bound (front ++ back)
partial-interleaved bound front back whole grouped both = free.partial-interleaved bound grouped both

-- groups that are made without their rows: those of the rows, where each has what the kept rows of its key give, each key of a row is
-- that of a group, and each key of a group that of a row, or the empty key without GROUP BY
pub AreGroupsOf-both : (bound : Bound) (rows : List Numbered) (groups : List (List Value × Tallied))
    → AllByRecursion (λ g. g.1 ≡ tallies_of bound (kept_values bound rows) g.0) groups
    → AllByRecursion (Contains (keys_of bound.groups (kept_values bound rows))) (map (λ g. g.0) groups)
    → AllByRecursion (Contains (map (λ g. g.0) groups)) (keys_of bound.groups (kept_values bound rows)) → AreGroupsOf bound rows groups
AreGroupsOf-both bound rows groups tallies there back = record {
  tallies = tallies;
  keys = same-keys (map (λ g. g.0) groups) (keys_of bound.groups (kept_values bound rows)) there back;
}

-- the counts of rows, computed group by group: each is put in its place by its key
abbrev pub in_key_order : {X : Type 0} → List (List Value × X) → List (List Value × X)
in_key_order es = count.in_key_order es

pub counts-in_order : (bound : Bound) (width : ℕ) (rows : List Numbered)
    → counts bound width rows
    ≡ map (λ g. (g.0, counts_of_rows width g.1))
    (in_key_order (map (λ key. (key, members bound.groups (kept_values bound rows) key)) (keys_of bound.groups (kept_values bound rows))))
counts-in_order bound width rows = count.counts-in_order bound width rows

-- what a query asks of the columns of its groups, the rows that it fits have
pub asked-fit : (row : List Value) (bound : Bound) → BoundFits row bound → AllByRecursion (λ a. a.column < length row) (asked_in (wanted bound))
asked-fit row bound fits = asked_fit row bound fits

-- ---- a query that is not grouped

-- its part has the rows whose condition is Yes, with their numbers, and no other
pub rows-partial : (bound : Bound) (rows : List Numbered) → bound.grouped ≡ false → (partial bound rows).rows ≡ filter (λ r. keeps bound.filter r.1) rows
rows-partial bound rows plain = ap (λ b. (part_of b bound rows).rows) plain

-- without a condition these are all rows
all_kept : (rows : List Numbered) → filter (λ r. true) rows ≡ rows
all_kept [] = refl
all_kept (r ∷ rows) = ap (λ l. r ∷ l) (all_kept rows)

pub kept-all : (bound : Bound) (rows : List Numbered) → bound.filter ≡ None → kept bound rows ≡ rows
kept-all bound rows none = ap (λ o. filter (λ r. keeps o r.1) rows) none ∙ all_kept rows

-- ---- rows that are not kept

-- a row that is not kept changes nothing
pub partial-passes : (bound : Bound) (rows : List Numbered) (row : Numbered) → keeps bound.filter row.1 ≡ false
    → partial bound (rows ++ row ∷ []) ≡ partial bound rows
partial-passes bound rows row is = passes-row bound rows row is

-- where two lists of rows have the same kept rows, they have the same part
pub partial-same_kept : (bound : Bound) (xs ys : List Numbered) → kept bound xs ≡ kept bound ys → partial bound xs ≡ partial bound ys
partial-same_kept bound xs ys same = partial-kept bound xs ys same

-- so the part of rows is that of those that are kept
pub partial-of_kept : (bound : Bound) (rows : List Numbered) → partial bound (kept bound rows) ≡ partial bound rows
partial-of_kept bound rows = partial-kept bound (kept bound rows) rows (kept-again bound rows)

-- ---- answers

-- what is made of the part of all rows is the answer
pub answer-finished : (bound : Bound) (rows : List Numbered) → answer bound rows ≡ finished bound (partial bound rows)
answer-finished bound rows = ap (put_out bound) (records-part bound rows)

-- the answer over two lists of rows is made of the merged parts
pub answer-merged : (bound : Bound) (front back : List Numbered)
    → answer bound (front ++ back) ≡ finished bound (merged (partial bound front) (partial bound back))
answer-merged bound front back = answer-finished bound (front ++ back) ∙ ap (finished bound) (sym (merged-partial bound front back))
