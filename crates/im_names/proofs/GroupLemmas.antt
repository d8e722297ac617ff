-- Looking up a mark is looking among the columns of GROUP BY.
use Rattle.std.proofs.Common.{◌≡◌, ℕ, ◌+◌, ◌<◌, ◌≤◌, Bool, true, false, cond, List, [], ◌∷◌, length, map, Option, Some, None, refl, ap, arith}
use Rattle.std.specs.List.{position_from, range_with_len}
use Rattle.std.specs.Option.{unwrap_or}
use Rattle.std.proofs.lemmas.List.FromFn.{get_or-map-range_with_len}
use Rattle.im_values.specs.declared.schema.Column.{Column}
use Rattle.im_syntax.specs.declared.item.ItemOf.{ItemOf}
use Rattle.im_syntax.specs.declared.item.ItemOf.TheVariants as item
use Rattle.im_syntax.specs.declared.query.Query.{Query}
use Rattle.im_syntax.specs.BoundQuery.{is_listed}
use Rattle.im_names.specs.declared.fault.NameFault.TheVariants.{NotGrouped}
use Rattle.im_names.specs.Faults.{first_fault}
use Rattle.im_names.specs.Lookups.{is_called, number_of}
use Rattle.im_names.specs.Queries.{items_of, key_item, lone_fault, lone_faults, marked_fault, marked_faults}

either_within : (b : Bool) (i d n : ℕ) (rest : Option ℕ) → i < n → unwrap_or rest d < n → unwrap_or (cond b (Some i) rest) d < n
either_within true i d n rest lt below = lt
either_within false i d n rest lt below = below

-- a place that is found is one of the list
place_within : {A : Type 0} (t : A → Bool) (i n : ℕ) (xs : List A) (d : ℕ) → i + length xs ≡ n → d < n → unwrap_or (position_from t i xs) d < n
place_within t i n [] d e lt = lt
place_within t i n (x ∷ xs) d e lt = either_within (t x) i d n (position_from t (i + 1) xs) (omega arith) (place_within t (i + 1) n xs d (omega arith) lt)

pub number_within : (columns : List Column) (name : List ℕ) → 1 ≤ length columns → number_of columns name < length columns
number_within columns name some = place_within (is_called name) 0 (length columns) columns 0 (omega arith) (omega arith)

-- the marks of the columns of GROUP BY
abbrev pub all_marks : List Column → List (List ℕ) → List Bool
all_marks columns groups = map (is_listed (map (number_of columns) groups)) (range_with_len 0 (length columns))

marked : (columns : List Column) (groups : List (List ℕ)) (part : ItemOf (List ℕ)) → 1 ≤ length columns
    → marked_fault columns (all_marks columns groups) part ≡ lone_fault columns groups part
marked columns groups (item.Column name) some =
    ap (λ (b : Bool). cond b None (Some (NotGrouped (Some name))))
    (get_or-map-range_with_len (is_listed (map (number_of columns) groups)) 0 (length columns) (number_of columns name)
    (number_of columns name) false (number_within columns name some) (omega arith))
marked columns groups part some = refl

all_marked : (columns : List Column) (groups : List (List ℕ)) (parts : List (ItemOf (List ℕ))) → 1 ≤ length columns
    → first_fault (map (marked_fault columns (all_marks columns groups)) parts) ≡ first_fault (map (lone_fault columns groups) parts)
all_marked columns groups [] some = refl
all_marked columns groups (part ∷ parts) some = rw (marked columns groups part some, all_marked columns groups parts some) refl

-- so a query that is checked by marks is checked by the columns of GROUP BY
pub marks_serve : (columns : List Column) (q : Query) → 1 ≤ length columns → marked_faults columns (all_marks columns q.groups) q ≡ lone_faults columns q
marks_serve columns q some = rw (all_marked columns q.groups (items_of q.list) some, all_marked columns q.groups (map key_item q.keys) some) refl
