-- Queries: what may be wrong with them, and their bound forms.
use Rattle.std.specs.Prelude.{ℕ, Bool, true, false, ◌||◌, List, [], ◌∷◌, get_or, length, map, Option, Some, None, if◌then◌else◌}
use Rattle.std.specs.List.{flat_map, list_any, range_with_len}
use Rattle.im_values.specs.declared.schema.Column.{Column}
use Rattle.im_syntax.specs.declared.item.Function.{Function}
use Rattle.im_syntax.specs.declared.item.ItemOf.{ItemOf}
use Rattle.im_syntax.specs.declared.item.ItemOf.TheVariants as item
use Rattle.im_syntax.specs.declared.query.KeyPart.{KeyPart}
use Rattle.im_syntax.specs.declared.query.ListPart.{ListPart}
use Rattle.im_syntax.specs.declared.query.ListPart.TheVariants as list
use Rattle.im_syntax.specs.declared.query.Way.{Way}
use Rattle.im_syntax.specs.declared.query.Way.TheVariants as way
use Rattle.im_syntax.specs.declared.query.Query.{Query}
use Rattle.im_syntax.specs.declared.bound.Key.{Key}
use Rattle.im_syntax.specs.declared.bound.Bound.{Bound}
use Rattle.im_syntax.specs.BoundQuery.{is_filled, is_listed}
use Rattle.im_syntax.specs.Functions.{adds, is_aggregate}
use Rattle.im_names.specs.declared.fault.NameFault.{NameFault}
use Rattle.im_names.specs.declared.fault.NameFault.TheVariants.{NotGrouped}
use Rattle.im_names.specs.Faults.{first_fault}
use Rattle.im_names.specs.Lookups.{number_of, of_column, unknown_fault}
use Rattle.im_names.specs.Literals.{summed}
use Rattle.im_names.specs.Conditions.{where_names, where_values, values_fault, filter_of}

-- ---- items and keys

-- the items of a list; `*` has none
abbrev pub items_of : ListPart → List (ItemOf (List ℕ))
items_of list.Star = []
items_of (list.Items items) = items

-- the item of a key
abbrev pub key_item : KeyPart → ItemOf (List ℕ)
key_item key = key.item

-- the names of columns in an item
abbrev pub item_names : ItemOf (List ℕ) → List (List ℕ)
item_names (item.Column name) = name ∷ []
item_names item.CountAll = []
item_names (item.Aggregate function name) = name ∷ []

-- the item with the number of its column
abbrev pub item_of : List Column → ItemOf (List ℕ) → ItemOf ℕ
item_of columns (item.Column name) = item.Column (number_of columns name)
item_of columns item.CountAll = item.CountAll
item_of columns (item.Aggregate function name) = item.Aggregate function (number_of columns name)

-- a key is descending where DESC is written
abbrev pub is_descending : Way → Bool
is_descending way.Unsaid = false
is_descending way.Asc = false
is_descending way.Desc = true

abbrev pub key_of : List Column → KeyPart → Key
key_of columns key = record { item = item_of columns key.item; descending = is_descending key.way }

-- a function that adds up goes over no column of texts
abbrev pub function_fault : List Column → Function → ℕ → Option NameFault
function_fault columns function number = if adds function then of_column columns number summed else None

abbrev pub item_fault : List Column → ItemOf (List ℕ) → Option NameFault
item_fault columns (item.Column name) = None
item_fault columns item.CountAll = None
item_fault columns (item.Aggregate function name) = function_fault columns function (number_of columns name)

-- ---- grouping

-- A query is grouped where it has GROUP BY, or an aggregate in its list or keys.
abbrev pub is_grouped : Query → Bool
is_grouped q = is_filled q.groups || list_any is_aggregate (items_of q.list) || list_any is_aggregate (map key_item q.keys)

-- the item is a plain column that is not among those of GROUP BY
abbrev pub lone_fault : List Column → List (List ℕ) → ItemOf (List ℕ) → Option NameFault
lone_fault columns groups (item.Column name) =
    if is_listed (map (number_of columns) groups) (number_of columns name) then None else Some (NotGrouped (Some name))
lone_fault columns groups item.CountAll = None
lone_fault columns groups (item.Aggregate function name) = None

-- the same where the columns of GROUP BY are marked
abbrev pub marked_fault : List Column → List Bool → ItemOf (List ℕ) → Option NameFault
marked_fault columns marks (item.Column name) = if get_or marks (number_of columns name) false then None else Some (NotGrouped (Some name))
marked_fault columns marks item.CountAll = None
marked_fault columns marks (item.Aggregate function name) = None

-- `*` in a grouped query
abbrev pub star_fault : ListPart → Option NameFault
star_fault list.Star = Some (NotGrouped None)
star_fault (list.Items items) = None

-- what is wrong with the list and the keys of a grouped query, in the order of the text
abbrev pub lone_faults : List Column → Query → Option NameFault
lone_faults columns q = first_fault (
    star_fault q.list
    ∷ first_fault (map (lone_fault columns q.groups) (items_of q.list))
    ∷ first_fault (map (lone_fault columns q.groups) (map key_item q.keys))
    ∷ [])

-- the same where the columns of GROUP BY are marked
abbrev pub marked_faults : List Column → List Bool → Query → Option NameFault
marked_faults columns marks q = first_fault (
    star_fault q.list
    ∷ first_fault (map (marked_fault columns marks) (items_of q.list))
    ∷ first_fault (map (marked_fault columns marks) (map key_item q.keys))
    ∷ [])

-- nothing of this is wrong with a query that is not grouped
abbrev pub grouped_fault : List Column → Query → Option NameFault
grouped_fault columns q = if is_grouped q then lone_faults columns q else None

-- ---- the query

-- the first of the names that the table lacks, in the order of the text
abbrev pub names_fault : List Column → Query → Option NameFault
names_fault columns q = first_fault (
    unknown_fault columns (flat_map item_names (items_of q.list))
    ∷ unknown_fault columns (where_names q.cond)
    ∷ unknown_fault columns q.groups
    ∷ unknown_fault columns (flat_map item_names (map key_item q.keys))
    ∷ [])

-- the first of the wrong kinds, in the order of the text
abbrev pub kinds_fault : List Column → Query → Option NameFault
kinds_fault columns q = first_fault (
    first_fault (map (item_fault columns) (items_of q.list))
    ∷ values_fault columns (where_values q.cond)
    ∷ first_fault (map (item_fault columns) (map key_item q.keys))
    ∷ [])

-- In the order of the checks: names, then kinds, then grouping.
abbrev pub query_fault : List Column → Query → Option NameFault
query_fault columns q = first_fault (names_fault columns q ∷ kinds_fault columns q ∷ grouped_fault columns q ∷ [])

-- `*` is every column
abbrev pub list_of : List Column → ListPart → List (ItemOf ℕ)
list_of columns list.Star = map item.Column (range_with_len 0 (length columns))
list_of columns (list.Items items) = map (item_of columns) items

-- the bound form of a query on the table of this number
abbrev pub bound_of : ℕ → List Column → Query → Bound
bound_of table columns q = record {
  table = table;
  asked = q.asked;
  filter = filter_of columns q.cond;
  items = list_of columns q.list;
  groups = map (number_of columns) q.groups;
  keys = map (key_of columns) q.keys;
  grouped = is_grouped q;
}
