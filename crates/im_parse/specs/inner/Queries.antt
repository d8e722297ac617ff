-- How a query is read.
use Rattle.std.specs.Prelude.{ℕ, Bool, true, false, cond, ◌||◌, List, [], Option, Some, None}
use Rattle.im_readers.specs.Reading.{Read, nothing, mark, one, both, made, after, before, optional, picked, joined}
use Rattle.im_syntax.specs.declared.keyword.Keyword.TheVariants as key
use Rattle.im_syntax.specs.declared.token.Token.{Token}
use Rattle.im_syntax.specs.declared.literal.Lit.{Lit}
use Rattle.im_syntax.specs.declared.item.Function.{Function}
use Rattle.im_syntax.specs.declared.item.Function.TheVariants as function
use Rattle.im_syntax.specs.declared.item.ItemOf.{ItemOf}
use Rattle.im_syntax.specs.declared.item.ItemOf.TheVariants as item
use Rattle.im_syntax.specs.Functions.{keyword_of, function_of}
use Rattle.im_syntax.specs.declared.query.Way.{Way}
use Rattle.im_syntax.specs.declared.query.Way.TheVariants as way
use Rattle.im_syntax.specs.declared.query.KeyPart.{KeyPart}
use Rattle.im_syntax.specs.declared.query.ListPart.{ListPart}
use Rattle.im_syntax.specs.declared.query.ListPart.TheVariants as list
use Rattle.im_syntax.specs.declared.query.Query.{Query}
use Rattle.im_syntax.specs.Condition.{CondOf}
use Rattle.im_syntax.specs.declared.limits.TheConstants.{LAST_SCN}
use Rattle.im_values.specs.declared.limits.TheConstants.{MOST_LEVELS}
use Rattle.im_parse.specs.inner.Marks.{is_key, Lead, keyword, name, lead, is_left, is_right, is_comma, is_star, after_word, before_word, name_at, number_at}
use Rattle.im_parse.specs.inner.Conditions.{cond_at}

-- a list that may be left out
abbrev pub listed : {A : Type 0} → Option (List A) → List A
listed None = []
listed (Some xs) = xs

-- ---- items

-- what a function goes over: a column, and COUNT over all rows where a star stands
abbrev pub operand_by : Function → (star : Bool) → List Token → Read Token (ItemOf (List ℕ))
operand_by function.Count true = made (λ u. item.CountAll) (mark is_star)
operand_by f true = nothing
operand_by f false = made (item.Aggregate f) name_at

unfoldable pub operand_at : Function → List Token → Read Token (ItemOf (List ℕ))
operand_at f = picked is_star (operand_by f)

-- a function of what stands in parentheses behind its keyword
unfoldable pub call_at : Function → List Token → Read Token (ItemOf (List ℕ))
call_at f = after_word (keyword_of f) (after is_left (before (operand_at f) is_right))

abbrev pub called_by : Option Function → List Token → Read Token (ItemOf (List ℕ))
called_by (Some f) = call_at f
called_by None = nothing

abbrev pub item_by : Lead → List Token → Read Token (ItemOf (List ℕ))
item_by (keyword k) = called_by (function_of k)
item_by name = made item.Column name_at
item_by l = nothing

unfoldable pub item_at : List Token → Read Token (ItemOf (List ℕ))
item_at = picked lead item_by

-- ---- keys

-- a direction that is written
abbrev pub direction_of : Token → Option Bool
direction_of t = cond (is_key key.Asc t) (Some false) (cond (is_key key.Desc t) (Some true) None)

abbrev pub is_direction : Token → Bool
is_direction t = is_key key.Asc t || is_key key.Desc t

abbrev pub way_of : Option Bool → Way
way_of None = way.Unsaid
way_of (Some false) = way.Asc
way_of (Some true) = way.Desc

unfoldable pub way_at : List Token → Read Token Way
way_at = made way_of (optional is_direction (one direction_of))

abbrev pub key_of : ItemOf (List ℕ) × Way → KeyPart
key_of x = record { item = x.0; way = x.1 }

unfoldable pub key_at : List Token → Read Token KeyPart
key_at = made key_of (both item_at way_at)

-- ---- queries

abbrev pub list_by : (star : Bool) → List Token → Read Token ListPart
list_by true = made (λ u. list.Star) (mark is_star)
list_by false = made list.Items (joined is_comma item_at)

unfoldable pub list_at : List Token → Read Token ListPart
list_at = picked is_star list_by

-- AS OF SCN and its number, where it is written
unfoldable pub asked_at : List Token → Read Token (Option ℕ)
asked_at = optional (is_key key.As) (after_word key.As (after_word key.Of (after_word key.Scn (number_at 0 LAST_SCN))))

unfoldable pub where_at : List Token → Read Token (Option (CondOf (List ℕ) Lit))
where_at = optional (is_key key.Where) (after_word key.Where (cond_at MOST_LEVELS))

unfoldable pub groups_at : List Token → Read Token (List (List ℕ))
groups_at = made listed (optional (is_key key.Group) (after_word key.Group (after_word key.By (joined is_comma name_at))))

unfoldable pub keys_at : List Token → Read Token (List KeyPart)
keys_at = made listed (optional (is_key key.Order) (after_word key.Order (after_word key.By (joined is_comma key_at))))

abbrev pub query_of : ListPart × (List ℕ × (Option ℕ × (Option (CondOf (List ℕ) Lit) × (List (List ℕ) × List KeyPart)))) → Query
query_of x = record { list = x.0; table = x.1.0; asked = x.1.1.0; cond = x.1.1.1.0; groups = x.1.1.1.1.0; keys = x.1.1.1.1.1 }

unfoldable pub query_at : List Token → Read Token Query
query_at =
    made query_of
    (after_word key.Select (both (before_word list_at key.From) (both name_at (both asked_at (both where_at (both groups_at keys_at))))))
