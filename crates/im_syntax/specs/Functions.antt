-- The functions of aggregates: how each is written, and what it goes over.
use Rattle.std.specs.Prelude.{Bool, true, false, Option, Some, None}
use Rattle.im_syntax.specs.declared.keyword.Keyword.{Keyword}
use Rattle.im_syntax.specs.declared.keyword.Keyword.TheVariants as key
use Rattle.im_syntax.specs.declared.item.Function.{Function}
use Rattle.im_syntax.specs.declared.item.Function.TheVariants as function
use Rattle.im_syntax.specs.declared.item.ItemOf.{ItemOf}
use Rattle.im_syntax.specs.declared.item.ItemOf.TheVariants as item

-- the keyword that a function is written by
abbrev pub keyword_of : Function → Keyword
keyword_of function.Count = key.Count
keyword_of function.Sum = key.Sum
keyword_of function.Min = key.Min
keyword_of function.Max = key.Max

-- the function that is written by a keyword
abbrev pub function_of : Keyword → Option Function
function_of key.Count = Some function.Count
function_of key.Sum = Some function.Sum
function_of key.Min = Some function.Min
function_of key.Max = Some function.Max
function_of k = None

-- it adds values up, and so goes over no texts; the others go over each kind
abbrev pub adds : Function → Bool
adds function.Sum = true
adds f = false

-- the item is an aggregate
abbrev pub is_aggregate : {C : Type 0} → ItemOf C → Bool
is_aggregate (item.Column column) = false
is_aggregate item.CountAll = true
is_aggregate (item.Aggregate f column) = true
