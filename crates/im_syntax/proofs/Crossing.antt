-- Which types of the language may cross threads: a bound query may be handed to one, and a statement may be read by several.
use Rattle.std.specs.Prelude.{[], ◌∷◌}
use denote.RattleType.{RattleType}
use denote.Builtin.{u32}
use denote.Hole.{as_row}
use denote.Plain.{UInt}
use denote.Param.Send.{IsSend, IsSync, sendable, view_send, view_sync}
use denote.Param.SendFields.{as_row_sync, declared_send, declared_sync, variants_sync}
use denote.Struct.Field.{u32-field, u64-field}
use denote.Struct.Tuple.{Tuple}
use mir.Syntax.{w32}
use Rattle.std.proofs.Crossing.{crosses}
use Rattle.std.specs.contracts.option.Option as option
use Rattle.im_values.specs.contracts.list.List as list
use Rattle.im_values.specs.contracts.list.List.TheInside as inside
use Rattle.im_values.specs.contracts.name.Name as name
use Rattle.im_values.specs.contracts.value.Value as value
use Rattle.im_values.specs.contracts.rows.Rows as rows
use Rattle.im_syntax.specs.contracts.bound.Bound as bound
use Rattle.im_syntax.specs.contracts.bound.Key as key
use Rattle.im_syntax.specs.contracts.choices.Choices as choices
use Rattle.im_syntax.specs.contracts.condition.CondOf as condition
use Rattle.im_syntax.specs.contracts.even.EvenTuples as even
use Rattle.im_syntax.specs.contracts.item.ItemOf as item
use Rattle.im_syntax.specs.contracts.literal.Lit as literal
use Rattle.im_syntax.specs.contracts.query.KeyPart as key_part
use Rattle.im_syntax.specs.contracts.query.ListPart as list_part
use Rattle.im_syntax.specs.contracts.query.Query as query
use Rattle.im_syntax.specs.contracts.statement.Stmt as statement
use Rattle.im_syntax.specs.contracts.table.ColumnPart as column_part
use Rattle.im_syntax.specs.contracts.table.MemoryPart as memory_part
use Rattle.im_syntax.specs.contracts.tuples.Tuples as tuples
use Rattle.im_syntax.proofs.CrossingConditions.{condition_send, condition_sync}

-- ---- values

pub name_send : IsSend name.the_row
name_send = search (sendable, crosses) depth 60 fits 10000

pub name_sync : IsSync name.the_row
name_sync = search (sendable, crosses) depth 60 fits 10000

pub value_send : IsSend value.the_row
value_send = search (sendable, crosses, name_send) depth 60 fits 10000

pub list_send : (T : RattleType) → IsSend T → IsSend (list.the_row T)
list_send T s = view_send _ _ _ _ _ (declared_send (inside.the_type T) (search (sendable, crosses) depth 60 fits 10000, tt))

pub list_sync : (T : RattleType) → IsSync T → IsSync (list.the_row T)
list_sync T s = view_sync _ _ _ _ _ (declared_sync (inside.the_type T) (search (sendable, crosses) depth 60 fits 10000, tt))

-- ---- a bound query

pub item_send : IsSend (item.the_row (UInt w32))
item_send = search (sendable, crosses) depth 60 fits 10000

key_send : IsSend key.the_row
key_send = search (sendable, crosses) depth 60 fits 10000

choices_send : IsSend choices.the_row
choices_send = search (sendable, crosses, value_send) depth 60 fits 10000

filter_send : IsSend (condition.the_row (UInt w32) value.the_row choices.the_row)
filter_send = condition_send (UInt w32) value.the_row choices.the_row (search (sendable, crosses) depth 60 fits 10000) value_send choices_send

pub bound_send : IsSend bound.the_row
bound_send = search (sendable, crosses, filter_send, item_send, key_send, list_send) depth 60 fits 10000

-- ---- a statement

literal_sync : IsSync literal.the_row
literal_sync = search (sendable, crosses, name_sync) depth 60 fits 10000

written_sync : IsSync (condition.the_row name.the_row literal.the_row (list.the_row literal.the_row))
written_sync = condition_sync name.the_row literal.the_row (list.the_row literal.the_row) name_sync literal_sync (list_sync literal.the_row literal_sync)

item_part_sync : IsSync (item.the_row name.the_row)
item_part_sync = search (sendable, crosses, name_sync) depth 60 fits 10000

key_part_sync : IsSync key_part.the_row
key_part_sync = search (sendable, crosses, name_sync) depth 60 fits 10000

list_part_sync : IsSync list_part.the_row
list_part_sync = search (sendable, crosses, list_sync, item_part_sync) depth 60 fits 10000

column_part_sync : IsSync column_part.the_row
column_part_sync = search (sendable, crosses, name_sync) depth 60 fits 10000

memory_part_sync : IsSync memory_part.the_row
memory_part_sync = search (sendable, crosses) depth 60 fits 10000

query_sync : IsSync query.the_row
query_sync = search (sendable, crosses, name_sync, written_sync, list_sync, key_part_sync) depth 60 fits 10000

u32_sync : IsSync (as_row u32-field)
u32_sync = search (sendable, crosses) depth 60 fits 10000

u64_sync : IsSync (as_row u64-field)
u64_sync = search (sendable, crosses) depth 60 fits 10000

shape_sync : IsSync (as_row (option.the_field u32))
shape_sync = search (sendable, crosses) depth 60 fits 10000

memory_sync : IsSync (as_row (option.the_field memory_part.the_row))
memory_sync = search (sendable, crosses, memory_part_sync) depth 60 fits 10000

condition_part_sync : IsSync (as_row (option.the_field (condition.the_row name.the_row literal.the_row (list.the_row literal.the_row))))
condition_part_sync = search (sendable, crosses, written_sync) depth 60 fits 10000

sets_sync : IsSync (as_row (list.the_field (Tuple (name.the_row ∷ literal.the_row ∷ []))))
sets_sync = as_row_sync (list.the_field (Tuple (name.the_row ∷ literal.the_row ∷ []))) (list_sync (Tuple (name.the_row ∷ literal.the_row ∷ []))
    (search (sendable, crosses, name_sync, literal_sync) depth 60 fits 10000))

columns_sync : IsSync (as_row (list.the_field column_part.the_row))
columns_sync = as_row_sync (list.the_field column_part.the_row) (list_sync column_part.the_row column_part_sync)

default_sync : IsSync (as_row (option.the_field literal.the_row))
default_sync = search (sendable, crosses, literal_sync) depth 60 fits 10000

names_sync : IsSync (as_row (list.the_field name.the_row))
names_sync = as_row_sync (list.the_field name.the_row) (list_sync name.the_row name_sync)

value_sync : IsSync value.the_row
value_sync = search (sendable, crosses, name_sync) depth 60 fits 10000

rows_sync : IsSync rows.the_row
rows_sync = search (sendable, crosses, value_send, value_sync) depth 60 fits 10000

even_sync : IsSync even.the_row
even_sync = search (sendable, crosses, rows_sync) depth 60 fits 10000

written_tuples_sync : IsSync (list.the_row (list.the_row literal.the_row))
written_tuples_sync = list_sync (list.the_row literal.the_row) (list_sync literal.the_row literal_sync)

tuples_sync : IsSync (as_row tuples.the_field)
tuples_sync = as_row_sync tuples.the_field (search (sendable, crosses, even_sync, written_tuples_sync) depth 60 fits 10000)

named_sync : IsSync (as_row name.the_field)
named_sync = as_row_sync name.the_field name_sync

pub statement_sync : IsSync statement.the_row
statement_sync = variants_sync statement.enum
    (search (
      tt,
      query_sync,
      named_sync,
      u32_sync,
      u64_sync,
      columns_sync,
      shape_sync,
      memory_sync,
      memory_part_sync,
      column_part_sync,
      default_sync,
      names_sync,
      tuples_sync,
      sets_sync,
      condition_part_sync,
    ) depth 60)

-- for searches above
pub ruleset spoken = (name_send, name_sync, value_send, list_send, list_sync, item_send, bound_send, statement_sync)
