-- What crosses threads in a race: jobs go to them, and all of them read the lines and share the store.
use Rattle.std.specs.Prelude.{[], ◌∷◌}
use mir.Syntax.{Sym}
use denote.RattleType.{RattleType}
use denote.Builtin.{u32}
use denote.Hole.{as_row}
use denote.Param.Send.{IsSend, IsSync, sendable, view_send}
use denote.Param.SendFields.{as_row_send, as_row_sync, declared_send, declared_sync, variants_send, variants_sync}
use denote.Ref.{NamedLft}
use denote.Struct.Field.{row_field, bool-field, u32-field, u64-field}
use denote.Struct.Tuple.{TupleAt, type_at}
use Rattle.std.proofs.Crossing.{crosses}
use Rattle.std.specs.contracts.option.Option as option
use Rattle.im_values.specs.contracts.row.Row as row
use Rattle.im_values.specs.contracts.schema.Column as column
use Rattle.im_values.specs.contracts.schema.Schema as schema
use Rattle.im_syntax.proofs.Crossing.{bound_send, name_send, name_sync, statement_sync}
use Rattle.im_script.specs.contracts.line.Line as line
use Rattle.im_script.specs.contracts.line.LineKind as kind
use Rattle.im_group.specs.contracts.partial.Partial as partial
use Rattle.im_group.proofs.partial.Partial.TheSendSync as partial_crosses
use Rattle.im_history.specs.contracts.entry.Entry as entry
use Rattle.im_history.specs.contracts.own.OwnChanges as own
use Rattle.im_history.specs.contracts.view.View as view
use Rattle.im_history.proofs.last.LastRows.TheSendSync as last_crosses
use Rattle.im_unit.specs.contracts.unit.ColumnUnit as unit
use Rattle.im_unit.specs.contracts.unit.ColumnUnitUnitLike.TheImpl as like
use Rattle.im_unit.proofs.unit.ColumnUnit.TheSendSync as unit_crosses
use Rattle.im_turn.specs.contracts.pass.Pass as pass
use Rattle.im_turn.proofs.pass.Pass.TheSendSync as pass_crosses
use Rattle.im_store.specs.contracts.handed.Handed as handed
use Rattle.im_store.specs.contracts.handed.HandedLogged.TheImpl as logged
use Rattle.im_store.proofs.handed.Handed.TheSendSync as handed_crosses
use Rattle.im_store.specs.contracts.store.Store as store
use Rattle.im_store.proofs.store.Store.TheSendSync as store_crosses
use Rattle.im_session.specs.contracts.cursor.Cursor as cursor
use Rattle.im_session.specs.contracts.session.Session as session
use Rattle.im_session.specs.contracts.session.Session.TheInside as kept
use Rattle.im_edge.specs.contracts.outside.Outside as outside
use Rattle.im_edge.proofs.outside.Outside.TheSendSync as outside_crosses
use Rattle.im_race.specs.contracts.course.Course as course
use Rattle.im_race.specs.contracts.job.Job as job
use Rattle.im_race.specs.contracts.job.Player as player
use Rattle.im_race.specs.contracts.job.Post as post
use Rattle.im_race.proofs.course.RaceOptions.TheSendSync as options_cross
use Rattle.im_race.proofs.job.Done.TheSendSync as done_crosses

-- ---- numbers

u32_send : IsSend (as_row u32-field)
u32_send = search (sendable, crosses) depth 60 fits 10000

u64_send : IsSend (as_row u64-field)
u64_send = search (sendable, crosses) depth 60 fits 10000

flag_send : IsSend (as_row bool-field)
flag_send = search (sendable, crosses) depth 60 fits 10000

u32_sync : IsSync (as_row u32-field)
u32_sync = search (sendable, crosses) depth 60 fits 10000

u64_sync : IsSync (as_row u64-field)
u64_sync = search (sendable, crosses) depth 60 fits 10000

-- ---- a session

own_send : IsSend own.the_row
own_send = search (sendable, crosses, last_crosses.the_send) depth 60 fits 10000

column_send : IsSend column.the_row
column_send = search (sendable, crosses, name_send) depth 60 fits 10000

column_sync : IsSync column.the_row
column_sync = search (sendable, crosses, name_sync) depth 60 fits 10000

schema_send : IsSend schema.the_row
schema_send = search (sendable, crosses, column_send, column_sync) depth 60 fits 10000

row_send : IsSend row.the_row
row_send = search (sendable, crosses) depth 60 fits 10000

seen_send : IsSend view.the_row
seen_send =
    declared_send view.the_type (
      u64_send,
      (
        u32_send,
        (
          search (sendable, crosses) depth 60 fits 10000,
          (
            u64_send,
            (
              u64_send,
              (
                u64_send,
                (
                  u64_send,
                  (
                    as_row_send schema.the_field schema_send,
                    (
                      as_row_send row.the_field row_send,
                      (as_row_send own.the_field own_send, tt),
                    ),
                  ),
                ),
              ),
            ),
          ),
        ),
      ),
    )

cursor_send : IsSend cursor.the_row
cursor_send =
    declared_send cursor.the_type
    (u32_send, (bound_send, (seen_send, (u64_send, (as_row_send partial.the_field partial_crosses.the_send, tt)))))

session_send : IsSend session.the_row
session_send =
    view_send _ _ _ _ _
    (declared_send kept.the_type
    (search (sendable, crosses) depth 60 fits 10000, (u32_send, (search (sendable, crosses, cursor_send) depth 60 fits 10000, (flag_send, tt)))))

-- ---- a job

handed_send : IsSend (handed.the_row unit.the_row like.ghosts)
handed_send = handed_crosses.the_send unit.the_row like.ghosts unit_crosses.the_send unit_crosses.the_sync

pass_send : IsSend (pass.the_row (handed.the_row unit.the_row like.ghosts) entry.the_row (logged.ghosts unit.the_row like.ghosts logged.no_dict logged.no_dict))
pass_send =
    pass_crosses.the_send (handed.the_row unit.the_row like.ghosts) entry.the_row (logged.ghosts unit.the_row like.ghosts logged.no_dict logged.no_dict)
    handed_send

player_send : IsSend player.the_row
player_send = variants_send player.enum ((as_row_send session.the_field session_send, tt), (tt, tt))

job_send : IsSend job.the_row
job_send = declared_send job.the_type (u32_send, (as_row_send (row_field _) pass_send, (player_send, tt)))

pub post_send : IsSend post.the_row
post_send =
    declared_send post.the_type
    (search (sendable, crosses, job_send) depth 60 fits 10000, (search (sendable, crosses, done_crosses.the_send) depth 60 fits 10000, tt))

-- ---- what all of them read

kind_sync : IsSync kind.the_row
kind_sync =
    variants_sync kind.enum (tt, (tt, ((u64_sync, tt), ((u64_sync, tt), ((u32_sync, (statement_sync, tt)), ((statement_sync, tt), (tt, tt)))))))

who_sync : IsSync (as_row (option.the_field u32))
who_sync = search (sendable, crosses) depth 60 fits 10000

line_sync : IsSync line.the_row
line_sync = declared_sync line.the_type (u64_sync, (u64_sync, (who_sync, (kind_sync, tt))))

pub course_sync : (a : NamedLft) → IsSync (course.the_row a)
course_sync a =
    declared_sync (course.the_type a) (options_cross.the_sync, (search (sendable, crosses, line_sync) depth 60 fits 10000, (u32_sync, tt)))

pub store_sync : IsSync (store.the_row unit.the_row like.ghosts)
store_sync = store_crosses.the_sync unit.the_row like.ghosts unit_crosses.the_send unit_crosses.the_sync

pub outside_sync : (a : NamedLft) (R G : RattleType) → IsSync R → IsSync G → IsSync (outside.the_row a R G)
outside_sync a R G r g = outside_crosses.the_sync a R G r g

-- what a closure of three captures shares
pub captured_sync : (name : Sym) (A B C : RattleType) → IsSync A → IsSync B → IsSync C → IsSync (TupleAt name (A ∷ B ∷ C ∷ []))
captured_sync name A B C a b c =
    declared_sync (type_at name (A ∷ B ∷ C ∷ [])) (as_row_sync (row_field A) a, (as_row_sync (row_field B) b, (as_row_sync (row_field C) c, tt)))
