use Rattle.std.proofs.Common.{◌≡◌, ◌∙◌, false, is_some, true, ap, sym}
use Rattle.im_history.specs.declared.look.Look.{Look}
use Rattle.im_history.specs.Transactions.{is_open}
use Rattle.im_session.proofs.NameLemmas.{definition-alone, definition-committed, idle-commit, shut-commit}
use Rattle.im_session.proofs.RestLemmas.{rest-lacks, rest-look}
use Rattle.im_session.proofs.ScanLemmas.{own-went, speaks-went, went-found, went-log}
use Rattle.im_session.proofs.statement.define.Goals as goal
use Rattle.im_statements.specs.Statements.{definition_plan}

pub returns-in_default : goal.returns-in_default
returns-in_default g c = λ state.
    rw c.out_of_memory.ensures
    (rest-lacks c.args.context.now.who 0 (g.H.Reach.known c.args.reach.now) (g.H.Reach.known c.look.new.self) _
    (definition_plan (g.H.Reach.known c.args.reach.now).limits c.args.context.now.who state c.args.statement.now) c.requires.speaks c.requires.shut
    c.in_default.ensures.err)

pub define_named-reply-requires-clause-shut : goal.define_named-reply-requires-clause-shut
define_named-reply-requires-clause-shut g c =
    own-went c.args.context.now.who (g.H.Reach.known c.args.reach.now) (g.H.Reach.known c.look.new.self) c.requires.speaks
    (went-found (g.H.Reach.known c.args.reach.now) (g.H.Reach.known c.look.new.self) _ c.in-Ok.ensures.ok) c.requires.shut

pub returns-then-is_none : goal.returns-then-is_none
returns-then-is_none g c = λ state.
    let look_is = went-log (g.H.Reach.known c.args.reach.now) (g.H.Reach.known c.look.new.self) _ c.in-Ok.ensures.ok in
    let idle : is_open (g.H.Reach.known c.look.new.self).log c.args.context.now.who ≡ false =
    sym (ap (λ (l : Look). is_some l.begun) look_is) ∙ c.if-is_none.ensures in
    definition-alone c.args.context.now.who (g.H.Reach.known c.args.reach.now) (g.H.Reach.known c.look.new.self) (g.H.Reach.known c.define_named-reply.new.reach) _
    state c.args.statement.now _ c.in-Ok.ensures.ok idle (c.define_named-reply.ensures state)

pub define_later-requires-clause-shut : goal.define_later-requires-clause-shut
define_later-requires-clause-shut g c =
    let went = went-found (g.H.Reach.known c.args.reach.now) (g.H.Reach.known c.look.new.self) _ c.in-Ok.ensures.ok in
    shut-commit c.args.context.now.who (g.H.Reach.known c.look.new.self) (g.H.Reach.known c.commit.new.self) _
    (speaks-went c.args.context.now.who (g.H.Reach.known c.args.reach.now) (g.H.Reach.known c.look.new.self) went c.requires.speaks)
    c.in-Ok-commit.ensures.ok
    (own-went c.args.context.now.who (g.H.Reach.known c.args.reach.now) (g.H.Reach.known c.look.new.self) c.requires.speaks went c.requires.shut)

pub define_later-requires-clause-idle : goal.define_later-requires-clause-idle
define_later-requires-clause-idle g c =
    let went = went-found (g.H.Reach.known c.args.reach.now) (g.H.Reach.known c.look.new.self) _ c.in-Ok.ensures.ok in
    idle-commit c.args.context.now.who (g.H.Reach.known c.look.new.self) (g.H.Reach.known c.commit.new.self) _
    (speaks-went c.args.context.now.who (g.H.Reach.known c.args.reach.now) (g.H.Reach.known c.look.new.self) went c.requires.speaks)
    c.in-Ok-commit.ensures.ok

pub returns-in-Ok-commit : goal.returns-in-Ok-commit
returns-in-Ok-commit g c = λ state.
    let look_is = went-log (g.H.Reach.known c.args.reach.now) (g.H.Reach.known c.look.new.self) _ c.in-Ok.ensures.ok in
    let open_now : is_open (g.H.Reach.known c.look.new.self).log c.args.context.now.who ≡ true =
    sym (ap (λ (l : Look). is_some l.begun) look_is) ∙ c.if-is_none.ensures in
    definition-committed c.args.context.now.who (g.H.Reach.known c.args.reach.now) (g.H.Reach.known c.look.new.self) (g.H.Reach.known c.commit.new.self)
    (g.H.Reach.known c.define_later.new.reach) _ _ state c.args.statement.now _ c.in-Ok.ensures.ok open_now c.in-Ok-commit.ensures.ok
    (c.define_later.ensures state)

pub returns-in-Err : goal.returns-in-Err
returns-in-Err g c = λ state.
    let went = went-found (g.H.Reach.known c.args.reach.now) (g.H.Reach.known c.look.new.self) _ c.in-Ok.ensures.ok in
    rw c.out_of_memory-in-Err.ensures
    (rest-look c.args.context.now.who 0 (g.H.Reach.known c.args.reach.now) (g.H.Reach.known c.look.new.self) (g.H.Reach.known c.commit.new.self) _ _ _
    c.in-Ok.ensures.ok
    (rest-lacks c.args.context.now.who 0 (g.H.Reach.known c.look.new.self) (g.H.Reach.known c.commit.new.self) _ _
    (speaks-went c.args.context.now.who (g.H.Reach.known c.args.reach.now) (g.H.Reach.known c.look.new.self) went c.requires.speaks)
    (own-went c.args.context.now.who (g.H.Reach.known c.args.reach.now) (g.H.Reach.known c.look.new.self) c.requires.speaks went c.requires.shut)
    c.in-Err.ensures.err))
