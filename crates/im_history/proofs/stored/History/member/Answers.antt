use Rattle.std.proofs.Common.{◌≡◌, ◌-◌, List, Option, Some, Result, Ok, Err, IfOk, slice_get, take, sym, ap, ◌∙◌, arith}
use Rattle.std.proofs.lemmas.Result.{err_from_is_err_and}
use Rattle.im_history.specs.declared.change.Change.{Change}
use Rattle.im_history.specs.declared.member.Member.{Member}
use Rattle.im_history.specs.declared.member.Member.TheVariants as member
use Rattle.im_values.specs.declared.no_memory.NoMemory.{NoMemory}
use Rattle.im_history.specs.Commits.{member_by, members}
use Rattle.im_history.specs.Stored.{Stored}
use Rattle.im_history.proofs.PlaceLaws.{IsCommit, commit-is, commit-pending, commit-there, commits-few}
use Rattle.im_history.proofs.stored.History.member.Goals as goal

-- what was made is the commit
made : (result : Result Member NoMemory) (member : Member) (there : Option Member) → IfOk result (λ made. made ≡ member) → there ≡ Some member
    → IfOk result (λ made. there ≡ Some made)
made (Ok other) member there is at = at ∙ ap Some (sym is)
made (Err e) member there is at = tt

pub commit-place-requires : goal.commit-place-requires
commit-place-requires g c =
    let same : c.self.inside.entries.items ≡ c.args.self.now.entries = ap (λ (s : Stored). s.entries) c.self.view_is in
    commits-few c.self.inside.places c.self.inside.entries.items c.args.n c.self.invariant.2 c.requires.first (rw same c.requires.last)

pub entry-entry-requires : goal.entry-entry-requires
entry-entry-requires g c =
    let same : c.self.inside.entries.items ≡ c.args.self.now.entries = ap (λ (s : Stored). s.entries) c.self.view_is in
    rw (← same)
    (commit-there c.self.inside.places c.self.inside.entries.items (c.args.n - 1) c.commit-place.result c.self.invariant.2 c.commit-place.ensures).within

pub returns-in_err-writes-in_default : goal.returns-in_err-writes-in_default
returns-in_err-writes-in_default g c =
    let same : c.self.inside.entries.items ≡ c.args.self.now.entries = ap (λ (s : Stored). s.entries) c.self.view_is in
    let commit : IsCommit c.args.self.now.entries (c.args.n - 1) c.commit-place.result =
    rw (← same)
    (commit-there c.self.inside.places c.self.inside.entries.items (c.args.n - 1) c.commit-place.result c.self.invariant.2 c.commit-place.ensures) in
    let pending =
    commit-pending c.args.self.now.entries (c.args.n - 1) c.commit-place.result c.entry-entry.result.now commit c.entry-entry.ensures.entry
    c.in_default.not-Create c.in_default.not-Add in
    let count = pending.count in
    let step = c.entry-entry.ensures.step in
    let few = c.writes_before.ensures.steps c.entry-entry.result.now c.entry-entry.ensures.entry in
    let failed = err_from_is_err_and c.from_residual.result c.from_residual.ensures.1 in
    record { member = rw failed.1 tt; steps = omega (arith, count, step, few) }

pub returns-in-Create-clause-member : goal.returns-in-Create-clause-member
returns-in-Create-clause-member g c =
    let same : c.self.inside.entries.items ≡ c.args.self.now.entries = ap (λ (s : Stored). s.entries) c.self.view_is in
    let commit : IsCommit c.args.self.now.entries (c.args.n - 1) c.commit-place.result =
    rw (← same)
    (commit-there c.self.inside.places c.self.inside.entries.items (c.args.n - 1) c.commit-place.result c.self.invariant.2 c.commit-place.ensures) in
    made c.created.result (member.Create c.in-Create.name c.in-Create.schema c.in-Create.shape)
    (slice_get (members c.args.self.now.entries) (c.args.n - 1)) c.created.ensures
    (commit-is c.args.self.now.entries (c.args.n - 1) c.commit-place.result c.entry-entry.result.now
    (member.Create c.in-Create.name c.in-Create.schema c.in-Create.shape) commit c.entry-entry.ensures.entry
    (ap (member_by (take c.commit-place.result c.args.self.now.entries) c.entry-entry.result.now.who) c.in-Create.is))

pub returns-in-Add-clause-member : goal.returns-in-Add-clause-member
returns-in-Add-clause-member g c =
    let same : c.self.inside.entries.items ≡ c.args.self.now.entries = ap (λ (s : Stored). s.entries) c.self.view_is in
    let commit : IsCommit c.args.self.now.entries (c.args.n - 1) c.commit-place.result =
    rw (← same)
    (commit-there c.self.inside.places c.self.inside.entries.items (c.args.n - 1) c.commit-place.result c.self.invariant.2 c.commit-place.ensures) in
    made c.added.result (member.Add c.in-Add.table c.in-Add.column c.in-Add.default)
    (slice_get (members c.args.self.now.entries) (c.args.n - 1)) c.added.ensures
    (commit-is c.args.self.now.entries (c.args.n - 1) c.commit-place.result c.entry-entry.result.now
    (member.Add c.in-Add.table c.in-Add.column c.in-Add.default) commit c.entry-entry.ensures.entry
    (ap (member_by (take c.commit-place.result c.args.self.now.entries) c.entry-entry.result.now.who) c.in-Add.is))

pub returns-in_ok-writes-in_default : goal.returns-in_ok-writes-in_default
returns-in_ok-writes-in_default g c =
    let same : c.self.inside.entries.items ≡ c.args.self.now.entries = ap (λ (s : Stored). s.entries) c.self.view_is in
    let commit : IsCommit c.args.self.now.entries (c.args.n - 1) c.commit-place.result =
    rw (← same)
    (commit-there c.self.inside.places c.self.inside.entries.items (c.args.n - 1) c.commit-place.result c.self.invariant.2 c.commit-place.ensures) in
    let pending =
    commit-pending c.args.self.now.entries (c.args.n - 1) c.commit-place.result c.entry-entry.result.now commit c.entry-entry.ensures.entry
    c.in_default.not-Create c.in_default.not-Add in
    let count = pending.count in
    let step = c.entry-entry.ensures.step in
    let few = c.writes_before.ensures.steps c.entry-entry.result.now c.entry-entry.ensures.entry in
    let told = c.in_ok-writes-in_default.ensures.writes c.entry-entry.result.now c.entry-entry.ensures.entry in
    record {
      member = pending.member ∙ ap (λ (changes : List Change). Some (member.Changes changes)) (sym (c.of.ensures ∙ told));
      steps = omega (arith, count, step, few);
    }
