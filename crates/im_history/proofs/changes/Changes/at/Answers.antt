use Rattle.std.proofs.Common.{◌≡◌, ◌+◌, ◌^◌, ◌<◌, ◌≤◌, List, length, Some, sym, ap, ◌∙◌, subst, arith}
use Rattle.std.specs.Prelude.{slice_get}
use Rattle.std.proofs.lemmas.Option.{slice_get_read}
use Rattle.im_history.specs.declared.change.Change.{Change}
use Rattle.im_history.specs.inner.Forms.{changes_in, HasNumbers}
use Rattle.im_history.specs.Puts.{put_from}
use Rattle.im_history.proofs.PutLaws.{length-put_from, at-put_from}
use Rattle.im_history.proofs.changes.Changes.at.Goals as goal

pub overflow_add-result : goal.overflow_add-result
overflow_add-result c =
    let is : put_from c.in-Put.table c.in-Put.first c.in-Put.rows ≡ c.args.self.now = sym (ap changes_in c.in-Put.is) ∙ c.self.view_is in
    let long = sym (length-put_from c.in-Put.table c.in-Put.first c.in-Put.rows) ∙ ap length is in
    let within : c.args.place < length c.args.self.now = c.requires in
    let numbers : c.in-Put.first + length c.in-Put.rows ≤ 2 ^ 63 = subst HasNumbers c.in-Put.is c.self.invariant in
    omega (arith, long, within, numbers)

pub values-requires : goal.values-requires
values-requires c =
    let is : put_from c.in-Put.table c.in-Put.first c.in-Put.rows ≡ c.args.self.now = sym (ap changes_in c.in-Put.is) ∙ c.self.view_is in
    let long = sym (length-put_from c.in-Put.table c.in-Put.first c.in-Put.rows) ∙ ap length is in
    let within : c.args.place < length c.args.self.now = c.requires in
    omega (arith, long, within)

pub returns-in-Put : goal.returns-in-Put
returns-in-Put c =
    let is : put_from c.in-Put.table c.in-Put.first c.in-Put.rows ≡ c.args.self.now = sym (ap changes_in c.in-Put.is) ∙ c.self.view_is in
    let long = sym (length-put_from c.in-Put.table c.in-Put.first c.in-Put.rows) ∙ ap length is in
    let within : c.args.place < length c.args.self.now = c.requires in
    ap (λ (changes : List Change). slice_get changes c.args.place) (sym is)
    ∙ at-put_from c.in-Put.table c.in-Put.first c.in-Put.rows c.args.place c.values.result.now c.values.ensures

pub returns-in-Each : goal.returns-in-Each
returns-in-Each c =
    let is : c.in-Each.changes.items ≡ c.args.self.now = sym (ap changes_in c.in-Each.is) ∙ c.self.view_is in
    let within : c.args.place < length c.args.self.now = c.requires in
    let long = ap length is in
    ap (λ (changes : List Change). slice_get changes c.args.place) (sym is)
    ∙ (slice_get_read c.in-Each.changes.items c.in-Each.changes.len c.args.place c.index.result.now c.in-Each.changes.ok.0
    (let all = c.in-Each.changes.ok.0 in omega (arith, long, within, all)) c.index.ensures
    ∙ ap (λ (change : Change). Some change) (sym c.lent.ensures))
