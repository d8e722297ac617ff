use Rattle.std.proofs.Common.{◌≡◌, ℕ, ◌==◌, false, List, [], sym, subst, arith}
use Rattle.std.proofs.lemmas.Bool.Decides.{nat_tests}
use Rattle.im_history.specs.declared.change.Change.{Change}
use Rattle.im_history.specs.Last.{Slot, AreLast, changes_of}
use Rattle.im_history.specs.Puts.{all_changes}
use Rattle.im_history.proofs.LastLaws.{own-last, other-last, none-within}
use Rattle.im_history.proofs.own.OwnChanges.between.Goals as goal

pub returns-then-table-self : goal.returns-then-table-self
returns-then-table-self c =
    let changes = all_changes c.self.inside.pending.value.items in
    let same : c.args.table ≡ c.self.inside.table = c.if-table-self.true in
    subst (λ (own : List Change). AreLast own c.args.table c.args.first c.args.count c.between.result) c.self.view_is
    (subst (λ (table : ℕ). AreLast (changes_of c.self.inside.table changes) table c.args.first c.args.count c.between.result) (sym same)
    (own-last changes c.self.inside.last c.between.result c.self.inside.table c.args.first c.args.count c.self.invariant c.between.ensures.found
    c.between.ensures.each c.between.ensures.within))

pub returns-else-table-self : goal.returns-else-table-self
returns-else-table-self c =
    let changes = all_changes c.self.inside.pending.value.items in
    let none : c.between-else-table-self.result ≡ [] = none-within c.between-else-table-self.result c.args.first c.between-else-table-self.ensures.within in
    let apart : (c.args.table == c.self.inside.table) ≡ false = let other = c.if-table-self.false in grind (arith, nat_tests, other) in
    subst (λ (own : List Change). AreLast own c.args.table c.args.first c.args.count c.between-else-table-self.result) c.self.view_is
    (subst (λ (slots : List Slot). AreLast (changes_of c.self.inside.table changes) c.args.table c.args.first c.args.count slots) (sym none)
    (other-last changes c.self.inside.table c.args.table c.args.first c.args.count apart))
