use Rattle.std.proofs.Common.{◌≡◌, ◌≤◌, ◌∙◌, Some, List, ℕ, ap, arith, drop, length, refl, take}
use Rattle.std.proofs.lemmas.List.{take_rest}
use Rattle.im_edge.proofs.Copies.{copied}
use Rattle.im_edge.proofs.from_memory.source.MemSourceSource.read.Goals as goal

pub returns-clause-content : goal.returns-clause-content
returns-clause-content c =
    let all : List ℕ = c.self.inside.bytes.items in
    let at : ℕ = c.self.inside.at in
    let count : ℕ = c.min-count.result in
    let rest : c.deref.result.now ≡ all = c.deref.ensures.value in
    let behind = take_rest all at in
    let few : count ≤ length (drop at all) = grind (arith, behind) in
    let front : c.copy_from_slice.new.self ≡ take count (drop at all) = c.copy_from_slice.ensures.after ∙ cc in
    let was : c.args.self.now.left ≡ drop at all = rw (← c.self.view_is) refl in
    ap (λ l. Some l) (was ∙ copied all c.args.buf.now c.copy_from_slice.new.self at count few front)
