-- Laws for callers: what calls in a row do to a source and to a sink.
use Rattle.std.proofs.Common.{◌≡◌, ℕ, ◌+◌, ◌-◌, List, [], ◌++◌, None, Some, IfSome, length, take, drop, refl, ap, sym, ◌∙◌, append_assoc, append-nil}
use Rattle.std.proofs.lemmas.List.{take_rest}
use Rattle.std.proofs.Math.Seq.{take-add}
use Rattle.std.specs.Prelude.{Option}
use Rattle.std.specs.Io.KnownBytes.{prepend_known, append_known}
use Rattle.im_edge.specs.Reading.{Gave}
use Rattle.im_edge.specs.Source.{IsSpent}
use Rattle.im_edge.specs.Writing.{Took}

-- before any byte came
pub Gave-nil : (a : Option (List ℕ)) → Gave a a []
Gave-nil None = refl
Gave-nil (Some left) = refl

-- two reads in a row
pub Gave-append : (a b c : Option (List ℕ)) (xs ys : List ℕ) → Gave a b xs → Gave b c ys → Gave a c (xs ++ ys)
Gave-append a b None xs ys p q = p ∙ ap (prepend_known xs) q
Gave-append a b (Some left) xs ys p q = p ∙ ap (prepend_known xs) q ∙ ap (λ l. Some l) (sym (append_assoc xs ys left))

-- a source that is at its end gave all that it had
pub Gave-all : (a b : Option (List ℕ)) (xs : List ℕ) → Gave a b xs → IsSpent b → IfSome a (λ left. left ≡ xs)
Gave-all a None xs p spent = rw p tt
Gave-all a (Some left) xs p spent = rw p (rw spent (append-nil xs))

-- before any byte was taken
pub Took-nil : (a : Option (List ℕ)) → Took a a []
Took-nil None = refl
Took-nil (Some taken) = ap (λ l. Some l) (sym (append-nil taken))

-- two texts in a row
pub Took-append : (a b c : Option (List ℕ)) (xs ys : List ℕ) → Took a b xs → Took b c ys → Took a c (xs ++ ys)
Took-append None b c xs ys p q = q ∙ ap (λ o. append_known o ys) p
Took-append (Some taken) b c xs ys p q = q ∙ ap (λ o. append_known o ys) p ∙ ap (λ l. Some l) (append_assoc taken xs ys)

-- a write of what is behind the first bytes of a text
pub Took-more : (a b c : Option (List ℕ)) (text : List ℕ) (done count : ℕ) → Took a b (take done text)
    → Took b c (take count (take (length text - done) (drop done text))) → Took a c (take (done + count) text)
Took-more a b c text done count p q =
    let rest : take (length text - done) (drop done text) ≡ drop done text = take_rest text done in
    rw take-add (Took-append a b c (take done text) (take count (drop done text)) p (rw rest at q))
