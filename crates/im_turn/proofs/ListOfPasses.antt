-- Joining one more of a list of passes.
use Rattle.std.proofs.Common.{◌≡◌, ℕ, List, [], ◌∷◌, ◌++◌, map, All, sym, ap, ◌∙◌, append_assoc}
use Rattle.std.proofs.lemmas.List.{map-append}
use Rattle.std.proofs.lemmas.List.Elements.{All-push, All-weaker}
use Rattle.im_turn.specs.Logs.{Begins}
use Rattle.im_turn.specs.Passes.{PassState}
use Rattle.im_turn.proofs.LogLemmas.{begins_trans}

module _ {Item : Type 0} where
  -- what is kept of a pass that was joined
  abbrev pub old_of : PassState Item → ℕ × List Item
  old_of other = (other.who, other.mine)

  -- the first pass, when it has seen this much and these have joined
  abbrev pub with_joined : PassState Item → List Item → List (ℕ × List Item) → PassState Item
  with_joined first seen olds = record first { seen = seen; olds = olds }

  -- the first pass, when one more has joined
  pub joined_more : (first before after other : PassState Item) (top : List Item) (joined : List (PassState Item))
      → before ≡ with_joined first before.seen (first.olds ++ map old_of joined)
      → after ≡ with_joined before top (before.olds ++ old_of other ∷ [])
      → after ≡ with_joined first after.seen (first.olds ++ map old_of (joined ++ other ∷ []))
  joined_more first before after other top joined so_far step =
      let olds = first.olds ++ map old_of joined in
      let last = old_of other ∷ [] in
      let both : after ≡ with_joined first top (olds ++ last) = step ∙ ap (λ (p : PassState Item). with_joined p top (p.olds ++ last)) so_far in
      let all : olds ++ last ≡ first.olds ++ map old_of (joined ++ other ∷ []) =
      append_assoc first.olds (map old_of joined) last ∙ ap (λ l. first.olds ++ l) (sym (map-append old_of joined (other ∷ []))) in
      both ∙ (ap (λ l. with_joined first top l) all
      ∙ ap (λ (s : List Item). with_joined first s (first.olds ++ map old_of (joined ++ other ∷ [])))
      (sym (ap (λ (p : PassState Item). p.seen) both)))

  -- and what that one has seen begins what is seen now
  pub begins_more : (before after : List Item) (joined : List (PassState Item)) (other : PassState Item)
      → Begins before after → Begins other.seen after
      → All (λ (p : PassState Item). Begins p.seen before) joined → All (λ (p : PassState Item). Begins p.seen after) (joined ++ other ∷ [])
  begins_more before after joined other goes_on last so_far =
      let P : List Item → PassState Item → Type 0 = λ log p. Begins p.seen log in
      All-push (P after) joined other (All-weaker (P before) (P after) (λ p b. begins_trans b goes_on) joined so_far) last
