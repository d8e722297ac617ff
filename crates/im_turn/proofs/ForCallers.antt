-- What callers need for the conditions of `give` and `close`. `LogLemmas` has more on logs.
use Rattle.std.proofs.Common.{◌≡◌, ℕ, List, [], ◌∷◌, ◌++◌, All, Contains, sym, ◌∙◌, subst}
use Rattle.std.proofs.lemmas.List.{append-nil}
use Rattle.std.proofs.lemmas.List.Elements.{All-nil, All-cons, All-contains_itself}
use Rattle.im_turn.specs.Logs.{GrewByOwn}
use Rattle.im_turn.specs.Passes.{numbers_of}

module _ {Item : Type 0} (who : Item → ℕ) (number : ℕ) where
  -- no entry was added
  pub grew_by_none : (log later : List Item) → later ≡ log → GrewByOwn who number log later
  grew_by_none log later same = record { added = []; is = same ∙ sym (append-nil log); own = All-nil (λ entry. who entry ≡ number) }

  -- one entry of this number was added
  pub grew_by_one : (log later : List Item) (entry : Item) → who entry ≡ number → later ≡ log ++ entry ∷ [] → GrewByOwn who number log later
  grew_by_one log later entry own is =
      let P : Item → Type 0 = λ e. who e ≡ number in
      record { added = entry ∷ []; is = is; own = All-cons P entry [] own (All-nil P) }

-- all passes have joined where they have done so in the order in which their numbers were given
pub all_joined : {Item : Type 0} (olds : List (ℕ × List Item)) (gave : List ℕ) → numbers_of olds ≡ gave
    → All (Contains (numbers_of olds)) gave
all_joined olds gave same = subst (λ (l : List ℕ). All (Contains (numbers_of olds)) l) same (All-contains_itself (numbers_of olds))
