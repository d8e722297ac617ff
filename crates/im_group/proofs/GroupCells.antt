-- One more of what a map gives.
use Rattle.std.proofs.Common.{◌≡◌, ℕ, ◌+◌, ◌<◌, List, [], ◌∷◌, ◌++◌, length, map, drop, get_or, sym, ap, ◌∙◌}
use Rattle.std.proofs.lemmas.List.{at_drop_more, append_assoc}

pub map_step : {A B : Type 0} (f : A → B) (xs : List A) (i : ℕ) (d : A) (out : List B) (y : B) (whole : List B) → i < length xs
    → y ≡ f (get_or xs i d) → out ++ map f (drop i xs) ≡ whole → (out ++ y ∷ []) ++ map f (drop (i + 1) xs) ≡ whole
map_step f xs i d out y whole lt e h =
    append_assoc out (y ∷ []) (map f (drop (i + 1) xs))
    ∙ (ap (λ z. out ++ z ∷ map f (drop (i + 1) xs)) e ∙ (ap (λ l. out ++ l) (sym (at_drop_more (map f) xs i d lt)) ∙ h))

pub map_next : {A B : Type 0} (f : A → B) (out : List B) (y : B) (x : A) (rest : List A) (whole : List B) → y ≡ f x → out ++ map f (x ∷ rest) ≡ whole
    → (out ++ y ∷ []) ++ map f rest ≡ whole
map_next f out y x rest whole e h = append_assoc out (y ∷ []) (map f rest) ∙ (ap (λ z. out ++ z ∷ map f rest) e ∙ h)
