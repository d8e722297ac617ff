-- The first fault of a list, and what is reported of it.
use Rattle.std.proofs.Common.{◌≡◌, ⊎_elim, inl, inr, ℕ, ◌+◌, ◌<◌, ◌≤◌, List, [], ◌∷◌, ◌++◌, length, get_or, take, drop, map, Option, Some, None, Result, refl, sym, ap, ◌∙◌}
use Rattle.std.specs.Option.{option_or}
use Rattle.std.specs.Result.{OnOk, IfErr}
use Rattle.std.proofs.lemmas.List.{at_drop_more, at_drop_all, map-append}
use Rattle.im_names.specs.declared.fault.NameFault.{NameFault}
use Rattle.im_names.specs.declared.fault.NameFault.TheVariants.{NoMemory}
use Rattle.im_names.specs.Faults.{first_fault, with_earlier, IsCause}

-- ---- causes

pub lacks : (fault : Option NameFault) (why : NameFault) → why ≡ NoMemory → IsCause fault why
lacks fault why e = record { is = inl e }

pub found : (fault : Option NameFault) (why : NameFault) → fault ≡ Some why → IsCause fault why
found fault why e = record { is = inr e }

-- the first of two faults is reported, or the second where there is no first
pub earlier : (first rest : Option NameFault) (why : NameFault) → IsCause first why → IsCause (option_or first rest) why
earlier first rest why c =
    ⊎_elim (λ (e : why ≡ NoMemory). lacks (option_or first rest) why e)
    (λ (e : first ≡ Some why). found (option_or first rest) why (ap (λ f. option_or f rest) e)) c.is

pub later : (first rest : Option NameFault) (why : NameFault) → first ≡ None → IsCause rest why → IsCause (option_or first rest) why
later first rest why n c = rw n c

pub same : (f g : Option NameFault) (why : NameFault) → f ≡ g → IsCause f why → IsCause g why
same f g why e c = rw (← e) c

-- the same of a whole result
pub same_ok : {A : Type 0} (f g : Option NameFault) (r : Result A NameFault) → f ≡ g → OnOk r (f ≡ None) → OnOk r (g ≡ None)
same_ok f g r e h = rw (← e) h

pub same_err : {A : Type 0} (f g : Option NameFault) (r : Result A NameFault) → f ≡ g → IfErr r (IsCause f) → IfErr r (IsCause g)
same_err f g r e h = rw (← e) h

pub or_assoc : (f g h : Option NameFault) → option_or (option_or f g) h ≡ option_or f (option_or g h)
or_assoc None g h = refl
or_assoc (Some x) g h = refl

pub first_fault-append : (fs gs : List (Option NameFault)) → first_fault (fs ++ gs) ≡ option_or (first_fault fs) (first_fault gs)
first_fault-append [] gs = refl
first_fault-append (f ∷ fs) gs = ap (option_or f) (first_fault-append fs gs) ∙ sym (or_assoc f (first_fault fs) (first_fault gs))

-- ---- a loop over a list: what F gives of the elements from the i-th on is what it gives of all

pub record From {A B : Type 0} (F : ℕ → List A → B) (xs : List A) (i : ℕ) : Type 0 where
  pub is : F i (drop i xs) ≡ F 0 xs

pub begins : {A B : Type 0} (F : ℕ → List A → B) (xs : List A) → From F xs 0
begins F xs = record { is = refl }

pub at_next : {A B : Type 0} (F : ℕ → List A → B) (xs : List A) (i : ℕ) (x : A) → i < length xs → x ≡ get_or xs i x → From F xs i
    → F i (x ∷ drop (i + 1) xs) ≡ F 0 xs
at_next F xs i x lt e r = ap (λ y. F i (y ∷ drop (i + 1) xs)) e ∙ sym (at_drop_more (F i) xs i x lt) ∙ r.is

pub at_end : {A B : Type 0} (F : ℕ → List A → B) (xs : List A) (i : ℕ) → length xs ≤ i → From F xs i → F i [] ≡ F 0 xs
at_end F xs i le r = sym (at_drop_all (F i) xs i le) ∙ r.is

-- ---- the faults of the elements of a list

abbrev pub faults_of : {A : Type 0} → (A → Option NameFault) → ℕ → List A → Option NameFault
faults_of f i xs = first_fault (map f xs)

pub goes_on : {A : Type 0} (f : A → Option NameFault) (xs : List A) (i : ℕ) (x : A) → i < length xs → x ≡ get_or xs i x → f x ≡ None
    → From (faults_of f) xs i → From (faults_of f) xs (i + 1)
goes_on f xs i x lt e n r = record { is = ap (λ y. option_or y (first_fault (map f (drop (i + 1) xs)))) (sym n) ∙ at_next (faults_of f) xs i x lt e r }

pub fails : {A : Type 0} (f : A → Option NameFault) (xs : List A) (i : ℕ) (x : A) (why : NameFault) → i < length xs → x ≡ get_or xs i x
    → From (faults_of f) xs i → IsCause (f x) why → IsCause (first_fault (map f xs)) why
fails f xs i x why lt e r c = same _ _ why (at_next (faults_of f) xs i x lt e r) (earlier (f x) _ why c)

pub ends : {A : Type 0} (f : A → Option NameFault) (xs : List A) (i : ℕ) → length xs ≤ i → From (faults_of f) xs i → first_fault (map f xs) ≡ None
ends f xs i le r = sym (at_end (faults_of f) xs i le r)

-- ---- the faults of elements by those before them, of a list that is seen through a map

abbrev pub placed : {A T : Type 0} → (List A → A → Option NameFault) → (T → A) → List T → ℕ → List T → Option NameFault
placed f g all i xs = first_fault (with_earlier f (map g (take i all)) (map g xs))

-- ---- the faults of the elements of lists behind one another, each list that of a part

module _ {A T : Type 0} (f : A → Option NameFault) (of : T → List A) (all : List T → List A) (cons : (t : T) (ts : List T)
    → all (t ∷ ts) ≡ of t ++ all ts) where
  abbrev pub chained : ℕ → List T → Option NameFault
  chained i ts = first_fault (map f (all ts))

  chained-cons : (t : T) (ts : List T) → chained 0 (t ∷ ts) ≡ option_or (first_fault (map f (of t))) (chained 0 ts)
  chained-cons t ts =
      ap (λ xs. first_fault (map f xs)) (cons t ts) ∙ ap first_fault (map-append f (of t) (all ts)) ∙ first_fault-append (map f (of t)) (map f (all ts))

  chained_next : (ts : List T) (i : ℕ) (t : T) → i < length ts → t ≡ get_or ts i t → From chained ts i
      → option_or (first_fault (map f (of t))) (chained 0 (drop (i + 1) ts)) ≡ chained 0 ts
  chained_next ts i t lt e r = sym (chained-cons t (drop (i + 1) ts)) ∙ at_next chained ts i t lt e r

  pub chain_goes : (ts : List T) (i : ℕ) (t : T) → i < length ts → t ≡ get_or ts i t → first_fault (map f (of t)) ≡ None → From chained ts i
      → From chained ts (i + 1)
  chain_goes ts i t lt e n r = record { is = ap (λ y. option_or y (chained 0 (drop (i + 1) ts))) (sym n) ∙ chained_next ts i t lt e r }

  pub chain_fails : (ts : List T) (i : ℕ) (t : T) (why : NameFault) → i < length ts → t ≡ get_or ts i t → IsCause (first_fault (map f (of t))) why
      → From chained ts i → IsCause (first_fault (map f (all ts))) why
  chain_fails ts i t why lt e c r = same _ _ why (chained_next ts i t lt e r) (earlier _ _ why c)

  pub chain_ends : all [] ≡ [] → (ts : List T) (i : ℕ) → length ts ≤ i → From chained ts i → first_fault (map f (all ts)) ≡ None
  chain_ends nil ts i le r = sym (at_end chained ts i le r) ∙ ap (λ xs. first_fault (map f xs)) nil
