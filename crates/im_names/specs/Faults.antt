-- Which fault of a statement is reported: the first in the order of the checks.
use Rattle.std.specs.Prelude.{◌≡◌, ◌⊎◌, List, [], ◌∷◌, ◌++◌, Option, Some, None, Result, Ok, Err}
use Rattle.std.specs.Option.{option_or}
use Rattle.im_names.specs.declared.fault.NameFault.{NameFault}
use Rattle.im_names.specs.declared.fault.NameFault.TheVariants.{NoMemory}

-- the first that there is, in a list of what may be a fault
abbrev pub first_fault : List (Option NameFault) → Option NameFault
first_fault [] = None
first_fault (fault ∷ faults) = option_or fault (first_fault faults)

-- the fault, and without one the value
abbrev pub unless : {A : Type 0} → Option NameFault → A → Result A NameFault
unless None value = Ok value
unless (Some fault) value = Err fault

-- the same answer, its value in another form
abbrev pub formed : {A B : Type 0} → (A → B) → Result A NameFault → Result B NameFault
formed form (Ok value) = Ok (form value)
formed form (Err fault) = Err fault

-- what each element may have against it, by the elements before it
abbrev pub with_earlier : {A B : Type 0} → (List A → A → B) → List A → List A → List B
with_earlier f before [] = []
with_earlier f before (x ∷ xs) = f before x ∷ with_earlier f (before ++ x ∷ []) xs

-- there is no fault, and this is so
pub record Passes (fault : Option NameFault) (fact : Type 0) : Type 0 where
  pub free : fault ≡ None
  pub is : fact

-- what is reported is the fault, or that memory is out, which may come at any time
pub record IsCause (fault : Option NameFault) (why : NameFault) : Type 0 where
  pub is : (why ≡ NoMemory) ⊎ (fault ≡ Some why)

-- the same of an answer that is a fault
pub record IsErr {A : Type 0} (answer : Result A NameFault) (why : NameFault) : Type 0 where
  pub is : (why ≡ NoMemory) ⊎ (answer ≡ Err why)
