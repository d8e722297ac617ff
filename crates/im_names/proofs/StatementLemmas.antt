-- What is answered of the table of a name.
use Rattle.std.proofs.Common.{◌≡◌, ⊎_elim, inl, inr, ℕ, List, Option, Some, Result, Ok, Err, refl, sym, ap, ◌∙◌}
use Rattle.std.specs.Result.{IfOk, IfErr}
use Rattle.im_history.specs.declared.look.TableInfo.{TableInfo}
use Rattle.im_names.specs.declared.fault.NameFault.{NameFault}
use Rattle.im_names.specs.declared.fault.NameFault.TheVariants.{NoMemory}
use Rattle.im_names.specs.Faults.{unless, IsCause, IsErr, Passes}
use Rattle.im_names.specs.Lookups.{table_number, of_table, in_table, StandsAt}

-- whatever is answered of the table is answered of its number and itself
pub in_found : {A : Type 0} (tables : List TableInfo) (name : List ℕ) (number : ℕ) (table : TableInfo) (answer : ℕ → TableInfo
    → Result A NameFault) → StandsAt tables name number table → in_table tables name answer ≡ answer number table
in_found tables name number table answer s =
    ap (λ found. of_table found name (λ t. answer (table_number tables name) t)) s.found
    ∙ ap (λ n. answer n table) s.numbered

-- the value where there is no fault, and else the fault
pub unless_ok : {A : Type 0} (fault : Option NameFault) (value x : A) → Passes fault (x ≡ value) → unless fault value ≡ Ok x
unless_ok fault value x p = rw p.free (ap Ok (sym p.is))

pub unless_err : {A : Type 0} (fault : Option NameFault) (value : A) (why : NameFault) → IsCause fault why → IsErr (unless fault value) why
unless_err fault value why c = record { is = ⊎_elim (λ (e : why ≡ NoMemory). inl e) (λ (e : fault ≡ Some why). inr (rw e refl)) c.is }

-- the same of the table of a name
pub found_ok : {A : Type 0} (tables : List TableInfo) (name : List ℕ) (number : ℕ) (table : TableInfo) (fault : TableInfo
    → Option NameFault) (value : ℕ → TableInfo → A) (r : Result A NameFault)
    → StandsAt tables name number table → IfOk r (λ x. Passes (fault table) (x ≡ value number table))
    → IfOk r (λ x. in_table tables name (λ n t. unless (fault t) (value n t)) ≡ Ok x)
found_ok tables name number table fault value (Ok x) s p =
    in_found tables name number table (λ n t. unless (fault t) (value n t)) s ∙ unless_ok (fault table) (value number table) x p
found_ok tables name number table fault value (Err e) s p = tt

pub found_err : {A : Type 0} (tables : List TableInfo) (name : List ℕ) (number : ℕ) (table : TableInfo) (fault : TableInfo
    → Option NameFault) (value : ℕ → TableInfo → A) (r : Result A NameFault)
    → StandsAt tables name number table → IfErr r (IsCause (fault table)) → IfErr r (IsErr (in_table tables name (λ n t. unless (fault t) (value n t))))
found_err tables name number table fault value (Ok x) s c = tt
found_err tables name number table fault value (Err e) s c =
    rw (in_found tables name number table (λ n t. unless (fault t) (value n t)) s) (unless_err (fault table) (value number table) e c)
