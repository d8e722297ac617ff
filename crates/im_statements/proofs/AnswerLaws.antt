-- What holds of a statement with its names found holds of each form of an answer, where it is one.
use Rattle.std.proofs.Common.{ℕ, List, Option, Some, None, Result, Ok, Err}
use Rattle.std.specs.Result.{IfOk}
use Rattle.im_history.specs.declared.look.TableInfo.{TableInfo}
use Rattle.im_names.specs.declared.fault.NameFault.{NameFault}
use Rattle.im_names.specs.declared.resolved.Resolved.{Resolved}
use Rattle.im_names.specs.Faults.{formed, unless}
use Rattle.im_names.specs.Lookups.{of_table}

module _ (P : Resolved → Type 0) where
  pub formed-each : {A : Type 0} (form : A → Resolved) → ((value : A) → P (form value)) → (r : Result A NameFault) → IfOk (formed form r) P
  formed-each form each (Ok value) = each value
  formed-each form each (Err fault) = tt

  pub unless-each : (fault : Option NameFault) (r : Resolved) → P r → IfOk (unless fault r) P
  unless-each None r holds = holds
  unless-each (Some fault) r holds = tt

  pub of_table-each : (found : Option TableInfo) (name : List ℕ) (on : TableInfo → Result Resolved NameFault) → ((table : TableInfo) → IfOk (on table) P)
      → IfOk (of_table found name on) P
  of_table-each None name on each = tt
  of_table-each (Some table) name on each = each table
