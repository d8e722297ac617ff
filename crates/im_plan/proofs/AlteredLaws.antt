-- Who finds that a table has other columns than were known finds the last of them at an entry of others.
use Rattle.std.proofs.Common.{◌≡◌, ℕ, zero, suc, ◌≤◌, ◌==◌, Bool, true, false, not, All, [], ◌∷◌, ◌++◌, length, slice_get, Some, refl, sym, ap, ◌∙◌, subst, arith}
use Rattle.std.proofs.lemmas.Bool.{eq-eqb}
use Rattle.std.proofs.lemmas.List.Elements.{All-head, All-tail}
use Rattle.im_history.specs.declared.entry.Entry.{Entry}
use Rattle.im_history.specs.declared.refused.Why.TheVariants.{Altered}
use Rattle.im_history.specs.Columns.{columns_of}
use Rattle.im_history.specs.History.{History}
use Rattle.im_history.specs.Legal.{Exists}
use Rattle.im_history.specs.Refusals.{altered, when}
use Rattle.im_history.specs.Tables.{last_added, table_at}
use Rattle.im_history.proofs.AlteredLaws.{GotColumns, altered-behind}
use Rattle.im_plan.specs.Altered.{GotColumn}
use Rattle.im_plan.specs.Goes.{After}

-- what is found in a list has what each element has
found-in : (P : Entry → Type 0) (between : History) (place : ℕ) (entry : Entry) → All P between → slice_get between place ≡ Some entry → P entry
found-in P [] place entry all is = absurd cc
found-in P (first ∷ rest) zero entry all is = let same : first ≡ entry = cc in subst P same (All-head P first rest all)
found-in P (first ∷ rest) (suc place) entry all is = found-in P rest place entry (All-tail P first rest all) is

-- and so what is found behind others
found-behind : (P : Entry → Type 0) (old between : History) (place : ℕ) (entry : Entry) → length old ≤ place → All P between
    → slice_get (old ++ between) place ≡ Some entry → P entry
found-behind P [] between place entry behind all is = found-in P between place entry all is
found-behind P (first ∷ old) between zero entry behind all is = absurd (omega (arith, behind))
found-behind P (first ∷ old) between (suc place) entry behind all is = found-behind P old between place entry (omega (arith, behind)) all is

-- the table has another number of columns than this, and got its last one there
record IsAltered (h : History) (table columns place : ℕ) : Type 0 where
  other : columns_of (table_at h table) ≡ columns → ⊥
  last : place ≡ last_added h table

is-altered : (h : History) (table columns place : ℕ) → altered h table columns ≡ Some (Altered place) → IsAltered h table columns place
is-altered h table columns place is = by (columns_of (table_at h table) == columns) refl is
  where
    by : (b : Bool) → (columns_of (table_at h table) == columns) ≡ b → when (not b) (Altered (last_added h table)) ≡ Some (Altered place)
        → IsAltered h table columns place
    by true same found = absurd cc
    by false apart found = record {
      other = λ equal. let same = eq-eqb (columns_of (table_at h table)) columns equal in absurd cc;
      last = cc;
    }

-- who knew the table's columns, and finds after entries of others that there are others, finds the last of them at an entry of theirs
pub got-column : (mine : ℕ → Bool) (others : History → Type 0) (known : ℕ) (seen at : History) (table columns place : ℕ) → known ≤ length seen → Exists seen table
    → columns ≡ columns_of (table_at seen table) → ((between : History) → others between → All (λ (entry : Entry). mine entry.who ≡ false) between)
    → After others seen at → altered at table columns ≡ Some (Altered place) → GotColumn mine known table place at
got-column mine others known seen at table columns place long exists known_columns apart after is =
    let found = is-altered at table columns place is in
    let got : GotColumns (length seen) table at =
    subst (GotColumns (length seen) table) (sym after.log)
    (altered-behind seen after.between table exists
    (λ same. found.other (ap (λ (h : History). columns_of (table_at h table)) after.log ∙ (same ∙ sym known_columns)))) in
    let behind = got.behind in
    let last = found.last in
    record {
      last = last;
      behind = omega (arith, long, behind, last);
      entry = got.addition.entry;
      is = ap (slice_get at) last ∙ got.addition.is;
      column = got.addition.column;
      default = got.addition.default;
      adds = got.addition.adds;
      others =
          found-behind (λ (e : Entry). mine e.who ≡ false) seen after.between (last_added at table) got.addition.entry got.behind
          (apart after.between after.lawful) (ap (λ (h : History). slice_get h (last_added at table)) (sym after.log) ∙ got.addition.is);
    }
