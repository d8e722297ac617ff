-- What a write to rows that a cursor saw may rely on.
use Rattle.std.proofs.Common.{◌≡◌, ℕ, zero, suc, ◌*◌, ◌≤◌, inr, List, length, Option, Some, None, refl, sym, ap, ◌∙◌, subst, arith}
use Rattle.std.specs.Option.{IsSome, option_map}
use Rattle.std.proofs.lemmas.Option.{slice_get_within}
use Rattle.im_values.specs.declared.limits.TheConstants.{CHANGE_WEIGHT}
use Rattle.im_history.specs.declared.change.Change.{Change}
use Rattle.im_history.specs.declared.entry.What.TheVariants.{Write}
use Rattle.im_history.specs.declared.limits.Limits.{Limits}
use Rattle.im_history.specs.Cursors.{Opened, opened, is_cursor}
use Rattle.im_history.specs.History.{History}
use Rattle.im_history.specs.Horizon.{horizon}
use Rattle.im_history.specs.Legal.{Exists, IsLegal, MayWrite, IsAllowed}
use Rattle.im_history.specs.Refusals.{write_refusal}
use Rattle.im_history.specs.Stored.{Stored}
use Rattle.im_history.specs.Tables.{tables, given}
use Rattle.im_history.specs.Weights.{weight}
use Rattle.im_history.proofs.ViewLaws.{cursor-columns}
use Rattle.im_txn.specs.declared.cursor.Cursor.{Cursor}
use Rattle.im_txn.specs.Activity.{cursor_in}
use Rattle.im_txn.specs.Agrees.{kept}
use Rattle.im_txn.specs.Standing.{activity_at}
use Rattle.im_txn.proofs.ForCallers.{cursor-by}
use Rattle.im_core.specs.Answers.{cursor_view, view_of}
use Rattle.im_history.specs.Units.{Content}
use Rattle.im_core.specs.inner.Holds.{Caches, Holds}
use Rattle.im_core.specs.inner.Kept.{IsView, Gives}
use Rattle.im_core.proofs.CountLemmas.{Gives-rewrite}
use Rattle.im_core.proofs.FetchLemmas.{found_has}
use Rattle.im_core.proofs.HorizonLemmas.{cursor-old}

-- a table that exists has a number
pub exists_range : (h : History) (table : ℕ) → Exists h table → (1 ≤ table) × (table ≤ length (tables h))
exists_range h zero exists = absurd (no exists.is)
  where
    no : None ≡ Some exists.made → ⊥
    no e = cc
exists_range h (suc before) exists = let inside = slice_get_within (tables h) before exists.made exists.is in (omega arith, omega (arith, inside))

-- the cursor with its view, and what a write may rely on
pub record Rewrites (limits : Limits) (h : History) (who cursor : ℕ) (changes : List Change) (view : Cursor) : Type 0 where
  pub exists : Exists h view.table
  pub range : (1 ≤ view.table) × (view.table ≤ length (tables h))
  pub scn : view.scn ≡ (cursor_view h who cursor).scn
  pub old : horizon h ≤ view.scn
  pub gives : Gives h view.table changes (given h view.table)
  pub allowed : write_refusal limits h who (cursor_view h who cursor).scn changes ≡ None → IsAllowed limits h who (Write changes)

kept_of : (limits : Limits) (h : History) (who cursor : ℕ) (changes : List Change) (may : MayWrite h who cursor changes) → IsLegal limits h
    → IsView h may.opened.view → given h may.opened.view.table * CHANGE_WEIGHT ≤ weight h → Rewrites limits h who cursor changes (kept may.opened)
kept_of limits h who cursor changes may legal view light =
    let has = cursor-columns limits h who cursor may.opened legal may.is in
    let exists : Exists h may.opened.view.table = record { made = has.made; is = has.is } in
    let scn_is : may.opened.view.scn ≡ (cursor_view h who cursor).scn = ap (λ (o : Option Opened). (view_of o).scn) (sym may.is) in
    record {
      exists = exists;
      range = exists_range h may.opened.view.table exists;
      scn = scn_is;
      old = cursor-old limits h who cursor may.opened legal may.is;
      gives = Gives-rewrite h may.opened.view.table changes may.same
          (λ i within. let inside = may.inside i within in let given_then = view.within in omega (arith, inside, given_then)) light;
      allowed = λ none. inr (record { cursor = cursor; may = may; allowed = rw scn_is none });
    }

-- what a store found where it looked for the cursor
module _ {U : Type 0} {content : U → Content} {limits : Limits} {history : Stored} {caches : Caches U} {caller : ℕ} {found : Option Cursor} (who cursor : ℕ)
    (changes : List Change) (holds : Holds content limits history caches) (may : MayWrite history.entries who cursor changes) (called : caller ≡ who)
    (found_is : found ≡ cursor_in (activity_at caches.standing caller) cursor) where
  -- the cursor that a session has open is the one that it keeps
  kept_is : found ≡ Some (kept may.opened)
  kept_is = (rw called at found_is) ∙ (cursor-by history.entries caches.standing who cursor holds.sessions ∙ ap (option_map kept) may.is)

  pub is_kept : IsSome found
  is_kept = rw kept_is refl

  pub rewrites : {view : Cursor} → found ≡ Some view → Rewrites limits history.entries who cursor changes view
  rewrites is =
      let seen : IsView history.entries may.opened.view =
      found_has (λ (o : Opened). IsView history.entries o.view) (is_cursor cursor) (opened history.entries who) may.opened (holds.views.each who) may.is in
      subst (Rewrites limits history.entries who cursor changes) (some-inj (sym kept_is ∙ is))
      (kept_of limits history.entries who cursor changes may holds.legal seen (holds.tables.light may.opened.view.table))
    where
      some-inj : {a b : Cursor} → Some a ≡ Some b → a ≡ b
      some-inj e = cc
