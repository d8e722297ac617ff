-- Where each table got its last column, entry by entry.
use Rattle.std.proofs.Common.{◌≡◌, ℕ, zero, suc, ◌+◌, ◌<◌, ◌==◌, List, [], ◌∷◌, ◌++◌, length, replicate, set, get_or, if◌then◌else◌, refl, sym, ap, ◌∙◌, arith, ⊎_elim}
use Rattle.std.proofs.lemmas.List.{length-set, get_or-set_same, get_or-set_other}
use Rattle.std.proofs.lemmas.Bool.{cases_eq, eq-eqb, ne_eqb}
use Rattle.im_values.specs.declared.limits.TheConstants.{MOST_TABLES}
use Rattle.im_history.specs.declared.entry.Entry.{Entry}
use Rattle.im_history.specs.declared.entry.What.{What}
use Rattle.im_history.specs.declared.entry.What.TheVariants.{Add}
use Rattle.im_history.specs.History.{History, replay}
use Rattle.im_history.specs.Tables.{last_added, last_added_after}
use Rattle.im_history.proofs.Laws.{last_added-push}
use Rattle.im_core.specs.declared.last_columns.LastColumns.{LastColumns}
use Rattle.im_core.specs.inner.LastColumns.{AreLast, noted}

nothing-added : (size table : ℕ) → ◌≡◌ {A = ℕ} (get_or (replicate size 0) table 0) 0
nothing-added zero table = refl
nothing-added (suc size) zero = refl
nothing-added (suc size) (suc table) = nothing-added size table

last_added-nil : (table : ℕ) → last_added [] table ≡ 0
unfolding last_added replay
last_added-nil table = refl

pub AreLast-nil : (last : LastColumns) → last.places ≡ replicate (MOST_TABLES + 1) 0 → AreLast [] last
AreLast-nil last is = record {
  sized = rw is refl;
  each = λ table within. rw is (nothing-added (MOST_TABLES + 1) table ∙ sym (last_added-nil table));
}

-- one of the places was set
placed : (places : List ℕ) (other table place : ℕ) → table < length places
    → get_or (set places other place) table 0 ≡ (if other == table then place else get_or places table 0)
placed places other table place within =
    ⊎_elim (λ (is : other ≡ table). rw (eq-eqb other table is, is) (get_or-set_same places table place 0 within))
    (λ (apart : other ≡ table → ⊥). rw (ne_eqb other table apart) (get_or-set_other places other table place 0 (λ is. apart (sym is)))) (cases_eq other table)

sized_after : (place : ℕ) (what : What) (last : LastColumns) → length (noted place what last).places ≡ length last.places
sized_after place (Add table column default) last = length-set last.places table place
sized_after place _ last = refl

each_after : (place : ℕ) (what : What) (last : LastColumns) (table : ℕ) → table < length last.places
    → get_or (noted place what last).places table 0 ≡ last_added_after table place (get_or last.places table 0) what
each_after place (Add other column default) last table within = placed last.places other table place within
each_after place _ last table within = refl

pub AreLast-push : (h : History) (entry : Entry) (last : LastColumns) → AreLast h last → AreLast (h ++ entry ∷ []) (noted (length h) entry.what last)
AreLast-push h entry last is = record {
  sized = sized_after (length h) entry.what last ∙ is.sized;
  each = λ table within.
      let sized = is.sized in
      each_after (length h) entry.what last table (omega (arith, sized, within))
      ∙ (ap (λ (n : ℕ). last_added_after table (length h) n entry.what) (is.each table within) ∙ sym (last_added-push h entry table));
}
