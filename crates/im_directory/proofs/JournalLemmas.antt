-- A journal says what commits touched, as the history goes on.
use Rattle.std.proofs.Common.{◌≡◌, ℕ, ◌+◌, ◌/◌, ◌≤◌, Bool, true, ◌==◌, ◌&&◌, ◌||◌, nat_le, nat_lt, List, [], ◌∷◌, ◌++◌, refl, sym, ap, ap₂, ◌∙◌, arith}
use Rattle.std.proofs.lemmas.Bool.{and_right, le-leb}
use Rattle.std.proofs.lemmas.List.Elements.{All-nil, All-weaker}
use Rattle.im_journal.specs.Stale.{Note}
use Rattle.im_history.specs.declared.entry.Entry.{Entry}
use Rattle.im_history.specs.declared.entry.What.TheVariants.{Commit}
use Rattle.im_history.specs.Commits.{scn}
use Rattle.im_history.specs.History.{History}
use Rattle.im_history.specs.Legal.{Exists}
use Rattle.im_history.specs.Tables.{tables}
use Rattle.im_history.specs.Touched.{touches}
use Rattle.im_history.specs.Transactions.{pending}
use Rattle.im_history.specs.Units.{touched_between}
use Rattle.im_history.specs.Views.{per_at}
use Rattle.im_history.proofs.Laws.{scn-push}
use Rattle.im_history.proofs.TableLaws.{Exists-push, per_at-push}
use Rattle.im_history.proofs.TouchLaws.{touched_between-commit, touched_between-present}
use Rattle.im_history.proofs.UnitLaws.{is_quiet, touched_between-quiet}
use Rattle.im_directory.specs.Agrees.{IsJournal}
use Rattle.im_directory.specs.Effects.{notes_of, with_notes}
use Rattle.im_directory.proofs.NoteLemmas.{AreUpTo, is_noted-commit, nat_lt-next, notes_of-upto}

-- the SCN does not fall
pub scn-rises : (h : History) (entry : Entry) → scn h ≤ scn (h ++ entry ∷ [])
scn-rises h entry = let moved = scn-push h entry in omega (arith, moved)

pub upto-later : (n m : ℕ) (notes : List Note) → n ≤ m → AreUpTo n notes → AreUpTo m notes
upto-later n m notes rises upto = All-weaker (λ (note : Note). note.1 ≤ n) (λ (note : Note). note.1 ≤ m) (λ note below. omega (arith, below, rises)) notes upto

-- an entry that commits no changes leaves each journal as it is
pub IsJournal-quiet : (h : History) (entry : Entry) (table extent after : ℕ) (notes : List Note) → is_quiet entry.what ≡ true →
    IsJournal h table extent after notes → IsJournal (h ++ entry ∷ []) table extent after notes
IsJournal-quiet h entry table extent after notes quiet journal =
    let rises = scn-rises h entry in
    record {
      exists = Exists-push h entry table journal.exists;
      from = omega (arith, journal.from, rises);
      to = upto-later (scn h) (scn (h ++ entry ∷ [])) notes rises journal.to;
      each = λ to rid.
          journal.each to rid
          ∙ ap₂ (λ (per : ℕ) (b : Bool). (rid / per == extent) && b) (sym (per_at-push h entry table journal.exists))
          (sym (touched_between-quiet h entry after to table rid quiet));
    }

-- a journal that is begun with an entry which commits no changes is empty
pub IsJournal-begun : (h : History) (entry : Entry) (table extent : ℕ) → is_quiet entry.what ≡ true → Exists h table →
    IsJournal (h ++ entry ∷ []) table extent (scn h) []
IsJournal-begun h entry table extent quiet exists = record {
  exists = Exists-push h entry table exists;
  from = scn-rises h entry;
  to = All-nil (λ (note : Note). note.1 ≤ scn (h ++ entry ∷ []));
  each = λ to rid.
      sym (and_right (rid / per_at (h ++ entry ∷ []) table == extent) (touched_between (h ++ entry ∷ []) (scn h) to table rid)
      (touched_between-quiet h entry (scn h) to table rid quiet ∙ touched_between-present h (scn h) to table rid (omega arith)));
}

-- whether the commit's SCN is between is known
between_commit : (b x after_ok l : Bool) (m : Bool) → after_ok ≡ true → l ≡ m → b || (m && x) ≡ b || ((after_ok && l) && x)
between_commit b x after_ok l m is same = rw (is, same) refl

-- a commit notes its changes
pub IsJournal-commit : (h : History) (who table extent after : ℕ) (notes : List Note) → IsJournal h table extent after notes →
    IsJournal (h ++ record { who = who; what = Commit } ∷ []) table extent after
    (with_notes (notes_of (tables h) (scn h + 1) (pending h who) table extent) notes)
IsJournal-commit h who table extent after notes journal =
    let entry : Entry = record { who = who; what = Commit } in
    let now : History = h ++ entry ∷ [] in
    let moved : scn now ≡ scn h + 1 = scn-push h entry in
    let upto = upto-later (scn h) (scn h + 1) notes (omega arith) journal.to in
    record {
      exists = Exists-push h entry table journal.exists;
      from = omega (arith, journal.from, moved);
      to = upto-later (scn h + 1) (scn now) _ (omega (arith, moved)) (notes_of-upto (tables h) (scn h + 1) (pending h who) table extent notes upto);
      each = λ to rid.
          is_noted-commit (tables h) (scn h + 1) (pending h who) table extent notes (touched_between h after to table rid) to rid upto (journal.each to rid)
          ∙ (ap (λ (b : Bool). (rid / per_at h table == extent) && b)
          (between_commit (touched_between h after to table rid) (touches (pending h who) table rid) (nat_le after (scn h)) (nat_lt (scn h) to)
          (nat_le (scn h + 1) to) (le-leb after (scn h) journal.from) (nat_lt-next (scn h) to)
          ∙ sym (touched_between-commit h who after to table rid))
          ∙ ap (λ (per : ℕ). (rid / per == extent) && touched_between now after to table rid) (sym (per_at-push h entry table journal.exists)));
    }
