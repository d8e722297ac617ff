-- A directory that agrees with a history goes on to agree with it, for each kind of entry.
use Rattle.std.proofs.Common.{◌≡◌, ℕ, ◌+◌, Bool, true, List, [], ◌∷◌, ◌++◌, length, map, Option, Some, None, is_some, if◌then◌else◌, refl, sym, ap, subst, ◌∙◌}
use Rattle.std.specs.Option.{option_map}
use Rattle.std.proofs.lemmas.Bool.{false≢true}
use Rattle.std.proofs.lemmas.List.{length-map}
use Rattle.im_journal.specs.Stale.{Note}
use Rattle.im_history.specs.declared.entry.Entry.{Entry}
use Rattle.im_history.specs.declared.entry.What.{What}
use Rattle.im_history.specs.declared.entry.What.TheVariants.{Commit}
use Rattle.im_history.specs.declared.task.Held.{Held}
use Rattle.im_history.specs.Commits.{scn}
use Rattle.im_history.specs.History.{History}
use Rattle.im_history.specs.Queue.{waits}
use Rattle.im_history.specs.Tables.{tables}
use Rattle.im_history.specs.Transactions.{pending}
use Rattle.im_history.specs.Units.{Content, drops, held_at, killed_by}
use Rattle.im_history.proofs.BuildLaws.{held_at-nil, held_at-plain}
use Rattle.im_history.proofs.ContentLaws.{content_at-push}
use Rattle.im_history.proofs.UnitLaws.{builds-nil, builds-plain, held-nil, held-plain, is_plain, is_quiet, living-nil, living-plain, unit-nil, unit-plain}
use Rattle.im_directory.specs.Agrees.{Agrees, IsGrowth, IsStock, is_apart, scn_of, takes_out}
use Rattle.im_directory.specs.Effects.{IsDropped, IsNew, IsNoted, SameTold, notes_of, with_notes}
use Rattle.im_directory.specs.Slots.{Growth, Kept, Stock, Told, build_among, held_among, told_at}
use Rattle.im_directory.proofs.AgreesLemmas.{IsGrowth-quiet, IsStock-quiet, all_killed-apart, drops-apart, found_by, killed-apart, plain-apart, plain-out, quiet-apart, quiet-out, scn_noted, task-killed, was_mapped}
use Rattle.im_directory.proofs.HeldLemmas.{held-mapped}
use Rattle.im_directory.proofs.JournalLemmas.{IsJournal-commit}
use Rattle.im_directory.proofs.SoundLemmas.{IsKilling, IsSound-killed, IsSound-new, IsSound-noted, IsSound-told, ap_if, build_in-new, build_mapped, number_noted, same_either, told_at-new}
use Rattle.im_directory.proofs.WaitLemmas.{waits-apart, waits-nil, waits-out, waits-push}

module _ {U : Type 0} (content : U → Content) where
  -- the parts of what is read of an extent
  abbrev current_of : Told U → Option (Stock U)
  current_of told = told.current

  abbrev growing_of : Told U → Option Growth
  growing_of told = told.growing

  abbrev waits_of : Told U → Bool
  waits_of told = told.waits

  abbrev number_of : Option Growth → Option ℕ
  number_of growing = option_map (λ (g : Growth). g.id) growing

  pub Agrees-new : (kept : Kept U) → IsNew kept → Agrees content [] kept
  Agrees-new kept new = record {
    numbered = ap length new.builds ∙ sym builds-nil;
    sound = IsSound-new kept new;
    held = λ id. build_in-new kept id new ∙ sym (held_at-nil id);
    all = ap held_among new.builds ∙ sym held-nil;
    units = λ table extent. ap (λ (t : Told U). scn_of content t.current) (told_at-new kept table extent new) ∙ sym (unit-nil table extent);
    living = λ table extent. ap (λ (t : Told U). number_of t.growing) (told_at-new kept table extent new) ∙ sym (living-nil table extent);
    waits = λ table extent. ap waits_of (told_at-new kept table extent new) ∙ sym (waits-nil table extent);
    stock = λ table extent stock is. absurd (false≢true (ap is_some (sym (ap current_of (told_at-new kept table extent new)) ∙ is)));
    growth = λ table extent growth is. absurd (false≢true (ap is_some (sym (ap growing_of (told_at-new kept table extent new)) ∙ is)));
  }

  pub Agrees-told : (h : History) (old new : Kept U) → Agrees content h old → SameTold old new → Agrees content h new
  Agrees-told h old new agrees same = record {
    numbered = ap length same.builds ∙ agrees.numbered;
    sound = IsSound-told old new same agrees.sound;
    held = λ id. ap (λ (b : List (Option Held)). build_among b id) same.builds ∙ agrees.held id;
    all = ap held_among same.builds ∙ agrees.all;
    units = λ table extent. ap (λ (t : Told U). scn_of content t.current) (same.slots table extent) ∙ agrees.units table extent;
    living = λ table extent. ap (λ (t : Told U). number_of t.growing) (same.slots table extent) ∙ agrees.living table extent;
    waits = λ table extent. ap waits_of (same.slots table extent) ∙ agrees.waits table extent;
    stock = λ table extent stock is. agrees.stock table extent stock (sym (ap current_of (same.slots table extent)) ∙ is);
    growth = λ table extent growth is. agrees.growth table extent growth (sym (ap growing_of (same.slots table extent)) ∙ is);
  }

  -- ---- extents are taken out of the column store, or none

  -- what is read of an extent that is taken out or not, and which waits then or not
  abbrev left_of : ℕ → ℕ → What → Bool → Told U → Told U
  left_of table extent what waits told = if drops table extent what then record { current = None; growing = None; waits = waits } else record told {
    waits = waits;
  }

  -- this entry took extents out of the column store, or none, and each waits that the history lets wait
  record IsLeft (h : History) (who : ℕ) (what : What) (old new : Kept U) : Type 0 where
    slots : (table extent : ℕ) → told_at new table extent ≡
        left_of table extent what (waits (h ++ record { who = who; what = what } ∷ []) table extent) (told_at old table extent)
    builds : new.builds ≡ map (option_map (killed_by (length h) what)) old.builds

  killing_left : (h : History) (who : ℕ) (what : What) (old new : Kept U) → IsLeft h who what old new → IsKilling old new (length h) what
  killing_left h who what old new left = record {
    builds = λ id.
        ap (λ (b : List (Option Held)). build_among b id) left.builds ∙ build_mapped (option_map (killed_by (length h) what)) old.builds id refl;
    living = λ table extent.
        ap (λ (told : Told U). number_of told.growing) (left.slots table extent)
        ∙ ap_if (λ (told : Told U). number_of told.growing) (drops table extent what) _ _;
  }

  stock_left : (h : History) (who : ℕ) (what : What) (old : Kept U) (table extent : ℕ) (stock : Stock U) → is_quiet what ≡ true → Agrees content h old →
      (if drops table extent what then None else (told_at old table extent).current) ≡ Some stock →
      IsStock content (h ++ record { who = who; what = what } ∷ []) table extent stock
  stock_left h who what old table extent stock quiet agrees is =
      let was = found_by (drops table extent what) None (told_at old table extent).current stock refl is in
      IsStock-quiet content h (record { who = who; what = what }) table extent stock quiet (agrees.stock table extent stock was.1)

  growth_left : (h : History) (who : ℕ) (what : What) (old : Kept U) (table extent : ℕ) (growth : Growth) → is_plain what ≡ true → is_quiet what ≡ true →
      Agrees content h old → (if drops table extent what then None else (told_at old table extent).growing) ≡ Some growth →
      IsGrowth content (h ++ record { who = who; what = what } ∷ []) table extent growth
  growth_left h who what old table extent growth plain quiet agrees is =
      let entry : Entry = record { who = who; what = what } in
      let was = found_by (drops table extent what) None (told_at old table extent).growing growth refl is in
      let kept = agrees.growth table extent growth was.1 in
      IsGrowth-quiet content h entry table extent growth kept (killed_by (length h) what kept.held) quiet
      (held_at-plain h entry growth.id plain ∙ ap (option_map (killed_by (length h) what)) kept.is)
      (task-killed (length h) what kept.held)

  agrees_left : (h : History) (who : ℕ) (what : What) (old new : Kept U) → is_plain what ≡ true → is_quiet what ≡ true → Agrees content h old →
      IsLeft h who what old new → Agrees content (h ++ record { who = who; what = what } ∷ []) new
  agrees_left h who what old new plain quiet agrees left =
      let entry : Entry = record { who = who; what = what } in
      let killing = killing_left h who what old new left in
      let long : length (map (option_map (killed_by (length h) what)) old.builds) ≡ length old.builds =
      length-map old.builds (option_map (killed_by (length h) what)) in
      record {
        numbered = ap length left.builds ∙ (long ∙ (agrees.numbered ∙ sym (builds-plain h entry plain)));
        sound = IsSound-killed old new (length h) what killing agrees.sound;
        held = λ id. killing.builds id ∙ (ap (option_map (killed_by (length h) what)) (agrees.held id) ∙ sym (held_at-plain h entry id plain));
        all = ap held_among left.builds
            ∙ (held-mapped (killed_by (length h) what) old.builds
            ∙ (ap (map (killed_by (length h) what)) agrees.all ∙ sym (held-plain h entry plain)));
        units = λ table extent.
            ap (λ (t : Told U). scn_of content t.current) (left.slots table extent)
            ∙ (ap_if (λ (t : Told U). scn_of content t.current) (drops table extent what) _ _
            ∙ (ap (λ (n : Option ℕ). if drops table extent what then None else n) (agrees.units table extent) ∙ sym (unit-plain h entry table extent plain)));
        living = λ table extent.
            killing.living table extent
            ∙ (ap (λ (n : Option ℕ). if drops table extent what then None else n) (agrees.living table extent) ∙ sym (living-plain h entry table extent plain));
        waits = λ table extent.
            ap waits_of (left.slots table extent)
            ∙ (ap_if waits_of (drops table extent what) _ _ ∙ sym (same_either (drops table extent what) (waits (h ++ entry ∷ []) table extent)));
        stock =
            λ table extent stock is. stock_left h who what old table extent stock quiet agrees
            (sym (ap_if current_of (drops table extent what) _ _) ∙ (sym (ap current_of (left.slots table extent)) ∙ is));
        growth =
            λ table extent growth is. growth_left h who what old table extent growth plain quiet agrees
            (sym (ap_if growing_of (drops table extent what) _ _) ∙ (sym (ap growing_of (left.slots table extent)) ∙ is));
      }

  pub Agrees-drop : (h : History) (who : ℕ) (what : What) (old new : Kept U) → takes_out what ≡ true → Agrees content h old →
      IsDropped old new (length h) what → Agrees content (h ++ record { who = who; what = what } ∷ []) new
  Agrees-drop h who what old new out agrees dropped =
      agrees_left h who what old new (plain-out what out) (quiet-out what out) agrees (record {
        slots = λ table extent.
            dropped.slots table extent
            ∙ ap (λ (waits : Bool). left_of table extent what waits (told_at old table extent)) (sym (waits-out h who what table extent out));
        builds = dropped.builds;
      })

  pub Agrees-apart : (h : History) (who : ℕ) (what : What) (kept : Kept U) → is_apart what ≡ true → Agrees content h kept →
      Agrees content (h ++ record { who = who; what = what } ∷ []) kept
  Agrees-apart h who what kept apart agrees =
      agrees_left h who what kept kept (plain-apart what apart) (quiet-apart what apart) agrees (record {
        slots = λ table extent.
            ap (λ (waits : Bool). record (told_at kept table extent) { waits = waits })
            (agrees.waits table extent ∙ sym (waits-apart h who what table extent apart))
            ∙ sym (ap
            (λ (b : Bool). if b then record { current = None; growing = None; waits = waits (h ++ record { who = who; what = what } ∷ []) table extent } else
            record (told_at kept table extent) { waits = waits (h ++ record { who = who; what = what } ∷ []) table extent })
            (drops-apart table extent what apart));
        builds = all_killed-apart (length h) what kept.builds (λ table extent. drops-apart table extent what apart);
      })

  -- ---- a commit

  stock_noted : (h : History) (who : ℕ) (old : Kept U) (table extent : ℕ) (stock : Stock U) → Agrees content h old →
      option_map (λ (s : Stock U). record s { notes = with_notes (notes_of (tables h) (scn h + 1) (pending h who) table extent) s.notes })
      (told_at old table extent).current ≡ Some stock → IsStock content (h ++ record { who = who; what = Commit } ∷ []) table extent stock
  stock_noted h who old table extent stock agrees is =
      let more : List Note = notes_of (tables h) (scn h + 1) (pending h who) table extent in
      let before = was_mapped (λ (s : Stock U). record s { notes = with_notes more s.notes }) (told_at old table extent).current stock is in
      let kept = agrees.stock table extent before.was before.is in
      subst (λ (s : Stock U). IsStock content (h ++ record { who = who; what = Commit } ∷ []) table extent s) (sym before.same) (record {
        holds =
            kept.holds ∙ sym (content_at-push h (record { who = who; what = Commit }) table extent
            (content before.was.unit).scn kept.journal.exists kept.journal.from);
        journal = IsJournal-commit h who table extent (content before.was.unit).scn before.was.notes kept.journal;
      })

  growth_noted : (h : History) (who : ℕ) (old : Kept U) (table extent : ℕ) (growth : Growth) → Agrees content h old →
      option_map (λ (g : Growth). record g { notes = with_notes (notes_of (tables h) (scn h + 1) (pending h who) table extent) g.notes })
      (told_at old table extent).growing ≡ Some growth → IsGrowth content (h ++ record { who = who; what = Commit } ∷ []) table extent growth
  growth_noted h who old table extent growth agrees is =
      let entry : Entry = record { who = who; what = Commit } in
      let more : List Note = notes_of (tables h) (scn h + 1) (pending h who) table extent in
      let before = was_mapped (λ (g : Growth). record g { notes = with_notes more g.notes }) (told_at old table extent).growing growth is in
      let kept = agrees.growth table extent before.was before.is in
      subst (λ (g : Growth). IsGrowth content (h ++ entry ∷ []) table extent g) (sym before.same) (record {
        held = kept.held;
        is = held_at-plain h entry before.was.id refl ∙ (killed-apart (length h) Commit (held_at h before.was.id) (λ t e. refl) ∙ kept.is);
        journal = IsJournal-commit h who table extent kept.held.task.scn before.was.notes kept.journal;
      })

  pub Agrees-commit : (h : History) (who : ℕ) (old new : Kept U) → Agrees content h old → IsNoted old new (tables h) (scn h + 1) (pending h who) →
      Agrees content (h ++ record { who = who; what = Commit } ∷ []) new
  Agrees-commit h who old new agrees noted =
      let entry : Entry = record { who = who; what = Commit } in
      record {
        numbered = ap length noted.builds ∙ (agrees.numbered ∙ sym (builds-plain h entry refl));
        sound = IsSound-noted old new (tables h) (scn h + 1) (pending h who) noted agrees.sound;
        held = λ id.
            ap (λ (b : List (Option Held)). build_among b id) noted.builds
            ∙ (agrees.held id ∙ sym (held_at-plain h entry id refl ∙ killed-apart (length h) Commit (held_at h id) (λ t e. refl)));
        all =
            ap held_among (noted.builds ∙ all_killed-apart (length h) Commit old.builds (λ t e. refl))
            ∙ (held-mapped (killed_by (length h) Commit) old.builds
            ∙ (ap (map (killed_by (length h) Commit)) agrees.all ∙ sym (held-plain h entry refl)));
        units = λ table extent.
            ap (λ (t : Told U). scn_of content t.current) (noted.slots table extent)
            ∙ (scn_noted content (notes_of (tables h) (scn h + 1) (pending h who) table extent) (told_at old table extent).current
            ∙ (agrees.units table extent ∙ sym (unit-plain h entry table extent refl)));
        living = λ table extent.
            ap (λ (t : Told U). number_of t.growing) (noted.slots table extent)
            ∙ (number_noted (notes_of (tables h) (scn h + 1) (pending h who) table extent) (told_at old table extent).growing
            ∙ (agrees.living table extent ∙ sym (living-plain h entry table extent refl)));
        waits = λ table extent. ap waits_of (noted.slots table extent) ∙ (agrees.waits table extent ∙ sym (waits-push h entry table extent));
        stock = λ table extent stock is. stock_noted h who old table extent stock agrees (sym (ap current_of (noted.slots table extent)) ∙ is);
        growth = λ table extent growth is. growth_noted h who old table extent growth agrees (sym (ap growing_of (noted.slots table extent)) ∙ is);
      }
