-- What a directory answers of a history that it agrees with, and how it goes on to agree with it.
use Rattle.std.proofs.Common.{◌≡◌, ℕ, ◌≤◌, map, Option, Some, None, refl, sym, ap, ◌∙◌}
use Rattle.im_history.specs.declared.task.Held.{Held}
use Rattle.im_history.specs.Commits.{scn}
use Rattle.im_history.specs.History.{History}
use Rattle.im_history.specs.Horizon.{scns_built}
use Rattle.im_history.specs.Units.{Content, held_at, living, stale, unit}
use Rattle.im_history.specs.Views.{per_at}
use Rattle.im_journal.specs.Stale.{stale_rows_at}
use Rattle.im_directory.specs.Agreement.{IsLivingBuild}
use Rattle.im_directory.specs.Agrees.{Agrees, scn_of}
use Rattle.im_directory.specs.Effects.{IsBefore}
use Rattle.im_directory.specs.Slots.{Kept, Stock, notes_of_unit, scns_among, stale_told, told_at}
use Rattle.im_directory.specs.Sound.{IsAlive}
use Rattle.im_directory.proofs.JournalLemmas.{upto-later}
use Rattle.im_directory.proofs.StaleLemmas.{NoneBehind-from, stale-noted}
pub use Rattle.im_directory.proofs.AgreementLemmas.{Agrees-new, Agrees-told, Agrees-drop, Agrees-apart, Agrees-commit}
pub use Rattle.im_directory.proofs.AreaLemmas.{used-by}
pub use Rattle.im_directory.proofs.BeginLemmas.{Agrees-begin}
pub use Rattle.im_directory.proofs.EndLemmas.{Agrees-cancel, Agrees-switch}
pub use Rattle.im_directory.proofs.ListLemmas.{due-by, empty-by, free-by, is_stale-by}

module _ {U : Type 0} (content : U → Content) where
  -- the stale rows of a current unit are those of its journal
  pub stale-by : (h : History) (kept : Kept U) (table extent : ℕ) (stock : Stock U) (to : ℕ) → Agrees content h kept →
      (told_at kept table extent).current ≡ Some stock → 1 ≤ per_at h table → stale h table extent (content stock.unit).scn to ≡ stale_rows_at stock.notes to
  stale-by h kept table extent stock to agrees is some =
      stale-noted h table extent (content stock.unit).scn stock.notes to (agrees.stock table extent stock is).journal some

  stale_of : (h : History) (kept : Kept U) (table extent at to : ℕ) (current : Option (Stock U)) → Agrees content h kept → 1 ≤ per_at h table →
      (told_at kept table extent).current ≡ current → scn_of content current ≡ Some at → stale_rows_at (notes_of_unit current) to ≡ stale h table extent at to
  stale_of h kept table extent at to None agrees some is found = cc
  stale_of h kept table extent at to (Some stock) agrees some is found =
      let same : (content stock.unit).scn ≡ at = cc in
      sym (stale-by h kept table extent stock to agrees is some) ∙ ap (λ n. stale h table extent n to) same

  -- and so it is told of the unit that the history says is current
  pub stale-of : (h : History) (kept : Kept U) (table extent at to : ℕ) → Agrees content h kept → 1 ≤ per_at h table → unit h table extent ≡ Some at →
      stale_told kept table extent to ≡ stale h table extent at to
  stale-of h kept table extent at to agrees some is =
      stale_of h kept table extent at to (told_at kept table extent).current agrees some refl (agrees.units table extent ∙ is)

  -- no note is of a later commit than the present one
  pub IsBefore-by : (h : History) (kept : Kept U) (n : ℕ) → Agrees content h kept → scn h ≤ n → IsBefore kept n
  IsBefore-by h kept n agrees past = record {
    current = λ table extent stock is. NoneBehind-from n stock.notes (upto-later (scn h) n stock.notes past (agrees.stock table extent stock is).journal.to);
    growing =
        λ table extent growth is. NoneBehind-from n growth.notes (upto-later (scn h) n growth.notes past (agrees.growth table extent growth is).journal.to);
  }

  -- a living build is held, on its extent, and nothing killed it
  pub living-by : (h : History) (kept : Kept U) (table extent id : ℕ) → Agrees content h kept → living h table extent ≡ Some id →
      IsLivingBuild h table extent id
  living-by h kept table extent id agrees is =
      let was = agrees.sound.living table extent id (agrees.living table extent ∙ is) in
      record { held = was.held; is = sym (agrees.held id) ∙ was.is; on = was.on; alive = was.alive }

  -- a held build that nothing killed is the living one of its extent
  pub lives-by : (h : History) (kept : Kept U) (id : ℕ) (held : Held) → Agrees content h kept → held_at h id ≡ Some held → held.killed ≡ None →
      living h held.task.table held.task.extent ≡ Some id
  lives-by h kept id held agrees is alive = sym (agrees.living held.task.table held.task.extent) ∙ agrees.sound.lives id held (agrees.held id ∙ is) alive

  -- a held build is of its number
  pub numbered-by : (h : History) (kept : Kept U) (id : ℕ) (held : Held) → Agrees content h kept → held_at h id ≡ Some held → held.task.id ≡ id
  numbered-by h kept id held agrees is = agrees.sound.numbered id held (agrees.held id ∙ is)

  -- a held build that nothing killed may be switched in
  pub IsAlive-by : (h : History) (kept : Kept U) (id : ℕ) (held : Held) → Agrees content h kept → held_at h id ≡ Some held → held.killed ≡ None →
      IsAlive kept id
  IsAlive-by h kept id held agrees is alive = record { held = held; is = agrees.held id ∙ is; alive = alive }

  -- the SCNs of the held builds are the history's, in its order
  pub scns-by : (h : History) (kept : Kept U) → Agrees content h kept → scns_among kept.builds ≡ scns_built h
  scns-by h kept agrees = ap (map (λ (held : Held). held.task.scn)) agrees.all
