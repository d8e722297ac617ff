use Rattle.std.proofs.Common.{◌≡◌, ℕ, ◌+◌, ◌∷◌, [], ◌++◌, List, false, length, map, nat_eq, sym, subst, ap, ◌∙◌, arith}
use Rattle.std.specs.List.Sorted.{IsNonDecreasingBy}
use Rattle.std.proofs.lemmas.List.{length-append, length-map, map-append}
use Rattle.std.proofs.lemmas.Map.Made.{is_some-lookup}
use Rattle.im_journal.specs.Stale.{Note, is_noted, last_scn, rows_of}
use Rattle.im_journal.specs.inner.Gathered.{AreGathered}
use Rattle.im_journal.proofs.GatherLemmas.{gathered-more}
use Rattle.im_journal.proofs.JournalLemmas.{any-rows_of, insert_entry-new, later-push, noted-new, noted-again}
use Rattle.im_journal.proofs.journal.Journal.note.Goals as goal

pub gather-requires-clause-gathered : goal.gather-requires-clause-gathered
gather-requires-clause-gathered c =
    let notes = c.self.inside.first.entries in
    let known = c.contains_key.ensures ∙ (is_some-lookup (nat_eq c.args.row) notes ∙ any-rows_of c.args.row notes) in
    let new : is_noted notes c.args.row ≡ false = sym known ∙ c.if-not-contains_key.true in
    let entries = rw c.unwrap.ensures at c.insert.ensures.entries in
    let rows : c.as_slice.result.now ≡ rows_of notes ++ c.args.row ∷ [] =
    c.as_slice.ensures ∙ (c.keys.ensures.rest ∙ (ap rows_of (entries ∙ insert_entry-new notes c.args.row c.args.scn new)
    ∙ map-append (λ (note : Note). note.0) notes ((c.args.row, c.args.scn) ∷ []))) in
    subst (λ (l : List ℕ). AreGathered l c.self.inside.rising.items) (sym rows)
    (gathered-more (rows_of notes) c.self.inside.rising.items c.args.row c.self.invariant.1.1.1)

pub gather-requires-clause-room : goal.gather-requires-clause-room
gather-requires-clause-room c =
    let notes = c.self.inside.first.entries in
    let known = c.contains_key.ensures ∙ (is_some-lookup (nat_eq c.args.row) notes ∙ any-rows_of c.args.row notes) in
    let new : is_noted notes c.args.row ≡ false = sym known ∙ c.if-not-contains_key.true in
    let entries = rw c.unwrap.ensures at c.insert.ensures.entries in
    let rows : c.as_slice.result.now ≡ rows_of c.insert.new.self.entries = c.as_slice.ensures ∙ c.keys.ensures.rest in
    let long = ap length rows ∙ length-map c.insert.new.self.entries (λ (note : Note). note.0)
    ∙ ap length (entries ∙ insert_entry-new notes c.args.row c.args.scn new) ∙ length-append notes ((c.args.row, c.args.scn) ∷ []) in
    let spare = ap (λ n. n.spare) c.self.view_is in
    let room = c.requires.room in
    let enough = c.self.invariant.1.1.0 in
    omega (arith, long, spare, room, enough)

pub invariant_of-self : goal.invariant_of-self
invariant_of-self c =
    let notes = c.self.inside.first.entries in
    let known = c.contains_key.ensures ∙ (is_some-lookup (nat_eq c.args.row) notes ∙ any-rows_of c.args.row notes) in
    let new : is_noted notes c.args.row ≡ false = sym known ∙ c.if-not-contains_key.true in
    let entries = rw c.unwrap.ensures at c.insert.ensures.entries in
    let now = entries ∙ insert_entry-new notes c.args.row c.args.scn new in
    let rows : c.as_slice.result.now ≡ rows_of c.insert.new.self.entries = c.as_slice.ensures ∙ c.keys.ensures.rest in
    let long = ap length now ∙ length-append notes ((c.args.row, c.args.scn) ∷ []) in
    let spare = c.insert.ensures.spare in
    let enough = c.self.invariant.1.1.0 in
    let room = c.gather.ensures.room in
    let left = ap (λ n. n.spare) c.self.view_is in (
      omega (arith, c.self.invariant.0, spare),
      (
        subst (λ (l : List Note). IsNonDecreasingBy (λ (note : Note). note.1) l) (sym now)
            (later-push notes c.args.row c.args.scn c.self.invariant.1.0
            (λ last is. c.requires.later last (ap (λ n. last_scn n.notes) (sym c.self.view_is) ∙ is))),
        (
          omega (arith, long, enough, room, c.requires.room, left),
          subst (λ (l : List ℕ). AreGathered l c.gather.new.rising.items) rows c.gather.ensures.gathered,
        ),
      ),
    )

pub returns-then-not-contains_key-clause-notes : goal.returns-then-not-contains_key-clause-notes
returns-then-not-contains_key-clause-notes c =
    let notes = c.self.inside.first.entries in
    let known = c.contains_key.ensures ∙ (is_some-lookup (nat_eq c.args.row) notes ∙ any-rows_of c.args.row notes) in
    let new : is_noted notes c.args.row ≡ false = sym known ∙ c.if-not-contains_key.true in
    let entries = rw c.unwrap.ensures at c.insert.ensures.entries in
    rw (← c.self.view_is) (entries ∙ (insert_entry-new notes c.args.row c.args.scn new ∙ noted-new notes c.args.row c.args.scn new))

pub returns-else-not-contains_key-clause-notes : goal.returns-else-not-contains_key-clause-notes
returns-else-not-contains_key-clause-notes c =
    let notes = c.self.inside.first.entries in
    let known = c.contains_key.ensures ∙ (is_some-lookup (nat_eq c.args.row) notes ∙ any-rows_of c.args.row notes) in
    rw (← c.self.view_is) (noted-again notes c.args.row c.args.scn (sym known ∙ c.if-not-contains_key.false))
