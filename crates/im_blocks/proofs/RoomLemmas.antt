-- Room made for versions, seen over all row numbers.
use Rattle.std.proofs.Common.{◌≡◌, ◌≤◌, List, ◌∷◌, ◌++◌, [], refl, ap, ◌∙◌, sym, arith, le_refl, length, append_assoc, append-nil}
use Rattle.std.specs.List.{All}
use Rattle.std.proofs.lemmas.Grind.{flat_map-append}
use Rattle.std.proofs.lemmas.List.Elements.{All-push, All-weaker}
use Rattle.im_history.specs.declared.change.Change.{Change}
use Rattle.im_history.specs.Puts.{all_changes}
use Rattle.im_blocks.specs.declared.ready.Ready.{Ready}
use Rattle.im_blocks.specs.declared.ready.Ready.TheVariants.{Run, One}
use Rattle.im_blocks.specs.Chains.{AllVersions}
use Rattle.im_blocks.specs.Readied.{HasPlace, IsReadyFor, changes_of, ready_changes}
use Rattle.im_blocks.specs.Transitions.{SameVersions}
use Rattle.im_blocks.specs.inner.Readying.{AreReady}
use Rattle.im_blocks.proofs.VersionLemmas.{ready_changes-push}

pub SameVersions-refl : (blocks : AllVersions) → SameVersions blocks blocks
SameVersions-refl blocks = record {
  versions = λ table rid. refl;
  ready = λ table rid put ready. ready;
  cells = λ table rid has. has;
  room = le_refl _;
}

pub SameVersions-trans : (a b c : AllVersions) → SameVersions a b → SameVersions b c → SameVersions a c
SameVersions-trans a b c ab bc = record {
  versions = λ table rid. bc.versions table rid ∙ ab.versions table rid;
  ready = λ table rid put ready. bc.ready table rid put (ab.ready table rid put ready);
  cells = λ table rid has. bc.cells table rid (ab.cells table rid has);
  room = let first = ab.room in let second = bc.room in omega (arith, first, second);
}

-- what had its place has it still
HasPlace-kept : (old new : AllVersions) (ready : Ready) → SameVersions old new → HasPlace old ready → HasPlace new ready
HasPlace-kept old new (Run table first rows) same place = record {
  some = place.some;
  cells = λ t r is. same.cells t r (place.cells t r is);
  free = record { each = λ t r is. same.versions t r ∙ place.free.each t r is };
}
HasPlace-kept old new (One change) same place = same.ready change.table change.rid _ place

pub places-kept : (old new : AllVersions) (ready : List Ready) → SameVersions old new → All (HasPlace old) ready → All (HasPlace new) ready
places-kept old new ready same places =
    All-weaker (HasPlace old) (HasPlace new) (λ one place. HasPlace-kept old new one same place) ready places

-- and one more is ready
pub AreReady-push : (old new : AllVersions) (before after : List Ready) (one : Ready) → SameVersions old new → All (HasPlace old) before
    → HasPlace new one → after ≡ before ++ one ∷ [] → AreReady new before after (changes_of one)
AreReady-push old new before after one same places place is = rw is (record {
  changes_are = ready_changes-push before one;
  each = All-push (HasPlace new) before one (places-kept old new before same places) place;
})

-- and those of a piece, one behind another
pub AreReady-more : (old new : AllVersions) (first before after : List Ready) (done more : List Change) → AreReady old first before done
    → AreReady new before after more → AreReady new first after (done ++ more)
AreReady-more old new first before after done more was is = record {
  changes_are = is.changes_are ∙ (ap (λ (l : List Change). l ++ more) was.changes_are ∙ append_assoc (ready_changes first) done more);
  each = is.each;
}

pub AreReady-none : (blocks : AllVersions) (ready : List Ready) → All (HasPlace blocks) ready → AreReady blocks ready ready []
AreReady-none blocks ready places = record { changes_are = sym (append-nil (ready_changes ready)); each = places }

-- the changes of pieces, one piece more
pub all_changes-push : (pieces : List (List Change)) (piece : List Change) → all_changes (pieces ++ piece ∷ []) ≡ all_changes pieces ++ piece
all_changes-push pieces piece =
    flat_map-append (λ changes. changes) pieces (piece ∷ []) ∙ ap (λ (last : List Change). all_changes pieces ++ last) (append-nil piece)

-- with room among the runs all are ready
pub IsReadyFor-all : (old new : AllVersions) (ready : List Ready) (changes : List Change) → SameVersions old new → AreReady old [] ready changes
    → length ready ≤ new.room → IsReadyFor new ready changes
IsReadyFor-all old new ready changes same are room = record {
  changes_are = are.changes_are;
  room = record { each = places-kept old new ready same are.each; runs = room };
}
