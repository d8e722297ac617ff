-- Good words are taken, and come to what stands in them.
use Rattle.std.proofs.Common.{◌≡◌, ◌≢◌, ◌∙◌, ◌||◌, ◌++◌, ap, refl, sym, subst, ℕ, Bool, true, false, List, [], ◌∷◌, arith, codes, length, map, suc}
use Rattle.std.specs.List.{All, AllPairs, flat_map, fold, slice_index_or}
use Rattle.std.specs.Str.{bytes_eq}
use Rattle.std.proofs.lemmas.List.{append-nil, append_assoc}
use Rattle.std.proofs.lemmas.List.Folds.{list_any-append}
use Rattle.clap.specs.Faults.{turn_fault, walk_fault}
use Rattle.clap.specs.Kinds.{Kinds, or_else}
use Rattle.clap.specs.Simple.{Shape}
use Rattle.clap.specs.Walk.{Held, Names, Row, Walk, has_row, walked}
use Rattle.im_words.proofs.ItemLemmas.{row_for, still_fresh}
use Rattle.im_words.proofs.StepLemmas.{IsAtMode, IsPlain, Passes, Settles, Walks, between, item_walks, position_after, rules, shape}
use Rattle.im_words.specs.Command.{ModeNames}
use Rattle.im_words.specs.Good.{Item, Text, about, apart, joined, mode, spelled}
use Rattle.im_words.specs.declared.mode.Mode.{Mode}

-- ---- words one after another

pub or_none : (a b : Kinds) → or_else a b ≡ [] → (a ≡ []) × (b ≡ [])
or_none [] b h = (refl, h)
or_none (k ∷ ks) b h = absurd (cons_nil h)
  where
    cons_nil : k ∷ ks ≡ [] → ⊥
    cons_nil e = let bad : suc (length ks) ≡ 0 = ap length e in omega (arith, bad)

fold-append : {A B : Type 0} (f : B → A → B) (a : B) (xs ys : List A) → fold f a (xs ++ ys) ≡ fold f (fold f a xs) ys
fold-append f a [] ys = refl
fold-append f a (x ∷ xs) ys = fold-append f (f a x) xs ys

walk_fault-append : (s : Shape) (ns : Names) (w : Walk) (xs ys : List Text) → walk_fault s ns w xs ≡ []
    → walk_fault s ns w (xs ++ ys) ≡ walk_fault s ns (fold (walked s.rules ns) w xs) ys
unfolding walk_fault
walk_fault-append s ns w [] ys none = refl
walk_fault-append s ns w (x ∷ xs) ys none =
    let parts = or_none (turn_fault s ns w x) (walk_fault s ns (walked s.rules ns w x) xs) none in
    rw parts.0 (walk_fault-append s ns (walked s.rules ns w x) xs ys parts.1)

walks_on : (names : ModeNames) (from : Walk) (first rest : List Text) (rows all : List Row) (n k : ℕ) (a : Walks names from first rows n)
    → Walks names (between a.held n) rest all k → Walks names from (first ++ rest) all k
walks_on names from first rest rows all n k a b = record {
  held = b.held;
  goes = fold-append (walked (rules names) []) from first rest ∙ (ap (λ w. fold (walked (rules names) []) w rest) a.goes ∙ b.goes);
  fault = walk_fault-append (shape names) [] from first rest a.fault ∙ (ap (λ w. walk_fault (shape names) [] w rest) a.goes ∙ b.fault);
  settles = b.settles;
}

nothing_walks : (names : ModeNames) (h : Held) (n : ℕ) (rows : List Row) → Settles names h rows → Walks names (between h n) [] rows n
unfolding walk_fault
nothing_walks names h n rows settles = record { held = h; goes = refl; fault = refl; settles = settles }

-- ---- items one after another

-- the mode is looked for at the first place, as long as it did not come
abbrev pub IsReady : List Row → ℕ → Type 0
IsReady rows n = has_row (codes "mode") rows ≡ false → n ≡ 1

at_mode : (x : Item) (rows : List Row) (n : ℕ) → IsReady rows n → has_row (about x) rows ≡ false → IsAtMode x n
at_mode (mode m) rows n ready fresh = ready fresh
at_mode (apart s number) rows n ready fresh = tt
at_mode (joined s number) rows n ready fresh = tt

earlier : (id : Text) (rows : List Row) (r : Row) → has_row id (rows ++ r ∷ []) ≡ false → has_row id rows ≡ false
earlier id rows r none = go (has_row id rows) refl
  where
    go : (b : Bool) → has_row id rows ≡ b → has_row id rows ≡ false
    go false b = b
    go true b =
        let there : has_row id (rows ++ r ∷ []) ≡ true = list_any-append (λ x. bytes_eq x.id id) rows (r ∷ []) ∙ rw b refl in
        let bad : true ≡ false = sym there ∙ none in
        cc

came : (m : Mode) (rows : List Row) → has_row (codes "mode") (rows ++ row_for (mode m) ∷ []) ≡ true
came m rows = list_any-append (λ x. bytes_eq x.id (codes "mode")) rows (row_for (mode m) ∷ []) ∙ go (has_row (codes "mode") rows)
  where
    go : (b : Bool) → (b || true) ≡ true
    go true = refl
    go false = refl

still_ready : (x : Item) (rows : List Row) (n : ℕ) → IsReady rows n → IsReady (rows ++ row_for x ∷ []) (position_after x n)
still_ready (mode m) rows n ready = λ none. let bad : true ≡ false = sym (came m rows) ∙ none in cc
still_ready (apart s number) rows n ready = λ none. ready (earlier (codes "mode") rows (row_for (apart s number)) none)
still_ready (joined s number) rows n ready = λ none. ready (earlier (codes "mode") rows (row_for (joined s number)) none)

pub record AreTaken (names : ModeNames) (rows : List Row) (items : List Item) : Type 0 where
  pub fresh : All (λ x. has_row (about x) rows ≡ false) items
  pub once : AllPairs (λ x y. about x ≢ about y) items
  pub pass : All (Passes names) items
  pub plain : All IsPlain items

rest_taken : (names : ModeNames) (rows : List Row) (x : Item) (items : List Item) → AreTaken names rows (x ∷ items)
    → AreTaken names (rows ++ row_for x ∷ []) items
rest_taken names rows x items t = record {
  fresh = λ k d lt. still_fresh (about (slice_index_or items k d)) x rows (t.fresh (suc k) d (omega (arith, lt)))
      (t.once 0 (suc k) d (omega arith) (omega (arith, lt)));
  once = λ i j d lt high. t.once (suc i) (suc j) d (omega (arith, lt)) (omega (arith, high));
  pass = λ k d lt. t.pass (suc k) d (omega (arith, lt));
  plain = λ k d lt. t.plain (suc k) d (omega (arith, lt));
}

pub record Ends (names : ModeNames) (from : Walk) (words : List Text) (all : List Row) : Type 0 where
  pub position : ℕ
  pub walks : Walks names from words all position

pub items_walk : (names : ModeNames) (items : List Item) (h : Held) (n : ℕ) (rows : List Row) → Settles names h rows → AreTaken names rows items
    → IsReady rows n → Ends names (between h n) (flat_map spelled items) (rows ++ map row_for items)
items_walk names [] h n rows settles taken ready = record {
  position = n;
  walks = subst (λ all. Walks names (between h n) [] all n) (sym (append-nil rows)) (nothing_walks names h n rows settles);
}
items_walk names (x ∷ items) h n rows settles taken ready =
    let one = item_walks names x h n rows settles (taken.fresh 0 x (omega arith)) (taken.pass 0 x (omega arith)) (taken.plain 0 x (omega arith))
    (at_mode x rows n ready (taken.fresh 0 x (omega arith))) in
    let rest = items_walk names items one.held (position_after x n) (rows ++ row_for x ∷ []) one.settles (rest_taken names rows x items taken)
    (still_ready x rows n ready) in
    record {
      position = rest.position;
      walks = subst (λ all. Walks names (between h n) (spelled x ++ flat_map spelled items) all rest.position)
          (append_assoc rows (row_for x ∷ []) (map row_for items))
          (walks_on names (between h n) (spelled x) (flat_map spelled items) (rows ++ row_for x ∷ []) ((rows ++ row_for x ∷ []) ++ map row_for items)
          (position_after x n) rest.position one rest.walks);
    }
