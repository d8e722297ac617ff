-- Rows at row numbers of their own of which most are picked of the rows of an image.
use Rattle.std.proofs.Common.{◌≡◌, ℕ, zero, suc, ◌+◌, ◌*◌, ◌<◌, List, [], ◌∷◌, ◌++◌, length, get_or, All, Option, Some, refl, sym, ap, ◌∙◌, subst, arith, append_assoc}
use Rattle.std.specs.List.{slice_get}
use Rattle.std.proofs.lemmas.List.{append-nil, length-append, get_or_append_left}
use Rattle.std.proofs.lemmas.Option.{slice_get-get_or}
use Rattle.std.proofs.Math.Seq.{get_or-append_seam}
use Rattle.im_values.specs.Runs.{picked}
use Rattle.im_values.specs.Stretches.{cut}
use Rattle.im_values.specs.declared.content.Content.{Content as Value}
use Rattle.im_values.proofs.ForCallers.{cut-push}
use Rattle.im_history.specs.Fetched.{each_at}
use Rattle.im_history.proofs.FetchedLaws.{each_at-push}
use Rattle.im_blocks.specs.declared.picking.Picking.{Picking}
use Rattle.im_blocks.specs.inner.Picked.{ArePicked, HasGone, Picks, read_of, rows_of}
use Rattle.im_blocks.proofs.GatherLemmas.{length-cut}

abbrev Read : Type 0
Read = List (ℕ × Option (List Value))

abbrev Rows : Type 0
Rows = List (List Value)

-- each place is below the end
abbrev AreBelow : ℕ → List ℕ → Type 0
AreBelow end places = All (λ place. place < end) places

length-picked : (rows : Rows) (places : List ℕ) → length (picked rows places) ≡ length places
length-picked rows [] = refl
length-picked rows (place ∷ places) = ap suc (length-picked rows places)

picked-push : (rows : Rows) (places : List ℕ) (place : ℕ) → picked rows (places ++ place ∷ []) ≡ picked rows places ++ get_or rows place [] ∷ []
picked-push rows [] place = refl
picked-push rows (first ∷ places) place = ap (λ (l : Rows). get_or rows first [] ∷ l) (picked-push rows places place)

-- rows behind those that are picked
picked-longer : (rows more : Rows) (places : List ℕ) → AreBelow (length rows) places → picked (rows ++ more) places ≡ picked rows places
picked-longer rows more [] below = refl
picked-longer rows more (place ∷ places) below =
    ap (λ (row : List Value). row ∷ picked (rows ++ more) places) (get_or_append_left rows more [] place (below zero 0 (omega arith)))
    ∙ ap (λ (l : Rows). get_or rows place [] ∷ l) (picked-longer rows more places (λ k d within. below (suc k) d (omega (arith, within))))

below-push : (end : ℕ) (places : List ℕ) (place : ℕ) → AreBelow end places → place < end → (k d : ℕ) → k < length (places ++ place ∷ [])
    → get_or (places ++ place ∷ []) k d < end
below-push end [] place below is zero d within = is
below-push end [] place below is (suc k) d within = absurd (omega (arith, within))
below-push end (first ∷ places) place below is zero d within = below zero d (omega arith)
below-push end (first ∷ places) place below is (suc k) d within =
    below-push end places place (λ k d w. below (suc k) d (omega (arith, w))) is k d (omega (arith, within))

below-more : (end further : ℕ) (places : List ℕ) → AreBelow end places → end < further → AreBelow further places
below-more end further places below more = λ k d within. let is = below k d within in omega (arith, is, more)

-- one row number more, with the row at a place
each-push : (rids : List ℕ) (rows : Rows) (places : List ℕ) (rid place : ℕ) → length rids ≡ length places →
    each_at (rids ++ rid ∷ []) (picked rows (places ++ place ∷ [])) ≡ each_at rids (picked rows places) ++ (rid, Some (get_or rows place [])) ∷ []
each-push rids rows places rid place long =
    let same : length rids ≡ length (picked rows places) = long ∙ sym (length-picked rows places) in
    ap (λ (l : Rows). each_at (rids ++ rid ∷ []) l) (picked-push rows places place)
    ∙ each_at-push rids (picked rows places) rid (get_or rows place []) same

more-each : (rids : List ℕ) (places : List ℕ) (rid place : ℕ) (new-rids new-places : List ℕ) → length rids ≡ length places →
    new-rids ≡ rids ++ rid ∷ [] → new-places ≡ places ++ place ∷ [] → length new-rids ≡ length new-places
more-each rids places rid place new-rids new-places long rids_is places_is =
    let a : length new-rids ≡ length rids + 1 = ap length rids_is ∙ length-append rids (rid ∷ []) in
    let b : length new-places ≡ length places + 1 = ap length places_is ∙ length-append places (place ∷ []) in
    omega (arith, a, b, long)

-- a row of the image more
pub Picks-pick : (old new : Picking) (shown : Rows) (rid place : ℕ) → ArePicked old shown → place < length shown
    → new.fetched ≡ old.fetched → new.width ≡ old.width → new.more ≡ old.more → new.values.items ≡ old.values.items
    → new.rids.items ≡ old.rids.items ++ rid ∷ [] → new.places.items ≡ old.places.items ++ place ∷ []
    → Picks old new shown ((rid, slice_get shown place) ∷ [])
Picks-pick old new shown rid place whole there fetched_is width_is more_is values_is rids_is places_is =
    let rids = old.rids.items in
    let places = old.places.items in
    let others = cut old.more old.width old.values.items in
    let rows = shown ++ others in
    let rows_are : rows_of new shown ≡ rows =
    ap (λ (n : ℕ). shown ++ cut n new.width new.values.items) more_is
    ∙ (ap (λ (n : ℕ). shown ++ cut old.more n new.values.items) width_is
    ∙ ap (λ (l : List Value). shown ++ cut old.more old.width l) values_is) in
    let row : Some (get_or rows place []) ≡ slice_get shown place =
    ap Some (get_or_append_left shown others [] place there) ∙ sym (slice_get-get_or shown place [] there) in
    let below : place < length shown + old.more = omega (arith, there) in
    record {
      rows = ap (λ (l : Read). l ++ each_at new.rids.items (picked (rows_of new shown) new.places.items)) fetched_is
          ∙ (ap (λ (l : Rows). old.fetched ++ each_at new.rids.items (picked l new.places.items)) rows_are
          ∙ (ap (λ (l : List ℕ). old.fetched ++ each_at l (picked rows new.places.items)) rids_is
          ∙ (ap (λ (l : List ℕ). old.fetched ++ each_at (rids ++ rid ∷ []) (picked rows l)) places_is
          ∙ (ap (λ (l : Read). old.fetched ++ l) (each-push rids rows places rid place whole.each)
          ∙ (ap (λ (r : Option (List Value)). old.fetched ++ (each_at rids (picked rows places) ++ (rid, r) ∷ [])) row
          ∙ sym (append_assoc old.fetched (each_at rids (picked rows places)) ((rid, slice_get shown place) ∷ [])))))));
      whole = record {
        long = ap length values_is ∙ (whole.long ∙ (ap (λ (n : ℕ). n * old.width) (sym more_is) ∙ ap (λ (n : ℕ). new.more * n) (sym width_is)));
        places = subst (λ (l : List ℕ). AreBelow (length shown + new.more) l) (sym places_is)
            (subst (λ (n : ℕ). AreBelow (length shown + n) (places ++ place ∷ [])) (sym more_is) (below-push (length shown + old.more) places place whole.places below));
        each = more-each rids places rid place new.rids.items new.places.items whole.each rids_is places_is;
      };
    }

-- a row of its own more
pub Picks-put : (old new : Picking) (shown : Rows) (rid place : ℕ) (row : List Value) → ArePicked old shown → length row ≡ old.width
    → place ≡ length shown + old.more
    → new.fetched ≡ old.fetched → new.width ≡ old.width → new.more ≡ old.more + 1 → new.values.items ≡ old.values.items ++ row
    → new.rids.items ≡ old.rids.items ++ rid ∷ [] → new.places.items ≡ old.places.items ++ place ∷ []
    → Picks old new shown ((rid, Some row) ∷ [])
Picks-put old new shown rid place row whole wide place_is fetched_is width_is more_is values_is rids_is places_is =
    let rids = old.rids.items in
    let places = old.places.items in
    let others = cut old.more old.width old.values.items in
    let rows = shown ++ others in
    let one_more : old.more + 1 ≡ suc old.more = omega arith in
    let rows_are : rows_of new shown ≡ rows ++ row ∷ [] =
    ap (λ (n : ℕ). shown ++ cut n new.width new.values.items) (more_is ∙ one_more)
    ∙ (ap (λ (n : ℕ). shown ++ cut (suc old.more) n new.values.items) width_is
    ∙ (ap (λ (l : List Value). shown ++ cut (suc old.more) old.width l) values_is
    ∙ (ap (λ (l : Rows). shown ++ l) (cut-push old.more old.width old.values.items row whole.long wide)
    ∙ sym (append_assoc shown others (row ∷ []))))) in
    let long : length rows ≡ length shown + old.more =
    length-append shown others ∙ ap (λ (n : ℕ). length shown + n) (length-cut old.more old.width old.values.items) in
    let at : place ≡ length rows = place_is ∙ sym long in
    let found : get_or (rows ++ row ∷ []) place [] ≡ row =
    ap (λ (n : ℕ). get_or (rows ++ row ∷ []) n []) at ∙ get_or-append_seam rows row [] [] in
    let before : AreBelow (length rows) places = subst (λ (n : ℕ). AreBelow n places) (sym long) whole.places in
    let old_rows : picked (rows ++ row ∷ []) places ≡ picked rows places = picked-longer rows (row ∷ []) places before in
    let below : place < length shown + new.more = omega (arith, place_is, more_is) in
    record {
      rows = ap (λ (l : Read). l ++ each_at new.rids.items (picked (rows_of new shown) new.places.items)) fetched_is
          ∙ (ap (λ (l : Rows). old.fetched ++ each_at new.rids.items (picked l new.places.items)) rows_are
          ∙ (ap (λ (l : List ℕ). old.fetched ++ each_at l (picked (rows ++ row ∷ []) new.places.items)) rids_is
          ∙ (ap (λ (l : List ℕ). old.fetched ++ each_at (rids ++ rid ∷ []) (picked (rows ++ row ∷ []) l)) places_is
          ∙ (ap (λ (l : Read). old.fetched ++ l) (each-push rids (rows ++ row ∷ []) places rid place whole.each)
          ∙ (ap (λ (r : List Value). old.fetched ++ (each_at rids (picked (rows ++ row ∷ []) places) ++ (rid, Some r) ∷ [])) found
          ∙ (ap (λ (l : Rows). old.fetched ++ (each_at rids l ++ (rid, Some row) ∷ [])) old_rows
          ∙ sym (append_assoc old.fetched (each_at rids (picked rows places)) ((rid, Some row) ∷ []))))))));
      whole = record {
        long = longer;
        places = subst (λ (l : List ℕ). AreBelow (length shown + new.more) l) (sym places_is)
            (below-push (length shown + new.more) places place
            (below-more (length shown + old.more) (length shown + new.more) places whole.places (omega (arith, more_is))) below);
        each = more-each rids places rid place new.rids.items new.places.items whole.each rids_is places_is;
      };
    }
  where
    longer : length new.values.items ≡ new.more * new.width
    longer =
        let sum : length new.values.items ≡ length old.values.items + length row = ap length values_is ∙ length-append old.values.items row in
        let product : new.more * new.width ≡ (old.more + 1) * old.width =
        ap (λ (n : ℕ). n * new.width) more_is ∙ ap (λ (n : ℕ). (old.more + 1) * n) width_is in
        let all : (old.more + 1) * old.width ≡ old.more * old.width + old.width = grind arith in
        let was = whole.long in
        omega (arith, sum, was, product, all, wide)

-- where no row is picked, all was fetched
none-picked : (fetched : Read) (rids : List ℕ) (rows : Rows) → rids ≡ [] → fetched ++ each_at rids rows ≡ fetched
none-picked fetched rids rows none = ap (λ (l : List ℕ). fetched ++ each_at l rows) none ∙ append-nil fetched

no-places : (places : List ℕ) → 0 ≡ length places → places ≡ []
no-places [] none = refl
no-places (place ∷ places) none = absurd (omega (arith, none))

pub HasGone-none : (p : Picking) (shown : Rows) → ArePicked p shown → p.rids.items ≡ [] → HasGone p p shown
HasGone-none p shown whole none = record {
  fetched_is = sym (none-picked p.fetched p.rids.items (picked (rows_of p shown) p.places.items) none);
  rids_none = none;
  places_none = no-places p.places.items (sym (ap length none) ∙ whole.each);
  whole = whole;
}

-- once no row is picked any more
pub HasGone-all : (old new : Picking) (shown : Rows) → new.fetched ≡ read_of old shown → new.rids.items ≡ [] → new.places.items ≡ []
    → new.values.items ≡ [] → new.more ≡ 0 → HasGone old new shown
HasGone-all old new shown fetched_is rids_none places_none values_none more_none = record {
  fetched_is = fetched_is;
  rids_none = rids_none;
  places_none = places_none;
  whole = record {
    long = ap length values_none ∙ sym (ap (λ (n : ℕ). n * new.width) more_none ∙ omega arith);
    places = λ k d within. let none : length new.places.items ≡ 0 = ap length places_none in absurd (omega (arith, none, within));
    each = ap length rids_none ∙ sym (ap length places_none);
  };
}

-- what was read once no row is picked any more
pub Picks-gone : (old mid new : Picking) (shown : Rows) (more : Read) → HasGone old mid shown → new.fetched ≡ mid.fetched ++ more
    → new.rids.items ≡ mid.rids.items → ArePicked new shown → Picks old new shown more
Picks-gone old mid new shown more gone is rids_is whole = record {
  rows = none-picked new.fetched new.rids.items (picked (rows_of new shown) new.places.items) (rids_is ∙ gone.rids_none)
      ∙ (is ∙ ap (λ (l : Read). l ++ more) gone.fetched_is);
  whole = whole;
}
