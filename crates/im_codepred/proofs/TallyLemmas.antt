-- What the chosen values of a column come to.
use Rattle.std.proofs.Common.{◌≡◌, ℕ, ◌<◌, Bool, true, false, List, [], ◌∷◌, length, get_or, fold, All, sym, refl, ap, subst, ◌∙◌, arith}
use Rattle.std.proofs.lemmas.List.Elements.{All-head, All-tail, All-cons}
use Rattle.im_values.specs.declared.content.Content.{Content as Value}
use Rattle.im_values.specs.declared.content.Content.TheVariants.{Null}
use Rattle.im_codes.specs.Dictionary.{coded, values_at, IsDictionary}
use Rattle.im_codepred.specs.declared.tally.Tally.{Tally}
use Rattle.im_codepred.specs.Tallies.{chosen, some_of, IsTallyOf, IsTallyFor}
use Rattle.im_codepred.specs.inner.Tallying.{FoundOf, taken, nothing, IsInside, TotalsOf, totals, totals_of, no_totals, with_value, Shows, ShowsFor}
use Rattle.im_codepred.proofs.FoundLemmas.{found-stands, totals-are}

-- the chosen of the values are the values of the chosen codes
pub chosen-values : (dict : List Value) (mask : List Bool) (codes : List ℕ) → values_at dict (chosen mask codes) ≡ chosen mask (values_at dict codes)
chosen-values dict [] codes = refl
chosen-values dict (b ∷ mask) [] = refl
chosen-values dict (true ∷ mask) (code ∷ codes) = ap (λ l. get_or dict code Null ∷ l) (chosen-values dict mask codes)
chosen-values dict (false ∷ mask) (code ∷ codes) = chosen-values dict mask codes

-- what holds of all holds of the chosen
pub chosen-all : (n : ℕ) (mask : List Bool) (codes : List ℕ) → All (λ code. code < n) codes → All (λ code. code < n) (chosen mask codes)
chosen-all n [] codes all = λ k d h. absurd (omega (arith, h))
chosen-all n (b ∷ mask) [] all = λ k d h. absurd (omega (arith, h))
chosen-all n (true ∷ mask) (code ∷ codes) all =
    All-cons (λ c. c < n) code (chosen mask codes) (All-head (λ c. c < n) code codes all) (chosen-all n mask codes (All-tail (λ c. c < n) code codes all))
chosen-all n (false ∷ mask) (code ∷ codes) all = chosen-all n mask codes (All-tail (λ c. c < n) code codes all)

pub inside-nothing : (dict : List Value) → IsInside dict nothing
inside-nothing dict = record { least = omega arith; greatest = omega arith }

-- the ends that are found are codes
ends-inside : (dict : List Value) (mask : List Bool) (codes : List ℕ) (found : FoundOf) → IsDictionary dict → All (λ code. code < length (coded dict)) codes →
    found ≡ fold (taken dict) nothing (chosen mask codes) → IsInside dict found
ends-inside dict mask codes found is low comes =
    let stands = found-stands dict nothing (chosen mask codes) is (inside-nothing dict) (chosen-all (length (coded dict)) mask codes low) in
    let P : FoundOf → Type 0 = λ f. IsInside dict f in
    subst P (sym comes) stands.inside

-- what is shown of the totals of values is their tally
pub tally-shown : (vs : List Value) (t : TotalsOf) (tally : Tally) → Shows t tally → t ≡ totals vs → IsTallyOf vs tally
tally-shown vs t tally shows is = record {
  values = shows.values ∙ ap (λ t. t.values) is;
  sum = shows.sum ∙ ap (λ t. t.sum) is;
  least = shows.least ∙ ap (λ t. some_of t.least) is;
  greatest = shows.greatest ∙ ap (λ t. some_of t.greatest) is;
  within = shows.within;
}

codes-come : (dict : List Value) (mask : List Bool) (codes : List ℕ) (found : FoundOf) (tally : Tally) → IsDictionary dict →
    All (λ code. code < length (coded dict)) codes → found ≡ fold (taken dict) nothing (chosen mask codes) → Shows (totals_of dict found) tally →
    IsTallyOf (chosen mask (values_at (coded dict) codes)) tally
codes-come dict mask codes found tally is low comes shows =
    let stands = found-stands dict nothing (chosen mask codes) is (inside-nothing dict) (chosen-all (length (coded dict)) mask codes low) in
    tally-shown (chosen mask (values_at (coded dict) codes)) (totals_of dict found) tally shows
    (ap (totals_of dict) comes ∙ (stands.same
    ∙ (totals-are (values_at (coded dict) (chosen mask codes)) ∙ ap totals (chosen-values (coded dict) mask codes))))

-- the same of the values of a dictionary, as they are lent
pub found-inside : (dict values : List Value) (mask : List Bool) (codes : List ℕ) (found : FoundOf) → values ≡ dict → IsDictionary dict →
    All (λ code. code < length (coded dict)) codes → found ≡ fold (taken values) nothing (chosen mask codes) → IsInside values found
found-inside dict values mask codes found same is low comes =
    let P : List Value → Type 0 = λ d. IsInside d found in
    subst P (sym same) (ends-inside dict mask codes found is low (comes ∙ ap (λ d. fold (taken d) nothing (chosen mask codes)) same))

pub codes-tally : (dict values : List Value) (mask : List Bool) (codes : List ℕ) (found : FoundOf) (tally : Tally) → values ≡ dict → IsDictionary dict →
    All (λ code. code < length (coded dict)) codes → found ≡ fold (taken values) nothing (chosen mask codes) → Shows (totals_of values found) tally →
    IsTallyOf (chosen mask (values_at (coded dict) codes)) tally
codes-tally dict values mask codes found tally same is low comes shows =
    let P : List Value → Type 0 = λ d. Shows (totals_of d found) tally in
    codes-come dict mask codes found tally is low (comes ∙ ap (λ d. fold (taken d) nothing (chosen mask codes)) same) (subst P same shows)

pub values-tally : (vs : List Value) (t : TotalsOf) (tally : Tally) → t ≡ fold with_value no_totals vs → Shows t tally → IsTallyOf vs tally
values-tally vs t tally comes shows = tally-shown vs t tally shows (comes ∙ totals-are vs)

-- the same, with the ends where they are wanted
pub values-tally-for : (ends : Bool) (vs : List Value) (t : TotalsOf) (tally : Tally) → t ≡ fold with_value no_totals vs → ShowsFor ends t tally → IsTallyFor ends vs tally
values-tally-for ends vs t tally comes shows =
    let is : t ≡ totals vs = comes ∙ totals-are vs in
    record {
      values = shows.values ∙ ap (λ t. t.values) is;
      sum = shows.sum ∙ ap (λ t. t.sum) is;
      least = λ wanted. shows.least wanted ∙ ap (λ t. some_of t.least) is;
      greatest = λ wanted. shows.greatest wanted ∙ ap (λ t. some_of t.greatest) is;
      within = shows.within;
    }
