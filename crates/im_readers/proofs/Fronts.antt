-- Facts about what stands at the front of a list.
use Rattle.std.proofs.Common.{◌≡◌, Bool, true, false, List, [], ◌∷◌, ◌++◌, refl, ◌∙◌}
use Rattle.std.specs.Prelude.{◌||◌}
use Rattle.im_readers.specs.Grammar.{Ends, at_end, at_other, BeginsWith, begins_with, SameFirst, no_first, one_first, goes_behind}

pub SameFirst-refl : {T : Type 0} (xs : List T) → SameFirst xs xs
SameFirst-refl [] = no_first
SameFirst-refl (x ∷ xs) = one_first x xs xs

pub SameFirst-append : {T : Type 0} (front xs ys : List T) → SameFirst xs ys → SameFirst (front ++ xs) (front ++ ys)
SameFirst-append [] xs ys same = same
SameFirst-append (x ∷ front) xs ys same = one_first x (front ++ xs) (front ++ ys)

pub Ends-same : {T : Type 0} (goes : T → Bool) (xs ys : List T) → SameFirst xs ys → Ends goes xs → Ends goes ys
Ends-same goes xs ys no_first e = at_end
Ends-same goes xs ys (one_first u us vs) (at_other v ws e) = at_other u vs e

pub BeginsWith-same : {T : Type 0} (begins : T → Bool) (xs ys : List T) → SameFirst xs ys → BeginsWith begins xs → BeginsWith begins ys
BeginsWith-same begins xs ys no_first b = elim b [ ]
BeginsWith-same begins xs ys (one_first u us vs) (begins_with v ws e) = begins_with u vs e

pub BeginsWith-append : {T : Type 0} (begins : T → Bool) (xs ys : List T) → BeginsWith begins xs → BeginsWith begins (xs ++ ys)
BeginsWith-append begins xs ys (begins_with u us e) = begins_with u (us ++ ys) e

-- where the tests agree
pub Ends-by : {T : Type 0} (f g : T → Bool) → ((t : T) → g t ≡ f t) → (xs : List T) → Ends f xs → Ends g xs
Ends-by f g agree [] e = at_end
Ends-by f g agree (t ∷ xs) (at_other u us e) = at_other t xs (agree t ∙ e)

or_false : (a b : Bool) → a ≡ false → b ≡ false → (a || b) ≡ false
or_false true b p q = absurd cc
or_false false b p q = q

or_first : (a b : Bool) → (a || b) ≡ false → a ≡ false
or_first true b p = absurd cc
or_first false b p = refl

or_second : (a b : Bool) → (a || b) ≡ false → b ≡ false
or_second true b p = absurd cc
or_second false b p = p

-- nothing goes on behind both where nothing goes on behind the first, nor behind the second
pub Ends-behind : {T : Type 0} (second : List T) (f g : T → Bool) (rest : List T) → Ends f (second ++ rest) → Ends g rest → Ends (goes_behind second f g) rest
Ends-behind second f g [] p q = at_end
Ends-behind [] f g (t ∷ rest) (at_other u us p) (at_other v vs q) = at_other t rest (or_false (f t) (g t) p q)
Ends-behind (x ∷ second) f g (t ∷ rest) p (at_other v vs q) = at_other t rest q

pub Ends-second : {T : Type 0} (second : List T) (f g : T → Bool) (rest : List T) → Ends (goes_behind second f g) rest → Ends g rest
Ends-second second f g [] e = at_end
Ends-second [] f g (t ∷ rest) (at_other u us e) = at_other t rest (or_second (f t) (g t) e)
Ends-second (x ∷ second) f g (t ∷ rest) (at_other u us e) = at_other t rest e

pub Ends-first : {T : Type 0} (second : List T) (f g : T → Bool) (rest : List T) → Ends f second → Ends (goes_behind second f g) rest → Ends f (second ++ rest)
Ends-first [] f g [] apart e = at_end
Ends-first [] f g (t ∷ rest) apart (at_other u us e) = at_other t rest (or_first (f t) (g t) e)
Ends-first (x ∷ second) f g rest (at_other u us p) e = at_other x (second ++ rest) p
