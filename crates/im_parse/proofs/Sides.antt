-- The first token of a statement tells whose it is.
use Rattle.std.proofs.Common.{◌≡◌, ℕ, zero, suc, ◌<◌, true, false, List, [], ◌∷◌, ◌++◌, take, Some, refl, sym, ap, subst, ◌∙◌, arith}
use Rattle.im_readers.specs.Grammar.{BeginsGood}
use Rattle.im_readers.proofs.Parts.{FirstKind, first_kind}
use Rattle.im_syntax.specs.declared.token.Token.{Token}
use Rattle.im_syntax.specs.declared.statement.Side.{Side}
use Rattle.im_syntax.specs.declared.statement.Side.TheVariants as side
use Rattle.im_syntax.specs.declared.statement.Stmt.{Stmt}
use Rattle.im_syntax.specs.declared.statement.Stmt.TheVariants as stmt
use Rattle.im_syntax.specs.Spelling.{spelling}
use Rattle.im_syntax.specs.Rules.{IsStmt, side_of, IsStmtOf}
use Rattle.im_parse.specs.inner.Marks.{Lead, lead}
use Rattle.im_parse.specs.inner.Statements.{side_by, is_side, begins_side, begins_of}
use Rattle.im_parse.specs.declared.parsing.ParseFault.{ParseFault}
use Rattle.im_parse.specs.declared.parsing.ParseFault.TheVariants as fault
use Rattle.im_parse.specs.Parsing.{IsPlaceAmong, IsFaultAmong}
use Rattle.im_parse.proofs.StatementLaws.{first_stmt, stmt_firsts}

side-first : (s : Stmt) → side_by (first_stmt s) ≡ Some (side_of s)
side-first stmt.Run = refl
side-first s = refl

kind_is : (k : Lead) (t : Token) (ts : List Token) → FirstKind lead k (t ∷ ts) → lead t ≡ k
kind_is k t ts (first_kind u us e) = e

nothing_first : (k : Lead) → FirstKind lead k [] → ⊥
nothing_first k f = elim f [ ]

-- a statement's first token tells its side
side_is : (s : Stmt) (t : Token) (ts : List Token) → IsStmt s → spelling s ≡ t ∷ ts → side_by (lead t) ≡ Some (side_of s)
side_is s t ts g e =
    ap side_by (kind_is (first_stmt s) t ts (subst (λ (x : List Token). FirstKind lead (first_stmt s) x) e (stmt_firsts s g))) ∙ side-first s

is_side-refl : (w : Side) → is_side w (Some w) ≡ true
is_side-refl side.Session = refl
is_side-refl side.Background = refl

is_side-true : (w v : Side) → is_side w (Some v) ≡ true → v ≡ w
is_side-true side.Session side.Session e = refl
is_side-true side.Session side.Background e = absurd cc
is_side-true side.Background side.Session e = absurd cc
is_side-true side.Background side.Background e = refl

of_side : (w : Side) (s : Stmt) (t : Token) (ts : List Token) → begins_side w t ≡ true → IsStmt s → spelling s ≡ t ∷ ts → IsStmtOf w s
of_side w s t ts b g e = record { is_stmt = g; is_of = is_side-true w (side_of s) (sym (ap (is_side w) (side_is s t ts g e)) ∙ b) }

not_side : (w : Side) (s : Stmt) (t : Token) (ts : List Token) → begins_side w t ≡ false → IsStmtOf w s → spelling s ≡ t ∷ ts → ⊥
not_side w s t ts b g e =
    let is : begins_side w t ≡ true = ap (is_side w) (side_is s t ts g.is_stmt e) ∙ ap (λ (x : Side). is_side w (Some x)) g.is_of ∙ is_side-refl w in
    cc

not_empty : (s : Stmt) → IsStmt s → spelling s ≡ [] → ⊥
not_empty s g e = nothing_first (first_stmt s) (subst (λ (x : List Token). FirstKind lead (first_stmt s) x) e (stmt_firsts s g))

-- each side has a statement
some_of : (w : Side) → BeginsGood spelling (IsStmtOf w) []
some_of side.Session = record { of = stmt.Commit; is_good = record { is_stmt = tt; is_of = refl }; more = spelling stmt.Commit; spells = refl }
some_of side.Background = record { of = stmt.Run; is_good = record { is_stmt = tt; is_of = refl }; more = spelling stmt.Run; spells = refl }

pub side_found : (w : Side) (ts : List Token) (s : Stmt) → begins_of w ts ≡ true → IsStmt s → ts ≡ spelling s → IsStmtOf w s
side_found w [] s b g e = absurd cc
side_found w (t ∷ ts) s b g e = of_side w s t ts b g (sym e)

wider : (w : Side) (ts : List Token) → BeginsGood spelling (IsStmtOf w) ts → BeginsGood spelling IsStmt ts
wider w ts b = record { of = b.of; is_good = b.is_good.is_stmt; more = b.more; spells = b.spells }

narrower : (w : Side) (t : Token) (ts : List Token) (n : ℕ) → begins_side w t ≡ true → BeginsGood spelling IsStmt (take n (t ∷ ts))
    → BeginsGood spelling (IsStmtOf w) (take n (t ∷ ts))
narrower w t ts zero b begun = some_of w
narrower w t ts (suc n) b begun = record {
  of = begun.of;
  is_good = of_side w begun.of t (take n ts ++ begun.more) b begun.is_good begun.spells;
  more =
      begun.more;
  spells = begun.spells;
}

-- where tokens that begin as the side's do leave the language, they leave the side's part of it
pub side_place : (w : Side) (ts : List Token) (n : ℕ) → begins_of w ts ≡ true → IsPlaceAmong IsStmt ts n → IsPlaceAmong (IsStmtOf w) ts n
side_place w [] n b p = absurd cc
side_place w (t ∷ ts) n b p = record {
  none = λ s g. p.none s g.is_stmt;
  longest = record {
    within = p.longest.within;
    begins = narrower w t ts n b p.longest.begins;
    longer = λ m lt le begun. p.longest.longer m lt le (wider w (take m (t ∷ ts)) begun);
  };
}

other_longer : (w : Side) (t : Token) (ts : List Token) (m : ℕ) → begins_side w t ≡ false → 0 < m → BeginsGood spelling (IsStmtOf w) (take m (t ∷ ts)) → ⊥
other_longer w t ts zero b lt begun = omega arith
other_longer w t ts (suc m) b lt begun = not_side w begun.of t (take m ts ++ begun.more) b begun.is_good begun.spells

-- other tokens leave it at once
pub other_place : (w : Side) (ts : List Token) → begins_of w ts ≡ false → IsPlaceAmong (IsStmtOf w) ts 0
other_place w [] b = record {
  none = λ s g e. not_empty s g.is_stmt (sym e);
  longest = record { within = omega arith; begins = some_of w; longer = λ m lt le begun. omega arith };
}
other_place w (t ∷ ts) b = record {
  none = λ s g e. not_side w s t ts b g (sym e);
  longest = record { within = omega arith; begins = some_of w; longer = λ m lt le begun. other_longer w t ts m b lt begun };
}

pub side_fault : (w : Side) (ts : List Token) → begins_of w ts ≡ true → (f : ParseFault) → IsFaultAmong IsStmt ts f → IsFaultAmong (IsStmtOf w) ts f
side_fault w ts b (fault.At n) p = side_place w ts n b p
side_fault w ts b fault.NoMemory p = tt
