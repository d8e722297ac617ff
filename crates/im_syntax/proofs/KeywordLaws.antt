-- The table of keywords has each keyword by its letters, and nothing else.
use Rattle.std.proofs.Common.{◌≡◌, ℕ, Bool, true, false, List, [], ◌∷◌, map, Some, None, refl, sym, ap, ◌∙◌}
use Rattle.std.specs.Prelude.{cond}
use Rattle.std.specs.Str.{bytes_eq}
use Rattle.std.proofs.lemmas.Slice.Eq.{bytes_eq-Decides}
use Rattle.im_syntax.specs.declared.keyword.Keyword.{Keyword}
use Rattle.im_syntax.specs.declared.keyword.Keyword.TheVariants as keyword
use Rattle.im_syntax.specs.declared.keyword.TheConstants.{KEYWORDS}
use Rattle.im_syntax.specs.Keywords.{keyword_of, letters, look_up}

abbrev Entry : Type 0
Entry = List ℕ × Keyword

table : List Entry
table = map (λ entry. (entry.0.now, entry.1)) KEYWORDS

-- what is found has the letters of its entry
found_at : (e : Entry) (k : Keyword) (word : List ℕ) (rest : List Entry) (is : Bool) → bytes_eq e.0 word ≡ is → letters e.1 ≡ e.0
    → (look_up rest word ≡ Some k → word ≡ letters k) → cond is (Some e.1) (look_up rest word) ≡ Some k → word ≡ letters k
found_at e k word rest true is own later found =
    let same : e.0 ≡ word = (bytes_eq-Decides e.0 word).0 is in
    let kept : e.1 ≡ k = cc in
    sym same ∙ sym own ∙ ap letters kept
found_at e k word rest false is own later found = later found

look_up-only : (es : List Entry) (k : Keyword) (word : List ℕ) → map (λ (e : Entry). letters e.1) es ≡ map (λ (e : Entry). e.0) es
    → look_up es word ≡ Some k → word ≡ letters k
look_up-only [] k word own found = absurd cc
look_up-only (e ∷ es) k word own found =
    let first : letters e.1 ≡ e.0 = cc in
    let others : map (λ (o : Entry). letters o.1) es ≡ map (λ (o : Entry). o.0) es = cc in
    found_at e k word es (bytes_eq e.0 word) refl first (look_up-only es k word others) found

letters-table : map (λ (e : Entry). letters e.1) table ≡ map (λ (e : Entry). e.0) table
unfolding table
letters-table = refl

pub keyword_of-only : (word : List ℕ) (k : Keyword) → keyword_of word ≡ Some k → word ≡ letters k
unfolding keyword_of table
keyword_of-only word k found = look_up-only table k word letters-table found

pub keyword_of-letters : (k : Keyword) → keyword_of (letters k) ≡ Some k
unfolding keyword_of
keyword_of-letters keyword.Add = refl
keyword_of-letters keyword.Alter = refl
keyword_of-letters keyword.And = refl
keyword_of-letters keyword.As = refl
keyword_of-letters keyword.Asc = refl
keyword_of-letters keyword.Begin = refl
keyword_of-letters keyword.Between = refl
keyword_of-letters keyword.Block = refl
keyword_of-letters keyword.By = refl
keyword_of-letters keyword.Cancel = refl
keyword_of-letters keyword.Close = refl
keyword_of-letters keyword.Commit = refl
keyword_of-letters keyword.Committed = refl
keyword_of-letters keyword.Count = refl
keyword_of-letters keyword.Create = refl
keyword_of-letters keyword.Critical = refl
keyword_of-letters keyword.Default = refl
keyword_of-letters keyword.Delete = refl
keyword_of-letters keyword.Desc = refl
keyword_of-letters keyword.Evict = refl
keyword_of-letters keyword.Explain = refl
keyword_of-letters keyword.Extent = refl
keyword_of-letters keyword.Fetch = refl
keyword_of-letters keyword.For = refl
keyword_of-letters keyword.From = refl
keyword_of-letters keyword.Group = refl
keyword_of-letters keyword.High = refl
keyword_of-letters keyword.In = refl
keyword_of-letters keyword.InMemory = refl
keyword_of-letters keyword.Insert = refl
keyword_of-letters keyword.Integer = refl
keyword_of-letters keyword.Into = refl
keyword_of-letters keyword.Is = refl
keyword_of-letters keyword.Isolation = refl
keyword_of-letters keyword.Level = refl
keyword_of-letters keyword.Low = refl
keyword_of-letters keyword.Max = refl
keyword_of-letters keyword.Medium = refl
keyword_of-letters keyword.MemCompress = refl
keyword_of-letters keyword.Min = refl
keyword_of-letters keyword.No = refl
keyword_of-letters keyword.None = refl
keyword_of-letters keyword.Not = refl
keyword_of-letters keyword.Null = refl
keyword_of-letters keyword.Number = refl
keyword_of-letters keyword.Of = refl
keyword_of-letters keyword.Only = refl
keyword_of-letters keyword.Open = refl
keyword_of-letters keyword.Or = refl
keyword_of-letters keyword.Order = refl
keyword_of-letters keyword.Priority = refl
keyword_of-letters keyword.Purge = refl
keyword_of-letters keyword.Query = refl
keyword_of-letters keyword.Read = refl
keyword_of-letters keyword.Rollback = refl
keyword_of-letters keyword.Run = refl
keyword_of-letters keyword.Scn = refl
keyword_of-letters keyword.Select = refl
keyword_of-letters keyword.Serializable = refl
keyword_of-letters keyword.Set = refl
keyword_of-letters keyword.Step = refl
keyword_of-letters keyword.Sum = refl
keyword_of-letters keyword.Switch = refl
keyword_of-letters keyword.Table = refl
keyword_of-letters keyword.Transaction = refl
keyword_of-letters keyword.Trickle = refl
keyword_of-letters keyword.Update = refl
keyword_of-letters keyword.Values = refl
keyword_of-letters keyword.Varchar2 = refl
keyword_of-letters keyword.Where = refl
