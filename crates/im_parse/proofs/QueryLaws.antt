-- Queries are read as they are spelled.
use Rattle.std.proofs.Common.{◌≡◌, ℕ, Bool, true, false, List, [], ◌∷◌, ◌++◌, Option, Some, None, refl, sym, ap, append_assoc, ◌∙◌, subst, arith}
use Rattle.std.specs.List.{AllByRecursion}
use Rattle.im_readers.specs.Reading.{Read, made, joined, optional}
use Rattle.im_readers.specs.Grammar.{Ends, at_end, at_other, BeginsWith, begins_with, Reads, never, Any, GoodJoined, GoodBoth, GoodOptional, spell_both, goes_both, goes_joined, spell_optional, goes_optional, goes_behind}
use Rattle.im_readers.proofs.Parts.{IsTable, Makes, one_law, both_law, made_law, made_good_law, agreed_law, after_law, before_law, mark_law, optional_law, GoodFirst, Choice, chosen, none_chosen, FirstKind, first_kind, picked_law}
use Rattle.im_readers.proofs.Joined.{joined_law, goes_joined-false}
use Rattle.im_syntax.specs.declared.keyword.Keyword.{Keyword}
use Rattle.im_syntax.specs.declared.keyword.Keyword.TheVariants as key
use Rattle.im_syntax.specs.declared.token.Token.{Token}
use Rattle.im_syntax.specs.declared.token.Token.TheVariants as token
use Rattle.im_syntax.specs.declared.token.Sign.TheVariants as sign
use Rattle.im_syntax.specs.declared.literal.Lit.{Lit}
use Rattle.im_syntax.specs.declared.item.Function.{Function}
use Rattle.im_syntax.specs.declared.item.Function.TheVariants as function
use Rattle.im_syntax.specs.declared.item.ItemOf.{ItemOf}
use Rattle.im_syntax.specs.declared.item.ItemOf.TheVariants as item
use Rattle.im_syntax.specs.Functions.{keyword_of, function_of}
use Rattle.im_syntax.proofs.FunctionLaws.{function_of-keyword, function_of-only, one_keyword}
use Rattle.im_syntax.specs.declared.query.Way.{Way}
use Rattle.im_syntax.specs.declared.query.Way.TheVariants as way
use Rattle.im_syntax.specs.declared.query.KeyPart.{KeyPart}
use Rattle.im_syntax.specs.declared.query.ListPart.{ListPart}
use Rattle.im_syntax.specs.declared.query.ListPart.TheVariants as list
use Rattle.im_syntax.specs.declared.query.Query.{Query}
use Rattle.im_syntax.specs.Condition.{CondOf}
use Rattle.im_syntax.specs.Words.{IsName}
use Rattle.im_syntax.specs.Rules.{IsAsked, IsItem, IsKey, IsList, IsQuery, IsWhere}
use Rattle.im_syntax.specs.declared.limits.TheConstants.{LAST_SCN}
use Rattle.im_syntax.specs.Spelling.{word, comma, in_parens, spell_names, spell_item, spell_way, spell_key, spell_list, spell_asked, spell_where, spell_groups, spell_keys, spell_query}
use Rattle.im_parse.specs.inner.Marks.{is_key, is_comma, is_star, Lead, keyword, name, lead, name_at}
use Rattle.im_parse.specs.inner.Queries.{listed, operand_by, operand_at, call_at, called_by, item_by, item_at, direction_of, is_direction, way_of, way_at, key_of, key_at, list_by, list_at, asked_at, groups_at, keys_at, query_of, query_at}
use Rattle.im_parse.proofs.MarkLaws.{Ends-never, left_mark, right_mark, comma_mark, star_mark, after_word_law, before_word_law, name_law, number_law, some_name, chosen_word}
use Rattle.im_parse.proofs.ConditionLaws.{goes_where, where_law, goes_where-false}

-- ---- a list that may be left out

-- what begins the list goes on where there is none
abbrev pub goes_listed : {A : Type 0} → (Token → Bool) → (List A → Token → Bool) → List A → Token → Bool
goes_listed begins e [] t = begins t
goes_listed begins e (a ∷ xs) t = e (a ∷ xs) t

module _ {A : Type 0} (begins : Token → Bool) {s : List A → List Token} {g : A → Type 0} {e : List A → Token → Bool} {p : List Token → Read Token (List A)}
    (spell_all : List A → List Token) (lp : Reads s (GoodJoined g) e p) (starts : (xs : List A) → GoodJoined g xs → BeginsWith begins (s xs))
    (empty : spell_all [] ≡ []) (filled : (a : A) (xs : List A) → spell_all (a ∷ xs) ≡ s (a ∷ xs)) where
  listed_forth : (o : Option (List A)) → GoodOptional (GoodJoined g) o → AllByRecursion g (listed o)
  listed_forth None h = tt
  listed_forth (Some xs) h = h.1

  listed_back : (xs : List A) → AllByRecursion g xs → Makes listed (GoodOptional (GoodJoined g)) xs
  listed_back [] h = record { of = None; is = refl; is_good = tt }
  listed_back (a ∷ xs) h = record { of = Some (a ∷ xs); is = refl; is_good = (tt, h) }

  listed_spells : (o : Option (List A)) → GoodOptional (GoodJoined g) o → spell_all (listed o) ≡ spell_optional s o
  listed_spells None h = empty
  listed_spells (Some []) h = absurd h.0
  listed_spells (Some (a ∷ xs)) h = filled a xs

  listed_goes : (o : Option (List A)) → GoodOptional (GoodJoined g) o → (t : Token) → goes_listed begins e (listed o) t ≡ goes_optional begins e o t
  listed_goes None h t = refl
  listed_goes (Some []) h t = absurd h.0
  listed_goes (Some (a ∷ xs)) h t = refl

  pub listed_law : Reads spell_all (AllByRecursion g) (goes_listed begins e) (made listed (optional begins p))
  listed_law = made_good_law spell_all (AllByRecursion g) (goes_listed begins e) listed
      (optional_law begins lp starts) listed_forth listed_back listed_spells listed_goes

-- ---- items

abbrev Part : Type 0
Part = ItemOf (List ℕ)

abbrev first_item : Part → Lead
first_item (item.Column n) = name
first_item item.CountAll = keyword key.Count
first_item (item.Aggregate f n) = keyword (keyword_of f)

item_firsts : (i : Part) → IsItem i → FirstKind lead (first_item i) (spell_item i)
item_firsts (item.Column n) g = first_kind (token.Word n) [] refl
item_firsts item.CountAll g = first_kind (word key.Count) _ refl
item_firsts (item.Aggregate f n) g = first_kind (word (keyword_of f)) _ refl

-- what a function goes over
abbrev spell_operand : Part → List Token
spell_operand item.CountAll = token.Sign sign.Star ∷ []
spell_operand (item.Aggregate f n) = token.Word n ∷ []
spell_operand (item.Column n) = []

abbrev IsOperand : Function → Part → Type 0
IsOperand f item.CountAll = function.Count ≡ f
IsOperand f (item.Aggregate g n) = (g ≡ f) × IsName n
IsOperand f (item.Column n) = ⊥

abbrev first_operand : Part → Bool
first_operand item.CountAll = true
first_operand i = false

module _ (f : Function) where
  operand_firsts : (i : Part) → IsOperand f i → FirstKind is_star (first_operand i) (spell_operand i)
  operand_firsts item.CountAll g = first_kind (token.Sign sign.Star) [] refl
  operand_firsts (item.Aggregate h n) g = first_kind (token.Word n) [] refl
  operand_firsts (item.Column n) g = absurd g

  column_operand : (i : Part) → IsOperand f i → first_operand i ≡ false → Makes (item.Aggregate f) IsName i
  column_operand (item.Aggregate h n) g e = record { of = n; is = ap (λ (k : Function). item.Aggregate k n) (sym g.0); is_good = g.1 }
  column_operand item.CountAll g e = absurd cc
  column_operand (item.Column n) g e = absurd g

all_rows : (i : Part) → IsOperand function.Count i → first_operand i ≡ true → Makes (λ (u : Unit {0}). item.CountAll) Any i
all_rows item.CountAll g e = record { of = tt; is = refl; is_good = tt }
all_rows i g e = absurd cc

-- a star stands for the rows that COUNT counts alone
no_star : (f : Function) → (function.Count ≡ f → ⊥) → (i : Part) → IsOperand f i → first_operand i ≡ true → ⊥
no_star f other item.CountAll g e = other g
no_star f other (item.Aggregate h n) g e = absurd cc
no_star f other (item.Column n) g e = absurd cc

operand_choices : (f : Function) (k : Bool) → Choice spell_operand (IsOperand f) never first_operand k (operand_by f k)
operand_choices function.Count true =
    chosen (made_law spell_operand (GoodFirst (IsOperand function.Count) first_operand true) never (λ u. item.CountAll) (mark_law star_mark)
    (λ u g. record { is_good = refl; is_first = refl }) (λ i g. all_rows i g.is_good g.is_first) (λ u. refl) (λ u t. refl))
operand_choices f true = none_chosen (λ ts. refl) (no_star f (λ e. absurd cc))
operand_choices f false =
    chosen (made_law spell_operand (GoodFirst (IsOperand f) first_operand false) never (item.Aggregate f) name_law
    (λ n g. record { is_good = (refl, g); is_first = refl }) (λ i g. column_operand f i g.is_good g.is_first) (λ n. refl) (λ n t. refl))

operand_law : (f : Function) → Reads spell_operand (IsOperand f) never (operand_at f)
unfolding operand_at
operand_law f =
    picked_law spell_operand (IsOperand f) never is_star (operand_by f) first_operand (item.Aggregate f (65 ∷ [])) (refl, some_name)
    (operand_firsts f) (operand_choices f)

module _ (f : Function) where
  call_forth : (i : Part) → IsOperand f i → GoodFirst IsItem first_item (keyword (keyword_of f)) i
  call_forth item.CountAll g = record { is_good = tt; is_first = ap (λ (k : Function). keyword (keyword_of k)) g }
  call_forth (item.Aggregate h n) g = record { is_good = g.1; is_first = ap (λ (k : Function). keyword (keyword_of k)) g.0 }
  call_forth (item.Column n) g = absurd g

  call_back : (i : Part) → IsItem i → first_item i ≡ keyword (keyword_of f) → IsOperand f i
  call_back item.CountAll g e = one_keyword function.Count f cc
  call_back (item.Aggregate h n) g e = (one_keyword h f cc, g)
  call_back (item.Column n) g e = absurd cc

  call_spells : (i : Part) → IsOperand f i → spell_item i ≡ word (keyword_of f) ∷ in_parens (spell_operand i)
  call_spells item.CountAll g = ap (λ (k : Function). word (keyword_of k) ∷ in_parens (token.Sign sign.Star ∷ [])) g
  call_spells (item.Aggregate h n) g = ap (λ (k : Function). word (keyword_of k) ∷ in_parens (token.Word n ∷ [])) g.0
  call_spells (item.Column n) g = absurd g

call_law : (f : Function) → Reads spell_item (GoodFirst IsItem first_item (keyword (keyword_of f))) never (call_at f)
unfolding call_at
call_law f =
    agreed_law spell_item (GoodFirst IsItem first_item (keyword (keyword_of f))) never
    (after_word_law (keyword_of f) (after_law left_mark (before_law right_mark (operand_law f) (λ a g. refl))))
    (call_forth f) (λ i g. call_back f i g.is_good g.is_first) (call_spells f) (λ i g t. refl)

column_back : (i : Part) → IsItem i → first_item i ≡ name → Makes item.Column IsName i
column_back (item.Column n) g e = record { of = n; is = refl; is_good = g }
column_back i g e = absurd cc

-- what begins with a keyword that is no function's is no item
no_call : (k : Keyword) → function_of k ≡ None → (i : Part) → IsItem i → first_item i ≡ keyword k → ⊥
no_call k none item.CountAll g e = let same : key.Count ≡ k = cc in let twice : Some function.Count ≡ None = ap function_of same ∙ none in absurd cc
no_call k none (item.Aggregate f n) g e =
    let same : keyword_of f ≡ k = cc in let twice : Some f ≡ None = sym (function_of-keyword f) ∙ ap function_of same ∙ none in absurd cc
no_call k none (item.Column n) g e = absurd cc

called_choices : (k : Keyword) (o : Option Function) → function_of k ≡ o → Choice spell_item IsItem never first_item (keyword k) (called_by o)
called_choices k (Some f) is =
    subst (λ (w : Keyword). Choice spell_item IsItem never first_item (keyword w) (call_at f)) (sym (function_of-only k f is)) (chosen (call_law f))
called_choices k None is = none_chosen (λ ts. refl) (no_call k is)

-- what begins with neither a keyword nor a name is no item
no_item : (l : Lead) → (l ≡ name → ⊥) → ((k : Keyword) → keyword k ≡ l → ⊥) → (i : Part) → IsItem i → first_item i ≡ l → ⊥
no_item l other none (item.Column n) g e = other (sym e)
no_item l other none item.CountAll g e = none key.Count e
no_item l other none (item.Aggregate f n) g e = none (keyword_of f) e

item_choices : (l : Lead) → Choice spell_item IsItem never first_item l (item_by l)
item_choices name =
    chosen (made_law spell_item (GoodFirst IsItem first_item name) never item.Column name_law
    (λ n g. record { is_good = g; is_first = refl }) (λ i g. column_back i g.is_good g.is_first) (λ n. refl) (λ n t. refl))
item_choices (keyword k) = called_choices k (function_of k) refl
item_choices l = none_chosen (λ ts. refl) (no_item l (λ e. absurd cc) (λ k e. absurd cc))

item_law : Reads spell_item IsItem never item_at
unfolding item_at
item_law = picked_law spell_item IsItem never lead item_by first_item item.CountAll tt item_firsts item_choices

-- ---- keys

abbrev direction_word : Bool → Keyword
direction_word false = key.Asc
direction_word true = key.Desc

abbrev direction_token : Bool → Token
direction_token b = word (direction_word b)

direction_sound : (t : Token) (a : Bool) → direction_of t ≡ Some a → (t ≡ direction_token a) × Unit {0}
direction_sound t a e =
    (chosen_word direction_token key.Asc t false a _ refl (chosen_word direction_token key.Desc t true a None refl (λ none. absurd cc)) e, tt)

direction_whole : (a : Bool) → Unit {0} → direction_of (direction_token a) ≡ Some a
direction_whole true u = refl
direction_whole false u = refl

direction_table : IsTable direction_token Any direction_of
direction_table = record { some = false; some_good = tt; sound = direction_sound; whole = direction_whole }

direction_begins : (a : Bool) → Unit {0} → BeginsWith is_direction (direction_token a ∷ [])
direction_begins true u = begins_with (word key.Desc) [] refl
direction_begins false u = begins_with (word key.Asc) [] refl

abbrev goes_way : Way → Token → Bool
goes_way way.Unsaid t = is_direction t
goes_way way.Asc t = false
goes_way way.Desc t = false

way_back : (w : Way) → Unit {0} → Makes way_of (GoodOptional Any) w
way_back way.Unsaid u = record { of = None; is = refl; is_good = tt }
way_back way.Asc u = record { of = Some false; is = refl; is_good = tt }
way_back way.Desc u = record { of = Some true; is = refl; is_good = tt }

way_spells : (o : Option Bool) → spell_way (way_of o) ≡ spell_optional (λ b. direction_token b ∷ []) o
way_spells None = refl
way_spells (Some true) = refl
way_spells (Some false) = refl

way_goes : (o : Option Bool) (t : Token) → goes_way (way_of o) t ≡ goes_optional is_direction never o t
way_goes None t = refl
way_goes (Some true) t = refl
way_goes (Some false) t = refl

way_law : Reads spell_way Any goes_way way_at
unfolding way_at
way_law = made_law spell_way Any goes_way way_of (optional_law is_direction (one_law direction_table) direction_begins) (λ o g. tt) way_back way_spells way_goes

abbrev goes_key : KeyPart → Token → Bool
goes_key k = goes_behind (spell_way k.way) (never k.item) (goes_way k.way)

key_law : Reads spell_key IsKey goes_key key_at
unfolding key_at
key_law =
    made_law spell_key IsKey goes_key key_of (both_law item_law way_law (λ a b _ _. Ends-never a (spell_way b)))
    (λ x g. g.0) (λ k g. record { of = (k.item, k.way); is = refl; is_good = (g, tt) }) (λ x. refl) (λ x t. refl)

goes_way-false : (t : Token) → is_direction t ≡ false → (w : Way) → goes_behind (spell_way w) (λ (u : Token). false) (goes_way w) t ≡ false
goes_way-false t e way.Unsaid = e
goes_way-false t e way.Asc = refl
goes_way-false t e way.Desc = refl

-- ---- the list of a query

abbrev pub goes_list : ListPart → Token → Bool
goes_list list.Star t = false
goes_list (list.Items items) t = goes_joined comma is_comma spell_item never items t

abbrev first_list : ListPart → Bool
first_list list.Star = true
first_list (list.Items items) = false

item_no_star : (i : Part) (more : List Token) → FirstKind is_star false (spell_item i ++ more)
item_no_star (item.Column n) more = first_kind (token.Word n) _ refl
item_no_star item.CountAll more = first_kind (word key.Count) _ refl
item_no_star (item.Aggregate f n) more = first_kind (word (keyword_of f)) _ refl

list_firsts : (l : ListPart) → IsList l → FirstKind is_star (first_list l) (spell_list l)
list_firsts list.Star g = first_kind (token.Sign sign.Star) [] refl
list_firsts (list.Items []) g = absurd g.0
list_firsts (list.Items (i ∷ items)) g = item_no_star i _

star_back : (l : ListPart) → IsList l → first_list l ≡ true → Makes (λ (u : Unit {0}). list.Star) Any l
star_back list.Star g e = record { of = tt; is = refl; is_good = tt }
star_back (list.Items items) g e = absurd cc

items_back : (l : ListPart) → IsList l → first_list l ≡ false → Makes list.Items (GoodJoined IsItem) l
items_back list.Star g e = absurd cc
items_back (list.Items items) g e = record { of = items; is = refl; is_good = g }

list_choices : (k : Bool) → Choice spell_list IsList goes_list first_list k (list_by k)
list_choices true =
    chosen (made_law spell_list (GoodFirst IsList first_list true) goes_list (λ u. list.Star) (mark_law star_mark)
    (λ u g. record { is_good = tt; is_first = refl }) (λ l g. star_back l g.is_good g.is_first) (λ u. refl) (λ u t. refl))
list_choices false =
    chosen (made_law spell_list (GoodFirst IsList first_list false) goes_list list.Items (joined_law comma_mark item_law (λ a g. refl))
    (λ xs g. record { is_good = g; is_first = refl }) (λ l g. items_back l g.is_good g.is_first) (λ xs. refl) (λ xs t. refl))

list_law : Reads spell_list IsList goes_list list_at
unfolding list_at
list_law = picked_law spell_list IsList goes_list is_star list_by first_list list.Star tt list_firsts list_choices

list_before_from : (l : ListPart) → IsList l → goes_list l (word key.From) ≡ false
list_before_from list.Star g = refl
list_before_from (list.Items items) g = goes_joined-false comma is_comma spell_item IsItem never (word key.From) refl (λ a h. refl) items g

-- ---- queries

abbrev name_tokens : List ℕ → List Token
name_tokens n = token.Word n ∷ []

pub names_law : Reads spell_names (GoodJoined IsName) (goes_joined comma is_comma name_tokens never) (joined is_comma name_at)
names_law = joined_law comma_mark name_law (λ a g. refl)

abbrev goes_groups : List (List ℕ) → Token → Bool
goes_groups = goes_listed (is_key key.Group) (goes_joined comma is_comma name_tokens never)

groups_law : Reads spell_groups (AllByRecursion IsName) goes_groups groups_at
unfolding groups_at
groups_law =
    listed_law (is_key key.Group) spell_groups (after_word_law key.Group (after_word_law key.By names_law))
    (λ xs g. begins_with (word key.Group) _ refl) refl (λ a xs. refl)

abbrev goes_keys : List KeyPart → Token → Bool
goes_keys = goes_listed (is_key key.Order) (goes_joined comma is_comma spell_key goes_key)

keys_law : Reads spell_keys (AllByRecursion IsKey) goes_keys keys_at
unfolding keys_at
keys_law =
    listed_law (is_key key.Order) spell_keys
    (after_word_law key.Order (after_word_law key.By (joined_law comma_mark key_law (λ k g. goes_way-false comma refl k.way))))
    (λ xs g. begins_with (word key.Order) _ refl) refl (λ a xs. refl)

groups_apart : (gs : List (List ℕ)) (ks : List KeyPart) → AllByRecursion IsName gs → AllByRecursion IsKey ks → Ends (goes_groups gs) (spell_keys ks)
groups_apart gs [] g h = at_end
groups_apart [] (k ∷ ks) g h = at_other (word key.Order) _ refl
groups_apart (n ∷ ns) (k ∷ ks) g h = at_other (word key.Order) _
    (goes_joined-false comma is_comma name_tokens IsName never (word key.Order) refl (λ a i. refl) (n ∷ ns) (tt, g))

where_apart : (c : Option (CondOf (List ℕ) Lit)) (gs : List (List ℕ)) (ks : List KeyPart) → IsWhere c → Ends (goes_where c) (spell_groups gs ++ spell_keys ks)
where_apart c (n ∷ ns) ks g = at_other (word key.Group) _ (goes_where-false (word key.Group) refl refl refl c g)
where_apart c [] [] g = at_end
where_apart c [] (k ∷ ks) g = at_other (word key.Order) _ (goes_where-false (word key.Order) refl refl refl c g)

abbrev goes_asked : Option ℕ → Token → Bool
goes_asked = goes_optional (is_key key.As) never

asked_law : Reads spell_asked IsAsked goes_asked asked_at
unfolding asked_at
asked_law =
    optional_law (is_key key.As) (after_word_law key.As (after_word_law key.Of (after_word_law key.Scn (number_law 0 LAST_SCN (omega arith)))))
    (λ n g. begins_with (word key.As) _ refl)

-- a token that is not AS ends it, whether it is written or not
asked_ends : (a : Option ℕ) (t : Token) (ts : List Token) → is_key key.As t ≡ false → Ends (goes_asked a) (t ∷ ts)
asked_ends None t ts e = at_other t ts e
asked_ends (Some n) t ts e = at_other t ts refl

-- what stands behind the SCN of a query
abbrev Clauses : Type 0
Clauses = Option (CondOf (List ℕ) Lit) × (List (List ℕ) × List KeyPart)

abbrev spell_clauses : Clauses → List Token
spell_clauses = spell_both spell_where (spell_both spell_groups spell_keys)

abbrev goes_clauses : Clauses → Token → Bool
goes_clauses = goes_both (spell_both spell_groups spell_keys) goes_where (goes_both spell_keys goes_groups goes_keys)

asked_apart : (a : Option ℕ) (c : Option (CondOf (List ℕ) Lit)) (gs : List (List ℕ)) (ks : List KeyPart) → Ends (goes_asked a) (spell_clauses (c, (gs, ks)))
asked_apart a (Some c) gs ks = asked_ends a (word key.Where) _ refl
asked_apart a None (n ∷ ns) ks = asked_ends a (word key.Group) _ refl
asked_apart a None [] (k ∷ ks) = asked_ends a (word key.Order) _ refl
asked_apart a None [] [] = at_end

-- what stands behind the table of a query
abbrev Behind : Type 0
Behind = Option ℕ × Clauses

abbrev spell_behind : Behind → List Token
spell_behind = spell_both spell_asked spell_clauses

abbrev goes_behind_table : Behind → Token → Bool
goes_behind_table = goes_both spell_clauses goes_asked goes_clauses

abbrev pub goes_query : Query → Token → Bool
goes_query q =
    goes_both (spell_both name_tokens spell_behind) never (goes_both spell_behind never goes_behind_table) (q.list, (q.table, (q.asked, (q.cond, (q.groups, q.keys)))))

query_forth : (x : ListPart × (List ℕ × Behind))
    → GoodBoth IsList (GoodBoth IsName (GoodBoth IsAsked (GoodBoth IsWhere (GoodBoth (AllByRecursion IsName) (AllByRecursion IsKey))))) x → IsQuery (query_of x)
query_forth x g = record { list = g.0; table = g.1.0; asked = g.1.1.0; cond = g.1.1.1.0; groups = g.1.1.1.1.0; keys = g.1.1.1.1.1 }

pub query_law : Reads spell_query IsQuery goes_query query_at
unfolding query_at
query_law =
    made_law spell_query IsQuery goes_query query_of
    (after_word_law key.Select
    (both_law (before_word_law key.From list_law list_before_from)
    (both_law name_law
    (both_law asked_law
    (both_law where_law (both_law groups_law keys_law groups_apart) (λ c x g h. where_apart c x.0 x.1 g))
    (λ a x g h. asked_apart a x.0 x.1.0 x.1.1))
    (λ n x g h. Ends-never n (spell_behind x)))
    (λ l x g h. Ends-never l (spell_both name_tokens spell_behind x))))
    query_forth
    (λ q g. record {
      of = (q.list, (q.table, (q.asked, (q.cond, (q.groups, q.keys)))));
      is = refl;
      is_good = (g.list, (g.table, (g.asked, (g.cond, (g.groups, g.keys)))));
    })
    (λ x. ap (λ (ts : List Token). word key.Select ∷ ts) (sym (append_assoc (spell_list x.0) (word key.From ∷ []) (spell_both name_tokens spell_behind x.1))))
    (λ x t. refl)
