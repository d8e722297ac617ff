-- A function and its keyword tell each other.
use Rattle.std.proofs.Common.{◌≡◌, Some, refl, sym, ap, ◌∙◌}
use Rattle.im_syntax.specs.declared.keyword.Keyword.{Keyword}
use Rattle.im_syntax.specs.declared.keyword.Keyword.TheVariants as key
use Rattle.im_syntax.specs.declared.item.Function.{Function}
use Rattle.im_syntax.specs.declared.item.Function.TheVariants as function
use Rattle.im_syntax.specs.Functions.{keyword_of, function_of}

pub function_of-keyword : (f : Function) → function_of (keyword_of f) ≡ Some f
function_of-keyword function.Count = refl
function_of-keyword f = refl

pub function_of-only : (k : Keyword) (f : Function) → function_of k ≡ Some f → k ≡ keyword_of f
function_of-only key.Count f e = let same : function.Count ≡ f = cc in ap keyword_of same
function_of-only key.Sum f e = let same : function.Sum ≡ f = cc in ap keyword_of same
function_of-only key.Min f e = let same : function.Min ≡ f = cc in ap keyword_of same
function_of-only key.Max f e = let same : function.Max ≡ f = cc in ap keyword_of same
function_of-only k f e = absurd cc

-- no two functions are written alike
pub one_keyword : (f g : Function) → keyword_of f ≡ keyword_of g → f ≡ g
one_keyword f g e = let same : Some f ≡ Some g = sym (function_of-keyword f) ∙ ap function_of e ∙ function_of-keyword g in cc
