-- A number past the functions of a tree names nothing.
use Rattle.std.proofs.Common.{◌≡◌, ℕ, ◌≤◌, List, ◌++◌, length, None, sym, ap, subst, ◌∙◌, append-nil}
use Rattle.std.proofs.lemmas.Option.{slice_get_past}
use Rattle.std.specs.List.{slice_get}
use Rattle.lt_syntax.specs.declared.tree.NodeText.{NodeText}
use Rattle.lt_text_values.specs.Names.{function_name, variable_name, tree_function_name, variable_in}

past_end : (t : List NodeText) (n : ℕ) → length t ≤ n → slice_get t n ≡ None
past_end t n past = slice_get_past t n past

pub no_function : (line : List ℕ) (items t : List NodeText) (func : ℕ) → items ≡ t → length items ≤ func → line ≡ line ++ function_name t func
no_function line items t func same past =
    let none : slice_get t func ≡ None = past_end t func (subst (λ (u : List NodeText). length u ≤ func) same past) in
    sym (append-nil line) ∙ ap (λ o. line ++ tree_function_name o) (sym none)

pub no_variable : (line : List ℕ) (items t : List NodeText) (func x : ℕ) → items ≡ t → length items ≤ func → line ≡ line ++ variable_name t func x
no_variable line items t func x same past =
    let none : slice_get t func ≡ None = past_end t func (subst (λ (u : List NodeText). length u ≤ func) same past) in
    sym (append-nil line) ∙ ap (λ o. line ++ variable_in o x) (sym none)
