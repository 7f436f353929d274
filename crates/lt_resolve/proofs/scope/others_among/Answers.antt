use Rattle.std.proofs.Common.{◌≡◌, ◌++◌, List, ap, ◌∙◌}
use Rattle.std.specs.Option.{option_or}
use Rattle.std.proofs.lemmas.List.{map-append}
use Rattle.lt_syntax.specs.declared.tree.DeclText.{DeclText}
use Rattle.lt_resolve.specs.Names.{Name, if_missing, first_some}
use Rattle.lt_resolve.specs.Scopes.{declared_names}
use Rattle.lt_resolve.proofs.Lists.{some_append}
use Rattle.lt_resolve.proofs.Told.{tells_on, tells_as, refuses_first, tells_then}
use Rattle.lt_resolve.proofs.scope.others_among.Goals as goal

-- the two parts
parts : (table : List Name) (xs ys : List DeclText) → first_some (if_missing table) (declared_names (xs ++ ys)) ≡ option_or (first_some (if_missing table) (declared_names xs)) (first_some (if_missing table) (declared_names ys))
parts table xs ys = ap (first_some (if_missing table)) (map-append (λ (d : DeclText). d.name) xs ys) ∙ some_append (if_missing table) (declared_names xs) (declared_names ys)

pub returns-in_err-all_among : goal.returns-in_err-all_among
returns-in_err-all_among c =
    tells_as _ _ _ (parts c.args.names.now c.args.node.now.outs c.args.node.now.locals)
    (tells_on _ c.in_err-all_among.field-0.0 _ c.from_residual.ensures.1 (refuses_first _ _ _ c.in_err-all_among.ensures.told))

pub returns : goal.returns
returns c =
    tells_as _ _ _ (parts c.args.names.now c.args.node.now.outs c.args.node.now.locals) (tells_then _ _ _ c.in_ok-all_among.ensures.told c.all_among-2.ensures.told)
