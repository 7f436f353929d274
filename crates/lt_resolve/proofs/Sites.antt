-- The calls of a tree.
use Rattle.std.proofs.Common.{◌≡◌, ℕ, ◌+◌, ◌<◌, ◌≤◌, Bool, false, List, [], ◌∷◌, ◌++◌, length, get_or, drop, map, Option, None, Some, Result, Ok, Err, refl, sym, ap, ◌∙◌, arith, add-one, append-nil, drop-cons}
use Rattle.std.specs.Prelude.{nat_eq}
use Rattle.std.specs.Result.{OnOk}
use Rattle.std.proofs.lemmas.Bool.Decides.{nat_tests}
use Rattle.std.proofs.lemmas.List.{append_assoc}
use Rattle.lt_base.specs.declared.memory.Or.{Or}
use Rattle.lt_base.specs.declared.memory.Or.TheVariants.{Fault, Memory}
use Rattle.lt_syntax.specs.declared.term.Term.{Term}
use Rattle.lt_syntax.specs.Tree.{Tm, Call, tms}
use Rattle.lt_syntax.specs.Views.{tm_of}
use Rattle.lt_resolve.specs.declared.fault.NameKind.{NameKind}
use Rattle.lt_resolve.specs.declared.fault.NameFault.{NameFault}
use Rattle.lt_resolve.specs.Names.{Name, number_of_name, first_some}
use Rattle.lt_resolve.specs.Uses.{Site, term_count, sites_in, argument_sites}
use Rattle.lt_resolve.specs.Faults.{Occurrence, unless}
use Rattle.lt_resolve.specs.Told.{BlamesName}
use Rattle.lt_resolve.specs.Checks.{ShowsSite}
use Rattle.lt_resolve.proofs.Lists.{drop_whole, some_here}

-- the fault at the first call that fails the test
pub blames_site : (kind : NameKind) (test : Site → Bool) (ss : List Site) (i : ℕ) (s : Site) (r : Or NameFault) → i < length ss → s ≡ get_or ss i s → first_some (λ c. unless (test c) c) (drop i ss) ≡ first_some (λ c. unless (test c) c) ss → test s ≡ false → ShowsSite kind s r → BlamesName kind (λ o. o ≡ first_some (λ c. unless (test c) c) ss) r
blames_site kind test ss i s (Fault f) l e k h w =
    let found : unless (test s) s ≡ Some (s.caller, s.name) = ap (λ b. unless b s) h in
    let pair : ◌≡◌ {A = Option Occurrence} (Some (s.caller, s.name)) (Some (f.func, f.name)) = λ j. Some (sym w.1 j, sym w.2 j) in
    (w.0, sym (some_here (λ c. unless (test c) c) ss i s (s.caller, s.name) l e found k ∙ pair))
blames_site kind test ss i s Memory l e k h w = tt

-- a call that fails the test is found
pub found_site : (test : Site → Bool) (ss : List Site) (i : ℕ) (s : Site) → i < length ss → s ≡ get_or ss i s → first_some (λ c. unless (test c) c) (drop i ss) ≡ first_some (λ c. unless (test c) c) ss → test s ≡ false → None ≡ first_some (λ c. unless (test c) c) ss → ⊥
found_site test ss i s l e k h none =
    let found : unless (test s) s ≡ Some (s.caller, s.name) = ap (λ b. unless b s) h in
    let here = some_here (λ c. unless (test c) c) ss i s (s.caller, s.name) l e found k in
    cc

pub not_equal : (m n : ℕ) → (m ≡ n → ⊥) → nat_eq m n ≡ false
not_equal m n h = grind (arith, nat_tests)

-- as many arguments as the list has
pub count_is : (args : List Term) → term_count (tms (map tm_of args)) ≡ length args
count_is [] = refl
count_is (a ∷ args) = let more = count_is args in omega (arith, more)

-- a call and the calls in its arguments
module _ (funcs : List Name) (i : ℕ) (f name : Name) (args slice : List Term) (t : Tm) (callee : Option ℕ) (n : ℕ)
    (is : t ≡ Call f (tms (map tm_of args))) (named : name ≡ f) (found : callee ≡ number_of_name funcs name) (many : n ≡ length args) (same : slice ≡ args) where
  site_is : ◌≡◌ {A = Site} (record { caller = i; name = name; callee = callee; arguments = n }) (record { caller = i; name = f; callee = number_of_name funcs f; arguments = term_count (tms (map tm_of args)) })
  site_is = λ j. record { caller = i; name = named j; callee = (found ∙ ap (number_of_name funcs) named) j; arguments = (many ∙ sym (count_is args)) j }

  pub collected : {E : Type 0} (r : Result (Unit {0}) E) (old mid new : List Site) → mid ≡ old ++ record { caller = i; name = name; callee = callee; arguments = n } ∷ [] → OnOk r (new ≡ mid ++ argument_sites funcs i (tms (map tm_of slice))) → OnOk r (new ≡ old ++ sites_in funcs i t)
  collected (Ok u) old mid new pushed h =
      h
      ∙ (λ j. (pushed ∙ ap (λ s. old ++ s ∷ []) site_is) j ++ argument_sites funcs i (tms (map tm_of (same j))))
      ∙ append_assoc old (record { caller = i; name = f; callee = number_of_name funcs f; arguments = term_count (tms (map tm_of args)) } ∷ []) (argument_sites funcs i (tms (map tm_of args)))
      ∙ ap (λ u. old ++ sites_in funcs i u) (sym is)
  collected (Err e) old mid new pushed h = tt

-- the calls in two parts, one after the other
pub sites_then : {E : Type 0} (r : Result (Unit {0}) E) (old mid new x y z : List Site) → z ≡ x ++ y → mid ≡ old ++ x → OnOk r (new ≡ mid ++ y) → OnOk r (new ≡ old ++ z)
sites_then (Ok u) old mid new x y z is first h = h ∙ ap (λ m. m ++ y) first ∙ append_assoc old x y ∙ ap (λ w. old ++ w) (sym is)
sites_then (Err e) old mid new x y z is first h = tt

-- the calls in the arguments from place k on
module _ (funcs : List Name) (i : ℕ) (args : List Term) (k : ℕ) where
  abbrev pub remaining : ℕ → List Site
  remaining m = argument_sites funcs i (tms (map tm_of (drop m args)))

  pub sites_next : (x : Term) (old new all : List Site) → k < length args → x ≡ get_or args k x → new ≡ old ++ sites_in funcs i (tm_of x) → old ++ remaining k ≡ all → new ++ remaining (k + 1) ≡ all
  sites_next x old new all l e h rest =
      let here : remaining k ≡ sites_in funcs i (tm_of x) ++ remaining (k + 1) =
      ap (λ l. argument_sites funcs i (tms (map tm_of l))) (drop-cons args k x l) ∙ (λ j. sites_in funcs i (tm_of (sym e j)) ++ remaining (sym (add-one k) j)) in
      ap (λ n. n ++ remaining (k + 1)) h ∙ append_assoc old (sites_in funcs i (tm_of x)) (remaining (k + 1)) ∙ ap (λ w. old ++ w) (sym here) ∙ rest

  pub sites_end : (new all : List Site) → length args ≤ k → new ++ remaining k ≡ all → new ≡ all
  sites_end new all l rest = sym (append-nil new) ∙ ap (λ l. new ++ argument_sites funcs i (tms (map tm_of l))) (sym (drop_whole args k l)) ∙ rest
