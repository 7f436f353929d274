-- The expansion of a checked program.
use Rattle.std.proofs.Common.{◌≡◌, ℕ, zero, suc, ◌+◌, ◌^◌, ◌<◌, ◌≤◌, List, [], ◌∷◌, ◌++◌, length, get_or, replicate, All, Option, Some, refl, sym, ap, ◌∙◌, subst, arith, length-append}
use Rattle.std.specs.List.{range_with_len}
use Rattle.std.proofs.lemmas.List.{length-replicate}
use Rattle.std.proofs.lemmas.List.FromFn.{length-range_with_len}
use Rattle.lt_base.specs.Expression.{Expression}
use Rattle.lt_base.specs.Program.{Function, GoodFunction, WholeProgram, GoodProgram}
use Rattle.lt_base.specs.Meaning.{clock_of, function_of, calls}
use Rattle.lt_base.specs.Calls.{EachCall, CallsFunction}
use Rattle.lt_base.specs.Checked.{EachUse, CheckedProgram}
use Rattle.lt_base.specs.Sizes.{weight_with, parts_with, program_weight}
use Rattle.lt_base.proofs.Lookups.{all_found}
use Rattle.lt_expand.specs.Copies.{Library, grown, equations_grown, equations_copies, copied_decls, with_copies, expanded, expansion}
use Rattle.lt_expand.specs.Expansion.{ProgramExpansion}
use Rattle.lt_expand.specs.Walk.{NestsWithin, library_of, IsMade, Copyable, AreVersions, owners}
use Rattle.lt_expand.proofs.Basics.{all_equations}
use Rattle.lt_expand.proofs.Filled.{equations_filled, copied_length}
use Rattle.lt_expand.proofs.Clocks.{clocked_callless}
use Rattle.lt_expand.proofs.Expanded.{Expands, expands, streams_kept, within_all}
use Rattle.lt_expand.proofs.Weights.{expanded_weight}
use Rattle.lt_expand.proofs.Parts.{expanded_parts}
use Rattle.lt_expand.proofs.Made.{opened_is, origins_are}
use Rattle.lt_expand.proofs.Making.{function_at, version_good, version_ready, version_room}

owners_length : (lib : Library) (qs : List (ℕ × Expression)) → length (owners lib qs) ≡ equations_grown lib qs
owners_length lib [] = refl
owners_length lib (q ∷ qs) =
    let l = length-append (replicate (grown lib q.1) q.0) (owners lib qs) in
    let r = length-replicate (grown lib q.1) q.0 in
    let h = owners_length lib qs in
    omega (arith, l, r, h)

pub opened_variables : (lib : Library) (f : Function) → length (range_with_len 0 (length f.decls) ++ owners lib f.eqs) ≡ length (with_copies lib f).decls
opened_variables lib f =
    let r = length-append (range_with_len 0 (length f.decls)) (owners lib f.eqs) in
    let n = length-range_with_len 0 (length f.decls) in
    let o = owners_length lib f.eqs in
    let cs = (equations_filled lib f.decls (length f.decls) f.eqs).all in
    let l = length-append f.decls (copied_decls (equations_copies lib f.decls (length f.decls) f.eqs)) in
    let k = copied_length (equations_copies lib f.decls (length f.decls) f.eqs) in
    omega (arith, r, n, o, cs, l, k)

module _ (p : WholeProgram) (good : GoodProgram p) (checked : CheckedProgram p) where
  abbrev fs : List Function
  fs = p.funcs

  -- what is made for the functions that main calls makes its expansion
  pub expanded_whole : (versions : List (Option Function)) → AreVersions fs versions → (n : ℕ) → length fs ≡ suc n → (f : Function) → function_of fs p.main ≡ Some f → ((h : ℕ) → CallsFunction fs p.main h → IsMade versions h) → (F : Function) (origin : List ℕ) → F ≡ with_copies (library_of versions) f → origin ≡ range_with_len 0 (length f.decls) ++ owners (library_of versions) f.eqs → (F ≡ expansion p) × ProgramExpansion p F origin
  expanded_whole versions are n size f e made F origin is from =
      let within : NestsWithin fs (suc n) p.main = subst (λ k. NestsWithin fs k p.main) size (within_all p good checked p.main good.main) in
      let same : F ≡ expanded fs (suc n) p.main = is ∙ opened_is p good checked versions are n p.main f e within made in
      let whole : F ≡ expansion p = same ∙ ap (λ k. expanded fs k p.main) (sym size) in
      let x : Expands (calls fs (length fs)) F f = subst (λ F. Expands (calls fs (length fs)) F f) (sym same) (expands p good checked (suc n) p.main f e within) in (
        whole,
        record {
          main = f;
          found = e;
          keeps = record {
            name = x.name;
            inputs = x.inputs;
            outputs = x.outputs;
            more = x.more;
            declarations = x.declarations;
            callless = all_equations (λ y a. EachCall (λ g. ⊥) a) F F.eqs (all_found F x.good) (λ y a h. clocked_callless F.decls a (clock_of F.decls y) (x.clocked.rights y a h));
            streams = streams_kept p good checked F f p.main e x;
            typed = x.typed;
            clocked = x.clocked;
            causal = x.causal;
            origins = from ∙ ap (λ l. range_with_len 0 (length f.decls) ++ l) (origins_are p good checked versions are n p.main f e within made);
            each = ap length from ∙ opened_variables (library_of versions) f ∙ sym (ap (λ (F : Function). length F.decls) is);
          };
          weight = ap (weight_with (λ g. 0)) whole ∙ expanded_weight fs (length fs) p.main;
          parts = ap (parts_with (λ g. 0)) whole ∙ expanded_parts fs (length fs) p.main;
        },
      )

  -- main, as the code reads it
  module _ (P : WholeProgram) (view : P ≡ p) where
    main_is : P.main ≡ p.main
    main_is = ap (λ (P : WholeProgram). P.main) view

    main_inside : P.main < length fs
    main_inside = let m = main_is in let l = good.main in omega (arith, m, l)

    within_main : NestsWithin fs (length fs) P.main
    within_main = within_all p good checked P.main main_inside

    pub main_within : (n : ℕ) → n ≡ length P.funcs → NestsWithin fs n P.main
    main_within n e = subst (λ k. NestsWithin fs k P.main) (sym (e ∙ ap (λ (P : WholeProgram). length P.funcs) view)) within_main

    module _ (all : List (Option Function)) (all_are : AreVersions fs all) (all_made : (h : ℕ) → CallsFunction fs P.main h → IsMade all h) (versions : List (Option Function)) (same : versions ≡ all) (items : List Function) (items_are : items ≡ P.funcs) (f : Function) (read : f ≡ get_or items P.main f) where
      are : AreVersions fs versions
      are = subst (AreVersions fs) (sym same) all_are

      made : (h : ℕ) → CallsFunction fs P.main h → IsMade versions h
      made h c = subst (λ v. IsMade v h) (sym same) (all_made h c)

      found : function_of fs P.main ≡ Some f
      found = function_at p P view items items_are P.main f main_inside read

      pub main_good : GoodFunction (with_copies (library_of versions) f)
      main_good = version_good p good checked versions are P.main f found made (length fs) within_main

      pub main_ready : All (λ q. EachUse (λ h k. Copyable versions h k) q.1) f.eqs
      main_ready = version_ready p good checked versions are P.main f found made (length fs) within_main

      pub main_room : length (expansion p).decls < 2 ^ 32 → length f.decls + equations_grown (library_of versions) f.eqs < 2 ^ 32
      main_room room =
          version_room p good checked versions are P.main f found made (length fs) within_main (subst (λ g. length (expanded fs (length fs) g).decls < 2 ^ 32) (sym main_is) room)

      pub main_whole : (F : Function) (origin : List ℕ) → F ≡ with_copies (library_of versions) f → origin ≡ range_with_len 0 (length f.decls) ++ owners (library_of versions) f.eqs → (F ≡ expansion p) × ProgramExpansion p F origin
      main_whole F origin is from = go (length fs) refl
        where
          go : (k : ℕ) → length fs ≡ k → (F ≡ expansion p) × ProgramExpansion p F origin
          go zero e = absurd (let l = main_inside in omega (arith, e, l))
          go (suc n) e =
              expanded_whole versions are n e f (subst (λ g. function_of fs g ≡ Some f) main_is found) (λ h c. made h (subst (λ g. CallsFunction fs g h) (sym main_is) c)) F origin is from

-- a function has no more variables than it weighs
pub expansion_room : (p : WholeProgram) → program_weight p ≤ 4096 → length (expansion p).decls < 2 ^ 32
expansion_room p l = let w = expanded_weight p.funcs (length p.funcs) p.main in omega (arith, w, l)
